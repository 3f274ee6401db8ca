-- A tidying of a store: a drain, and a cleaning of the log of the root.
use Rattle.std.proofs.Common.{◌≡◌, ◌∙◌, ◌*◌, ◌<◌, ◌≤◌, ◌⊎◌, ℕ, Bool, true, false, [], Ok, Err, ap, ap₂, arith, inl, inr, length, map, refl, subst, sym}
use Rattle.std.specs.Prelude.{if◌then◌else◌, max, min, nat_le, nat_lt}
use Rattle.std.specs.List.{AllByRecursion}
use Rattle.std.proofs.lemmas.Bool.{true≢false}
use Rattle.nv_base.specs.Memory.{out_of_memory}
use Rattle.nv_base.specs.declared.fault.Fault.{Fault}
use Rattle.nv_base.specs.declared.fault.Fault.TheVariants as fault
use Rattle.nv_base.specs.declared.limits.TheConstants.{DRAIN}
use Rattle.nv_book.specs.Listed.{unheld}
use Rattle.nv_calls.specs.Plain.{node_in}
use Rattle.nv_calls.specs.declared.answer.Answer.TheVariants as answers
use Rattle.nv_calls.specs.declared.call.Call.TheVariants as call
use Rattle.nv_calls.specs.declared.snapshot_or_cleaner_call.SnapshotOrCleanerCall.TheVariants as on
use Rattle.nv_cell.specs.Readers.{has_entry}
use Rattle.nv_clean.specs.declared.cleaned.Cleaned.{Cleaned}
use Rattle.nv_core.specs.Worlds.{WorldState}
use Rattle.nv_entry.specs.Tree.{root}
use Rattle.nv_machine.specs.PlainRun.{Copy, Plain}
use Rattle.nv_machine.specs.World.{Done, Reply}
use Rattle.nv_serial.specs.Cleaning.{auto, entries_staying, fast, pages_filled, thorough, thorough_if}
use Rattle.nv_serial.specs.Free.{row_of}
use Rattle.nv_serial.specs.OneCall.{serial_call}
use Rattle.nv_serial.specs.Serial.{Outcome, Serial, copies_now, deferred_in, log_in, refused, told}
use Rattle.nv_effects.specs.Causes.{IsCleanerCause}
use Rattle.nv_effects.specs.Snapshots.{KeepsPlain}
use Rattle.nv_effects.specs.Sound.{IsSoundWorld}
use Rattle.nv_effects.proofs.Causes.{refused_cause_on}
use Rattle.nv_effects.proofs.Drained.{calls_keep_plain}
use Rattle.nv_effects.proofs.Effects.{there_or_not}
use Rattle.nv_effects.proofs.Released.{drained_none, used_needed}
use Rattle.nv_files.specs.Stands.{Leads}
use Rattle.nv_files.specs.Told.{IsToldOrStarved}
use Rattle.nv_files.proofs.Standing.{files_sound}
use Rattle.nv_example_store.specs.Faults.{IsTidyCause}
use Rattle.nv_example_store.specs.Held.{SameStore, TidiesBy}
use Rattle.nv_example_store.specs.Stored.{HoldFiles, HoldsStore, Steps, value_in}
use Rattle.nv_example_store.specs.Tidied.{after, drained}
use Rattle.nv_example_store.proofs.Puts.{root_of}
use Rattle.nv_example_store.proofs.StoreSteps.{world_after}

-- the number of a drain that releases as many records as it may
abbrev pub all_records : ℕ
all_records = 18446744073709551615

keeps_holds : (s t : Serial) → KeepsPlain s t → HoldsStore s → HoldsStore t
keeps_holds s t keeps holds = record {
  now = subst (λ (p : Plain). HoldFiles (node_in p.nodes)) (sym keeps.plain) holds.now;
  backups = subst (λ (p : Plain). AllByRecursion (λ (copy : Copy). HoldFiles copy.nodes) p.copies) (sym keeps.plain) holds.backups;
  slots = subst (λ (n : ℕ). 2 ≤ n) (sym keeps.slots) holds.slots;
}

keeps_value : (s t : Serial) → KeepsPlain s t → SameStore s t
keeps_value s t keeps = ap value_in keeps.plain

-- ---- what waits

-- a drain counts the records that it releases; of other replies nothing is said
abbrev CountsBy : ℕ → ℕ → Reply → Type 0
CountsBy most waiting (Done (answers.Count count)) = count ≡ min (max 1 (min most DRAIN)) waiting
CountsBy most waiting other = Unit {0}

drain_counts : (s t : Serial) (most count : ℕ) → serial_call s 0 (call.SnapshotOrCleaner (on.Drain most)) ≡ told (answers.Count count) t
    → count ≡ min (max 1 (min most DRAIN)) (length (deferred_in s))
drain_counts s t most count is =
    subst (λ (o : Outcome). CountsBy most (length (deferred_in s)) o.reply) is
    (there_or_not (λ (o : Outcome). CountsBy most (length (deferred_in s)) o.reply) s 0 (call.SnapshotOrCleaner (on.Drain most))
    (λ there. refl) tt)

few : (most limit waiting count : ℕ) → limit ≤ most → count ≡ min (max 1 (min most limit)) waiting → waiting < limit
    → count < max 1 (min most limit)
few most limit waiting count more is lt = grind arith

-- where fewer records wait than a drain may release, none waits after it
drain_leaves_none : (s t : Serial) (count : ℕ)
    → serial_call s 0 (call.SnapshotOrCleaner (on.Drain all_records)) ≡ told (answers.Count count) t
    → length (deferred_in s) < DRAIN → deferred_in t ≡ []
drain_leaves_none s t count is lt =
    drained_none s t 0 all_records count is
    (few all_records DRAIN (length (deferred_in s)) count (omega arith) (drain_counts s t all_records count is) lt)

-- a cleaner leaves the records
module _ (s : Serial) (ino : ℕ) where
  abbrev Leaves : Outcome → Type 0
  Leaves o = o.world.records ≡ s.records

  either_leaves : (b : Bool) (one other : Outcome) → Leaves one → Leaves other → Leaves (if b then one else other)
  either_leaves true one other a b = a
  either_leaves false one other a b = b

  thorough_leaves : (some_go room : Bool) → Leaves (thorough_if some_go room s 0 ino)
  thorough_leaves false room = refl
  thorough_leaves true false = refl
  thorough_leaves true true = refl

  auto_leaves : Leaves (serial_call s 0 (call.SnapshotOrCleaner (on.Auto ino)))
  auto_leaves =
      there_or_not Leaves s 0 (call.SnapshotOrCleaner (on.Auto ino))
      (λ there. either_leaves (has_entry (log_in s ino)) (auto s 0 ino) (refused fault.Stale s)
      (either_leaves (nat_lt (2 * length (entries_staying s ino)) (length (log_in s ino))) (thorough s 0 ino) (fast s ino)
      (thorough_leaves (nat_lt (length (entries_staying s ino)) (length (log_in s ino)))
      (nat_le (pages_filled s ino) (length (row_of s 0)))) refl) refl) refl

-- so as many wait as before
same_deferred : (s t : Serial) (cleaned : Cleaned)
    → serial_call s 0 (call.SnapshotOrCleaner (on.Auto 0)) ≡ told (answers.Cleaned cleaned.thorough cleaned.entries cleaned.pages) t
    → KeepsPlain s t → deferred_in t ≡ deferred_in s
same_deferred s t cleaned is keeps =
    ap₂ unheld (ap (λ (p : Plain). map (λ (c : Copy). c.snapshot) p.copies) keeps.plain)
    (subst (λ (o : Outcome). o.world.records ≡ s.records) is (auto_leaves s 0))

-- ---- why it is refused

-- the log of the root has an entry
root_log : (s : Serial) → IsSoundWorld s → has_entry (log_in s 0) ≡ true
root_log s sound = let there = root_of (copies_now s) sound.tree in sound.logs root there.node there.is

clean_cause : (s u : Serial) (why : Fault) → u ≡ drained s → IsSoundWorld u → IsCleanerCause u 0 0 why → IsTidyCause s why
clean_cause s u fault.Stale world sound cause = absurd (true≢false (sym (root_log u sound) ∙ cause))
clean_cause s u fault.NoSpace world sound cause =
    inl (refl, subst (λ (v : Serial). length (row_of v 0) < pages_filled v 0) world cause)
clean_cause s u other world sound cause = absurd cause

-- a drain is refused for want of memory alone
pub drain_refused : (why : Fault) (old new : WorldState)
    → Leads (IsToldOrStarved (call.SnapshotOrCleaner (on.Drain all_records)) (Err why) (λ count. answers.Count count)) old new
    → Steps (TidiesBy (Err why)) old new
drain_refused why old new leads = λ s stands holds.
    let known = leads s stands in (
      known.0,
      (ap (λ (u : Serial). value_in u.plain) known.1.1, cause s (files_sound old s stands) known.1.0),
      known.2,
      subst HoldsStore (sym known.1.1) holds,
    ) where
      cause : (s : Serial) → IsSoundWorld s
          → (serial_call s 0 (call.SnapshotOrCleaner (on.Drain all_records)) ≡ refused why s) ⊎ (why ≡ out_of_memory) → IsTidyCause s why
      cause s sound (inl is) = absurd (refused_cause_on s s 0 (on.Drain all_records) why sound.actors is)
      cause s sound (inr starved) = inr starved

pub clean_refused : (count : ℕ) (why : Fault) (old mid new : WorldState)
    → Leads (IsToldOrStarved (call.SnapshotOrCleaner (on.Drain all_records)) (Ok count) (λ many. answers.Count many)) old mid
    → Leads (IsToldOrStarved (call.SnapshotOrCleaner (on.Auto 0)) (Err why)
    (λ (done : Cleaned). answers.Cleaned done.thorough done.entries done.pages)) mid new
    → Steps (TidiesBy (Err why)) old new
clean_refused count why old mid new drains cleans = λ s stands holds.
    let one = drains s stands in
    let first = calls_keep_plain s one.0 0 (on.Drain all_records) (answers.Count count) refl one.1 in
    let two = cleans one.0 one.2 in
    let world : one.0 ≡ drained s = world_after s one.0 (call.SnapshotOrCleaner (on.Drain all_records)) (answers.Count count) one.1 in (
      two.0,
      (
        ap (λ (u : Serial). value_in u.plain) two.1.1 ∙ keeps_value s one.0 first,
        cause s one.0 world (files_sound mid one.0 one.2) two.1.0,
      ),
      two.2,
      subst HoldsStore (sym two.1.1) (keeps_holds s one.0 first holds),
    ) where
      cause : (s u : Serial) → u ≡ drained s → IsSoundWorld u
          → (serial_call u 0 (call.SnapshotOrCleaner (on.Auto 0)) ≡ refused why u) ⊎ (why ≡ out_of_memory) → IsTidyCause s why
      cause s u world sound (inl is) = clean_cause s u why world sound (refused_cause_on u u 0 (on.Auto 0) why sound.actors is)
      cause s u world sound (inr starved) = inr starved

-- ---- BLOCKS ARE GIVEN BACK, and the store stays

pub tidy_step : (count : ℕ) (cleaned : Cleaned) (old mid new : WorldState)
    → Leads (IsToldOrStarved (call.SnapshotOrCleaner (on.Drain all_records)) (Ok count) (λ many. answers.Count many)) old mid
    → Leads (IsToldOrStarved (call.SnapshotOrCleaner (on.Auto 0)) (Ok cleaned)
    (λ (done : Cleaned). answers.Cleaned done.thorough done.entries done.pages)) mid new
    → Steps (TidiesBy (Ok tt)) old new
tidy_step count cleaned old mid new drains cleans = λ s stands holds.
    let one = drains s stands in
    let u : Serial = one.0 in
    let first = calls_keep_plain s u 0 (on.Drain all_records) (answers.Count count) refl one.1 in
    let two = cleans u one.2 in
    let t : Serial = two.0 in
    let second = calls_keep_plain u t 0 (on.Auto 0) (answers.Cleaned cleaned.thorough cleaned.entries cleaned.pages) refl two.1 in
    let world : u ≡ drained s = world_after s u (call.SnapshotOrCleaner (on.Drain all_records)) (answers.Count count) one.1 in
    let same : deferred_in t ≡ deferred_in u = same_deferred u t cleaned two.1 second in (
      t,
      (
        keeps_value u t second ∙ keeps_value s u first,
        record {
          world = world_after u t (call.SnapshotOrCleaner (on.Auto 0))
              (answers.Cleaned cleaned.thorough cleaned.entries cleaned.pages) two.1
              ∙ ap (λ (v : Serial). after v (call.SnapshotOrCleaner (on.Auto 0))) world;
          none_waits = λ lt. same ∙ drain_leaves_none s u count one.1 lt;
          needed = used_needed t;
        },
      ),
      two.2,
      keeps_holds u t second (keeps_holds s u first holds),
    )
