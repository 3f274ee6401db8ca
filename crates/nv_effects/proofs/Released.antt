-- What a drain leaves to be drained, and what is held where it leaves nothing.
use Rattle.std.proofs.Common.{◌≡◌, ◌∙◌, ◌≤◌, ◌<◌, ◌-◌, ◌++◌, ℕ, zero, suc, List, [], ◌∷◌, ap, arith, cond, length, map, Option, Some, None, refl, subst}
use Rattle.std.specs.Prelude.{filter, is_none, max, min}
use Rattle.std.specs.List.{flat_map, range_with_len}
use Rattle.nv_base.specs.declared.limits.TheConstants.{DRAIN}
use Rattle.nv_book.specs.Listed.{unheld, without_first}
use Rattle.nv_book.specs.Records.{holder_of}
use Rattle.nv_book.specs.declared.record.Record.{Record}
use Rattle.nv_calls.specs.Retiring.{name_of}
use Rattle.nv_calls.specs.declared.answer.Answer.TheVariants as answers
use Rattle.nv_calls.specs.declared.call.Call.TheVariants as call
use Rattle.nv_calls.specs.declared.snapshot_or_cleaner_call.SnapshotOrCleanerCall.TheVariants as on
use Rattle.nv_entry.specs.Held.{Retention}
use Rattle.nv_machine.specs.Held.{is_of_slot}
use Rattle.nv_machine.specs.World.{Done, Reply}
use Rattle.nv_serial.specs.Committed.{erased}
use Rattle.nv_serial.specs.Free.{blocks_kept, used_by, used_in}
use Rattle.nv_serial.specs.LogPages.{Page}
use Rattle.nv_serial.specs.OneCall.{serial_call}
use Rattle.nv_serial.specs.Serial.{Outcome, Serial, deferred_in, keepers, living, log_in, slot_of, told}
use Rattle.nv_serial.specs.Snapshots.{drain_of, released}
use Rattle.nv_effects.specs.Held.{living_alone, needed_in}
use Rattle.nv_effects.proofs.Effects.{there_or_not}

-- ---- releases

unheld_less : (living : List ℕ) (rs : List Record) → length (unheld living (without_first living rs)) ≡ length (unheld living rs) - 1
unheld_less living [] = refl
unheld_less living (r ∷ rs) = go (holder_of living r) refl (unheld_less living rs) where
  go : (o : Option ℕ) → holder_of living r ≡ o → length (unheld living (without_first living rs)) ≡ length (unheld living rs) - 1
      → length (unheld living (cond (is_none o) rs (r ∷ without_first living rs)))
      ≡ length (cond (is_none o) (r ∷ unheld living rs) (unheld living rs)) - 1
  go None e rest = omega arith
  go (Some holder) e rest = rw e rest

-- the world once one was released
abbrev less : Serial → Serial
less s = erased (record s { records = without_first (living s) s.records })

released_less : (count : ℕ) (s : Serial) → length (deferred_in (released count s)) ≡ length (deferred_in s) - count
released_less zero s = omega arith
released_less (suc more) s =
    let one : length (deferred_in (less s)) ≡ length (deferred_in s) - 1 = unheld_less (living s) s.records in
    let rest : length (deferred_in (released more (less s))) ≡ length (deferred_in (less s)) - more = released_less more (less s) in
    omega (arith, one, rest)

none_left : (rs : List Record) → length rs ≡ 0 → rs ≡ []
none_left [] e = refl
none_left (r ∷ rs) e = absurd (omega (arith, e))

-- the fewest of two, where it is not the first
fewer : (most count : ℕ) → min most count < most → count ≤ min most count
fewer most count lt = grind arith

-- what an answered drain leaves; of other replies nothing is said
abbrev DrainsBy : ℕ → Reply → Serial → Type 0
DrainsBy most (Done (answers.Count count)) new = count < most → deferred_in new ≡ []
DrainsBy most other new = Unit {0}

drained_of : (most : ℕ) (s : Serial)
    → DrainsBy most (drain_of (min most (length (deferred_in s))) s).reply (drain_of (min most (length (deferred_in s))) s).world
drained_of most s = λ lt.
    let count : ℕ = min most (length (deferred_in s)) in
    let left : length (deferred_in (released count s)) ≡ length (deferred_in s) - count = released_less count s in
    let all : length (deferred_in s) ≤ count = fewer most (length (deferred_in s)) lt in
    none_left (deferred_in (released count s)) (omega (arith, left, all))

-- A DRAIN that releases fewer records than it may leaves none
pub drained_none : (old new : Serial) (actor count released_count : ℕ)
    → serial_call old actor (call.SnapshotOrCleaner (on.Drain count)) ≡ told (answers.Count released_count) new
    → released_count < max 1 (min count DRAIN) → deferred_in new ≡ []
drained_none old new actor count released_count is =
    subst (λ (o : Outcome). DrainsBy (max 1 (min count DRAIN)) o.reply o.world) is
    (there_or_not (λ (o : Outcome). DrainsBy (max 1 (min count DRAIN)) o.reply o.world) old actor
    (call.SnapshotOrCleaner (on.Drain count)) (λ there. drained_of (max 1 (min count DRAIN)) old) tt)

-- ---- what is held then

kept_alone : (s : Serial) (ino : ℕ) → deferred_in s ≡ [] → keepers s ino ≡ living_alone s
kept_alone s ino none =
    ap (λ (rs : List Record). let r : Retention = record { block = s.numbers.block; snapshots = living s; pending = map name_of (filter (is_of_slot ino) rs) } in r) none

used_alone : (s : Serial) (inos : List ℕ) → deferred_in s ≡ []
    → flat_map (used_by s) inos
    ≡ flat_map (λ ino. map (λ (p : Page). p.number) (slot_of s ino).pages ++ blocks_kept (living_alone s) (log_in s ino)) inos
used_alone s [] none = refl
used_alone s (ino ∷ inos) none =
    ap (λ (r : Retention). (map (λ (p : Page). p.number) (slot_of s ino).pages ++ blocks_kept r (log_in s ino)) ++ flat_map (used_by s) inos)
    (kept_alone s ino none)
    ∙ ap (λ (rest : List ℕ). (map (λ (p : Page). p.number) (slot_of s ino).pages ++ blocks_kept (living_alone s) (log_in s ino)) ++ rest)
    (used_alone s inos none)

-- WHERE NOTHING WAITS the blocks in use are those that the tree and the living snapshots need
pub used_needed : (s : Serial) → deferred_in s ≡ [] → used_in s ≡ needed_in s
used_needed s none = used_alone s (range_with_len 0 (length s.slots)) none
