-- A step that moves lowers the bound; and what the bound is at the start of a call.
use Rattle.std.proofs.Common.{Bool, List, None, Some, [], ap, arith, false, length, nat_lt, refl, suc, sym, true, zero, ℕ, ◌*◌, ◌+◌, ◌-◌, ◌<◌, ◌∙◌, ◌∷◌, ◌≡◌, ◌≤◌}
use Rattle.std.proofs.lemmas.Bool.{false≢true, ltb-true}
use Rattle.std.specs.Prelude.{max, min}
use Rattle.nv_base.specs.declared.limits.TheConstants.{DRAIN, INODES}
use Rattle.nv_calls.specs.AllCalls.{early, effect, looked, refusal}
use Rattle.nv_calls.specs.declared.call.Call.{Call}
use Rattle.nv_machine.specs.Bound.{Falls, bound, most_steps, most_steps_of, rank, rank_behind, round}
use Rattle.nv_machine.specs.Kinds.{blocks_in, given}
use Rattle.nv_machine.specs.Reads.{copies, slots_of, written_slots}
use Rattle.nv_machine.specs.Sequence.{Beginning, Locks, Looks, Numbers, Maintains, Visits, beginning, begun, directories, first_clean, new_draining, nothing_looked, slots_on, started}
use Rattle.nv_machine.specs.SnapshotOrCleaner.{copies_at, first_showing, seen_on, show_or_unpin, visited}
use Rattle.nv_machine.specs.Step.{ending_at, is_numbered, kind_turn, made_in, same_looked}
use Rattle.nv_machine.specs.World.{Append, Auto, ReturnNumber, Check, Close, Drop, Ending, Enter, Fast, Give, HandState, Leave, Lock, LockPicked, Look, Make, Manner, Next, Number, Open, Pick, Pin, Publish, Ready, Release, Retire, Running, Shared, Show, Showing, SnapshotOrCleanerStep, SnapshotOrCleaner, TakeBlocks, TakeLogPages, Thorough, Unlock, Unpin, Visit, Compact, Fresh, PlanCleaning, LockCleaned, Unlink}
use Rattle.std.proofs.lemmas.Nat.{mul-le}
use Rattle.nv_machine.proofs.SlotBounds.{home_from-above, slots_of-length, written-length}
use Rattle.nv_machine.proofs.FileStepBounds.{Lower, append_from, append_next, behind_of, ends_fall, falls_so, first_lock, lasts_fall, lock_next, look_next, none_behind, overs_fall, publish_from, publish_next, rests_fall, retire_from, retire_next}
use Rattle.nv_machine.proofs.NextSteps.{Untold}
use Rattle.nv_machine.proofs.StepWays.{After, EndsBy, noted, numbered_slots}
use Rattle.nv_machine.proofs.StepWalk.{WaysOf, walk_of}
use Rattle.nv_machine.proofs.FirstSteps.{clean_by}
use Rattle.nv_machine.proofs.SnapshotOrCleanerWalk.{StepWaysOf, step_walk_by}
use Rattle.nv_calls.specs.declared.call.Call.TheVariants as call
use Rattle.nv_calls.specs.declared.snapshot_or_cleaner_call.SnapshotOrCleanerCall.TheVariants as on
use Rattle.nv_reader.specs.Walk as walk

-- ---- shows

-- the next step of a show, with as many visits left as it may make
show_rank : (c n snapshot left : ℕ) (visits : List walk.Visit) (showing : Showing) → showing.left ≡ left
    → rank c n (SnapshotOrCleaner (show_or_unpin left visits snapshot showing)) ≤ 2 + left
show_rank c n snapshot zero visits showing e = omega arith
show_rank c n snapshot (suc left) [] showing e = omega arith
show_rank c n snapshot (suc left) (visit ∷ visits) showing e = omega (arith, e)

-- or with one less than before
show_next : (c n snapshot before left : ℕ) (visits : List walk.Visit) (showing : Showing) → showing.left ≡ left → left ≡ before - 1
    → rank c n (SnapshotOrCleaner (show_or_unpin left visits snapshot showing)) < 2 + before
show_next c n snapshot before zero visits showing e f = omega arith
show_next c n snapshot before (suc left) [] showing e f = omega arith
show_next c n snapshot before (suc left) (visit ∷ visits) showing e f = omega (arith, e, f)

-- ---- every kind

numbered_few : (numbers : List ℕ) (s : Shared) (r : Running) → length (numbered_slots numbers s r) ≤ 5
numbered_few [] s r = slots_of-length s None r.looked r.call
numbered_few (ino ∷ numbers) s r = slots_of-length s (Some ino) r.looked r.call

module _ (block actor : ℕ) (granted : Bool) (s : Shared) (h : HandState) (r : Running) where
  abbrev cpus : ℕ
  cpus = length s.lists

  abbrev most : Next → ℕ
  most k = rank_behind cpus r.ending + r.rounds * round cpus + rank cpus (length r.slots) k

  ends : {slots : List ℕ} {t : Shared} {x : HandState} {q : Running} {e : Ending} (k : Next)
      → rank_behind cpus e + q.rounds * round cpus + (3 + cpus + length q.slots) < most k
      → EndsBy (Lower cpus (most k)) Untold slots t x q e
  ends k low = ends_fall cpus (most k) low

  none_behind_check : (e : Ending) → ending_at block s h r ≡ Some e → rank_behind cpus e ≡ 0
  none_behind_check e by =
      sym (ap (behind_of cpus) by)
      ∙ none_behind cpus (early (copies s) r.call) (same_looked (looked (copies s) r.call) r.looked) (refusal block (copies s) r.call)
      (is_numbered (beginning r.call) h.ino) (effect (copies s) (made_in s h.ino r.made) r.call)

  step_ways : (step : SnapshotOrCleanerStep) → StepWaysOf (Lower cpus (most (SnapshotOrCleaner step))) Untold step actor granted s h r
  step_ways Make = (λ fault by. ends (SnapshotOrCleaner Make) (omega arith), λ clear. tt)
  step_ways (Drop snapshot) = (λ fault by. ends (SnapshotOrCleaner (Drop snapshot)) (omega arith), λ clear. tt)
  step_ways (Pin snapshot) = (
    λ none. ends (SnapshotOrCleaner (Pin snapshot)) (omega arith),
    λ clear. (let next = show_rank cpus (length r.slots) snapshot INODES (first_showing s).visits (first_showing s) refl in
        omega (arith, next)),
  )
  step_ways (Show snapshot showing) = (
    λ lacks. omega arith,
    λ clear. (let seen = seen_on (copies_at s snapshot (visited showing.visits)) showing in
        let next = show_next cpus (length r.slots) snapshot showing.left (showing.left - 1) seen.visits seen refl refl in
        omega (arith, next)),
  )
  step_ways (Unpin snapshot seen) = λ clear. tt
  step_ways (Pick draining) =
      (λ lacks first. ends (SnapshotOrCleaner (Pick draining)) (omega arith), λ empty. tt, λ picked rest free is. omega arith)
  step_ways (LockPicked draining picked) = λ free. omega arith
  step_ways (Release draining picked) = ends (SnapshotOrCleaner (Release draining picked)) (omega arith)
  step_ways (LockCleaned manner ino) = λ free. omega arith
  step_ways (PlanCleaning manner slot) = (
    λ none. ends (SnapshotOrCleaner (PlanCleaning manner slot)) (omega arith),
    λ some lacks. ends (SnapshotOrCleaner (PlanCleaning manner slot)) (omega arith),
    λ ino is some. record {
      fast = λ plain. omega arith;
      some = λ n plain more. omega arith;
      none = λ plain less. ends (SnapshotOrCleaner (PlanCleaning manner slot)) (omega arith);
    },
  )
  step_ways (Fresh ino asked wanted) = record {
    ready = λ q. omega arith;
    more = λ n q m. omega (arith, ltb-true (asked + 1) cpus m);
    short = λ n q m. ends (SnapshotOrCleaner (Fresh ino asked wanted)) (omega arith);
  }
  step_ways (Unlink ino) = ends (SnapshotOrCleaner (Unlink ino)) (omega arith)
  step_ways (Compact ino) = ends (SnapshotOrCleaner (Compact ino)) (omega arith)

  ways : (k : Next) → WaysOf (Lower cpus (most k)) Untold k block actor granted s h r
  ways Number = omega (arith, first_lock cpus (numbered_slots s.pool.numbers s r) (numbered_few s.pool.numbers s r))
  ways (Look place) = (
    λ fault free by. record {
      unlock = λ some. absurd (omega (arith, some));
      overs = λ none. overs_fall cpus (most (Look place)) (omega arith);
    },
    λ clear. omega (
      arith,
      look_next cpus place (noted (Look place) block s h r) (nat_lt (place + 1) (length (directories r.call))) refl
          (slots_of-length s None (noted (Look place) block s h r).looked r.call),
    ),
  )
  ways (Lock place) = λ free. omega (arith, lock_next cpus place (length r.slots) (nat_lt (place + 1) (length r.slots)) refl)
  ways Check = (
    λ e by. ends Check (omega (arith, none_behind_check e by)),
    λ none lacks. ends Check (omega arith),
    λ none. record { more = λ n is ask. omega arith; pages = λ n few is. omega arith; ready = λ few is. omega arith },
  )
  ways (TakeBlocks asked) = (
    record {
      more = λ n is ask. omega (arith, ltb-true (asked + 1) cpus ask);
      pages = λ n few is. omega arith;
      ready = λ few is. omega arith;
    },
    λ n is last. ends (TakeBlocks asked) (omega arith),
  )
  ways (TakeLogPages asked) = (
    record {
      more = λ n is ask. omega (arith, ltb-true (asked + 1) cpus ask);
      pages = λ n few is. cc;
      ready = λ few is. omega arith;
    },
    λ n is last. ends (TakeLogPages asked) (omega arith),
  )
  ways Ready = (λ lacks. ends Ready (omega arith), omega arith)
  ways Enter = (
    λ free last. ends Enter (omega arith),
    λ clear lacks. ends Enter (omega arith),
    λ clear. omega (arith, append_from cpus (length r.slots) 0 (written_slots r) (nat_lt 0 (length (written_slots r)))),
  )
  ways (Append place) = omega (
    arith,
    append_next cpus (length r.slots) place (written_slots r) (nat_lt (place + 1) (length (written_slots r))) refl (written-length r),
  )
  ways Open = omega (arith, publish_from cpus (length r.slots) 0 (written_slots r) (nat_lt 0 (length (written_slots r))))
  ways (Publish place) = omega (
    arith,
    publish_next cpus (length r.slots) place (written_slots r) (nat_lt (place + 1) (length (written_slots r))) refl (written-length r),
  )
  ways Close = omega (arith, retire_from cpus (length r.slots) 0 (nat_lt 0 (length (written_slots r))))
  ways (Retire place) = omega (
    arith,
    retire_next cpus place (length r.slots) (length (written_slots r)) (nat_lt (place + 1) (length (written_slots r))) refl
        (written-length r),
  )
  ways Leave = ends Leave (omega arith)
  ways (Unlock place) = (
    λ more. omega (arith, ltb-true (place + 1) (length r.slots) more),
    λ past. overs_fall cpus (most (Unlock place)) (omega arith),
  )
  ways (Give cpu) =
      rests_fall cpus (most (Give cpu))
      (λ to e. let above = home_from-above (cpu + 1) 0 s.lists (blocks_in (given cpu s h)) to e in omega (arith, above.0, above.1))
      (omega arith)
  ways ReturnNumber = lasts_fall cpus (most ReturnNumber) (omega arith)
  ways Visit = (λ fault free by. ends Visit (omega arith), λ free passed lacks. ends Visit (omega arith), λ free passed. tt)
  ways (SnapshotOrCleaner step) = tt

  walks : (k : Next) → After (Lower cpus (most k)) Untold (kind_turn k block actor granted s h r)
  walks (SnapshotOrCleaner step) =
      step_walk_by (Unit {0}) (Lower cpus (most (SnapshotOrCleaner step))) Untold actor s h r step granted (λ blocked. tt) (step_ways step)
  walks other = walk_of (Lower cpus (most other)) Untold block actor s h r other granted (ways other) refl

  falls_by : (k : Next) → Falls cpus (most k) (kind_turn k block actor granted s h r)
  falls_by k = falls_so cpus (most k) (kind_turn k block actor granted s h r) (walks k)

pub falls : (k : Next) (block actor : ℕ) (granted : Bool) (s : Shared) (h : HandState) (r : Running)
    → Falls (length s.lists)
    (rank_behind (length s.lists) r.ending + r.rounds * round (length s.lists) + rank (length s.lists) (length r.slots) k)
    (kind_turn k block actor granted s h r)
falls k block actor granted s h r = falls_by block actor granted s h r k

-- ---- at its start a call has at most eight rounds, a visit for each inode, or a round for each record

abbrev is_of_files : Beginning → Bool
is_of_files (Maintains what) = false
is_of_files other = true

file_bound : (b : Beginning) (s : Shared) (c : Call) → is_of_files b ≡ true
    → bound (length s.lists) (begun b s c) ≤ 8 * round (length s.lists)
file_bound Locks s c is = omega (
  arith,
  first_lock (length s.lists) (slots_of s None nothing_looked c) (slots_of-length s None nothing_looked c),
)
file_bound (Maintains what) s c is = absurd (false≢true is)
file_bound other s c is = omega arith

-- a drain's records
most_left : (c count : ℕ) → (new_draining count).left * round c ≤ DRAIN * round c
most_left c count = mul-le (new_draining count).left (round c) DRAIN (round c) (few count) (omega arith) where
  few : (n : ℕ) → max 1 (min n DRAIN) - 1 ≤ DRAIN
  few n = omega arith

-- a cleaner
clean_bound : (s : Shared) (c : Call) (manner : Manner) (ino : ℕ) → let step = first_clean (length s.cells) manner ino in
    bound (length s.lists) (started c (SnapshotOrCleaner step) (slots_on step)) ≤ 8 * round (length s.lists) + INODES
clean_bound s c = clean_by
    (λ (step : SnapshotOrCleanerStep).
    bound (length s.lists) (started c (SnapshotOrCleaner step) (slots_on step)) ≤ 8 * round (length s.lists) + INODES)
    (length s.cells) (λ manner ino inside. omega arith) (λ manner. omega arith)

pub begun_bound : (s : Shared) (c : Call) → bound (length s.lists) (begun (beginning c) s c) ≤ most_steps_of c (length s.lists)
begun_bound s (call.Create dir name mode) = file_bound Numbers s (call.Create dir name mode) refl
begun_bound s (call.Mkdir dir name mode) = file_bound Numbers s (call.Mkdir dir name mode) refl
begun_bound s (call.Write file offset text) = file_bound Locks s (call.Write file offset text) refl
begun_bound s (call.Read file offset count) = file_bound Visits s (call.Read file offset count) refl
begun_bound s (call.Size file size) = file_bound Locks s (call.Size file size) refl
begun_bound s (call.Mode handle mode) = file_bound Locks s (call.Mode handle mode) refl
begun_bound s (call.Stat handle) = file_bound Visits s (call.Stat handle) refl
begun_bound s (call.List dir) = file_bound Visits s (call.List dir) refl
begun_bound s (call.Lookup dir name) = file_bound Visits s (call.Lookup dir name) refl
begun_bound s (call.Unlink dir name) = file_bound Looks s (call.Unlink dir name) refl
begun_bound s (call.Rmdir dir name) = file_bound Looks s (call.Rmdir dir name) refl
begun_bound s (call.Rename from old to new) = file_bound Looks s (call.Rename from old to new) refl
begun_bound s (call.SnapshotOrCleaner on.Snap) = omega arith
begun_bound s (call.SnapshotOrCleaner (on.Drop snapshot)) = omega arith
begun_bound s (call.SnapshotOrCleaner (on.Show snapshot)) = omega arith
begun_bound s (call.SnapshotOrCleaner (on.Drain count)) = omega (arith, most_left (length s.lists) count)
begun_bound s (call.SnapshotOrCleaner (on.Fast ino)) = clean_bound s (call.SnapshotOrCleaner (on.Fast ino)) Fast ino
begun_bound s (call.SnapshotOrCleaner (on.Thorough ino)) = clean_bound s (call.SnapshotOrCleaner (on.Thorough ino)) Thorough ino
begun_bound s (call.SnapshotOrCleaner (on.Auto ino)) = clean_bound s (call.SnapshotOrCleaner (on.Auto ino)) Auto ino

-- and so of any call
pub steps_of_any : (c : Call) (cpus : ℕ) → most_steps_of c cpus ≤ most_steps cpus
steps_of_any (call.SnapshotOrCleaner on.Snap) cpus = omega arith
steps_of_any other cpus = omega arith

-- and some step is left as long as it runs
pub some_left : (cpus slots : ℕ) (k : Next) → 0 < rank cpus slots k
some_left cpus slots (SnapshotOrCleaner Make) = omega arith
some_left cpus slots other = omega arith
