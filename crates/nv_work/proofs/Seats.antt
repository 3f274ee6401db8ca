-- The seats of threads and cleaners, and that a call leaves a session on its seat.
use Rattle.std.proofs.Common.{◌≡◌, ◌≢◌, ℕ, ◌+◌, ◌<◌, ◌≤◌, ◌⊎◌, inl, inr, zero, suc, List, [], ◌∷◌, ◌∙◌, length, map, refl, ap, sym, subst, arith}
use Rattle.std.proofs.lemmas.Bool.{cases_eq, eq-eqb, ne_eqb}
use Rattle.std.proofs.lemmas.List.FromFn.{length-range_with_len}
use Rattle.std.specs.List.{range_with_len}
use Rattle.nv_alloc.proofs.Lists.{times-cons}
use Rattle.nv_alloc.specs.Numbers.{times}
use Rattle.nv_calls.specs.declared.call.Call.{Call}
use Rattle.nv_calls.specs.declared.call.Call.TheVariants as call
use Rattle.nv_calls.specs.declared.snapshot_or_cleaner_call.SnapshotOrCleanerCall.{SnapshotOrCleanerCall}
use Rattle.nv_calls.specs.declared.snapshot_or_cleaner_call.SnapshotOrCleanerCall.TheVariants as snapshot_or_cleaner
use Rattle.nv_calls.specs.declared.update.Update.{Update}
use Rattle.nv_calls.specs.declared.update.Update.TheVariants as update
use Rattle.nv_base.specs.Memory.{out_of_memory}
use Rattle.nv_base.specs.declared.fault.Fault.{Fault}
use Rattle.nv_base.specs.declared.fault.Fault.TheVariants as fault
use Rattle.nv_core.specs.AtRest.{IsBusy, IsMismatchOf, Parts}
use Rattle.nv_machine.specs.World.{World}
use Rattle.nv_service.specs.ByValue.{IsMadeAs, after_snapshot_or_cleaner}
use Rattle.nv_service.specs.Closing.{IsDifference}
use Rattle.nv_service.specs.UnlockedParts.{BesideCellValue}
use Rattle.nv_service.specs.Seats.{AreSeats, new_session}
use Rattle.nv_service.specs.Sessions.{HeldValue, IsChangedBy, IsCommittedBy, IsViewedBy, SessionValue, with_held}
use Rattle.nv_sessions.specs.declared.seen.Seen.{Seen}
use Rattle.nv_sessions.specs.declared.seen.Seen.TheVariants as seen
use Rattle.nv_work.specs.Working.{RefusesThreads}

-- ---- numbers in a row

times-below : (n a k : ℕ) → k < a → times k (range_with_len a n) ≡ 0
times-below zero a k below = refl
times-below (suc n) a k below =
    let rest = times-below n (a + 1) k (omega (arith, below)) in
    let first : times k (a ∷ []) ≡ 0 = rw (ne_eqb a k (λ same. omega (arith, same, below))) refl in
    omega (arith, times-cons k a (range_with_len (a + 1) n), first, rest)

times-in : (n a k : ℕ) → a ≤ k → k < a + n → times k (range_with_len a n) ≡ 1
times-in zero a k from to = absurd (omega (arith, from, to))
times-in (suc n) a k from to =
    let all = times-cons k a (range_with_len (a + 1) n) in
    elim (cases_eq a k) [
      | inl same ↦
          let first : times k (a ∷ []) ≡ 1 = rw (eq-eqb a k same) refl in
          omega (arith, all, first, times-below n (a + 1) k (omega (arith, same)))
      | inr other ↦
          let first : times k (a ∷ []) ≡ 0 = rw (ne_eqb a k other) refl in
          let above : a ≢ k = other in
          omega (arith, all, first, times-in n (a + 1) k (omega (arith, from, above)) (omega (arith, to)))
    ]

-- the numbers of so many seats
pub are_in_a_row : (n : ℕ) → AreSeats n (range_with_len 0 n)
are_in_a_row n = record {
  count = length-range_with_len 0 n;
  each = λ k less. times-in n 0 k (omega arith) (omega (arith, less));
}

-- sessions that were just given out have the numbers of their seats
pub numbers_given : (ns : List ℕ) → map (λ (s : SessionValue). s.number) (map new_session ns) ≡ ns
numbers_given [] = refl
numbers_given (n ∷ ns) = ap (λ (ms : List ℕ). n ∷ ms) (numbers_given ns)

-- ---- a session stays on its seat

committed_seat : (opening : ℕ) (before after : SessionValue) (u : Update) (s : Seen) → IsCommittedBy opening before after u s
    → after.number ≡ before.number
committed_seat opening before after u (seen.Committed receipt) is = is.seat
committed_seat opening before after u (seen.Viewed view) is = absurd is
committed_seat opening before after u (seen.Other answer) is = absurd is

changed_seat : (opening : ℕ) (before after : SessionValue) (u : Update) (s : Seen) → IsChangedBy opening before after u s
    → after.number ≡ before.number
changed_seat opening before after u (seen.Committed receipt) is = is.1.seat
changed_seat opening before after u (seen.Viewed view) is = absurd is
changed_seat opening before after u (seen.Other answer) is = ap (λ (s : SessionValue). s.number) is.2

viewed_seat : (opened : List ℕ) (before after : SessionValue) (ino : ℕ) (c : Call) (s : Seen) → IsViewedBy opened before after ino c s
    → after.number ≡ before.number
viewed_seat opened before after ino c (seen.Viewed view) is = is.seat
viewed_seat opened before after ino c (seen.Committed receipt) is = absurd is
viewed_seat opened before after ino c (seen.Other answer) is = absurd is

maintained_seat : (c : SnapshotOrCleanerCall) (held : HeldValue) (before : SessionValue)
    → (after_snapshot_or_cleaner c held before).number ≡ before.number
maintained_seat snapshot_or_cleaner.Snap held before = refl
maintained_seat (snapshot_or_cleaner.Drop snapshot) held before = refl
maintained_seat (snapshot_or_cleaner.Show snapshot) held before = refl
maintained_seat (snapshot_or_cleaner.Drain number) held before = refl
maintained_seat (snapshot_or_cleaner.Fast ino) held before = refl
maintained_seat (snapshot_or_cleaner.Thorough ino) held before = refl
maintained_seat (snapshot_or_cleaner.Auto ino) held before = refl

pub made_seat : (opening : ℕ) (opened : List ℕ) (before after : SessionValue) (c : Call) (s : Seen)
    → IsMadeAs opening opened before after c s → after.number ≡ before.number
made_seat opening opened before after (call.Create dir name mode) s is = committed_seat opening before after _ s is
made_seat opening opened before after (call.Mkdir dir name mode) s is = committed_seat opening before after _ s is
made_seat opening opened before after (call.Write file offset text) s is =
    changed_seat opening before after (update.Write file offset (length text)) s is
made_seat opening opened before after (call.Size file size) s is = committed_seat opening before after _ s is
made_seat opening opened before after (call.Mode handle mode) s is = committed_seat opening before after _ s is
made_seat opening opened before after (call.Unlink dir name) s is = committed_seat opening before after _ s is
made_seat opening opened before after (call.Rmdir dir name) s is = committed_seat opening before after _ s is
made_seat opening opened before after (call.Rename from old to new) s is =
    changed_seat opening before after (update.Rename from old to new) s is
made_seat opening opened before after (call.Read file offset count) s is = viewed_seat opened before after _ _ s is
made_seat opening opened before after (call.Stat handle) s is = viewed_seat opened before after _ _ s is
made_seat opening opened before after (call.List dir) s is = viewed_seat opened before after _ _ s is
made_seat opening opened before after (call.Lookup dir name) s is = viewed_seat opened before after _ _ s is
made_seat opening opened before after (call.SnapshotOrCleaner c) s is = ap (λ (s : SessionValue). s.number) is.0 ∙ maintained_seat c after.held before

-- what a hand holds may change twice
pub held_again : (first then last : SessionValue) → then ≡ with_held then.held first → last ≡ with_held last.held then
    → last ≡ with_held last.held first
held_again first then last one two = two ∙ ap (with_held last.held) one

-- ---- a service that does not close

mismatch : (why : Fault) (parts : Parts) (m : World) → ¬ IsBusy m → IsMismatchOf parts why → RefusesThreads why m
mismatch (fault.Mismatch part) parts m idle is = idle
mismatch _ parts m idle is = absurd is

-- where all seats came back it is for want of memory, or because parts differ
pub not_closed : (why : Fault) (m : World) (Back : Type 0) (Of : Parts → List BesideCellValue → Type 0) → ¬ IsBusy m → Back
    → (why ≡ fault.SeatsOut → Back → ⊥)
    → (why ≡ fault.SeatsOut) ⊎ ((why ≡ out_of_memory)
    ⊎ ((parts : Parts) × (cells : List BesideCellValue) × Of parts cells × IsDifference parts cells why))
    → RefusesThreads why m
not_closed why m Back Of idle back none (inl out) = absurd (none out back)
not_closed why m Back Of idle back none (inr (inl starved)) = subst (λ (f : Fault). RefusesThreads f m) (sym starved) tt
not_closed why m Back Of idle back none (inr (inr (parts, cells, of, inl is))) = mismatch why parts m idle is
not_closed why m Back Of idle back none (inr (inr (parts, cells, of, inr is))) =
    subst (λ (f : Fault). RefusesThreads f m) (sym is.0) idle

-- a service that does not open: memory was refused, or an actor has a call
pub not_opened : (why : Fault) (m : World) → (why ≡ out_of_memory) ⊎ ((why ≡ fault.ActorBusy) × IsBusy m) → RefusesThreads why m
not_opened why m (inl starved) = subst (λ (f : Fault). RefusesThreads f m) (sym starved) tt
not_opened why m (inr busy) = subst (λ (f : Fault). RefusesThreads f m) (sym busy.0) busy.1
