-- How many blocks are pending: those of deferred records, and those that drains have picked.
use Rattle.std.proofs.Common.{◌≡◌, ◌∙◌, ℕ, suc, ◌+◌, ◌<◌, ◌++◌, Bool, true, false, cond, List, [], ◌∷◌, Option, Some, None, ap, arith, length, refl, sym}
use Rattle.std.specs.Prelude.{slice_index_or}
use Rattle.std.specs.List.{flat_map, sum_by}
use Rattle.std.proofs.lemmas.List.Sums.{sum_by-append, sum_by-cons}
use Rattle.nv_book.specs.Records.{block_count, is_page}
use Rattle.nv_book.specs.declared.record.Record.{Record}
use Rattle.nv_calls.specs.Commit.{CommitValue}
use Rattle.nv_calls.specs.declared.progress.CommitStep.{CommitStep}
use Rattle.nv_calls.specs.declared.progress.CommitStep.TheVariants as step
use Rattle.nv_calls.specs.Progress.{step_of}
use Rattle.nv_machine.specs.Held as held
use Rattle.nv_machine.specs.World as machine
use Rattle.nv_core.specs.Picked.{block_of, picked_at, picked_of, picked_with}
use Rattle.nv_core.specs.Shown.{machine_step, next_of}
use Rattle.nv_core.specs.Worlds.{Shows, ShowsActor, ShowsRunning, WorldState}
use Rattle.nv_core.specs.declared.reservation.Reservation.{Reservation}
use Rattle.nv_core.specs.declared.reservation.Reservation.TheVariants as reserved
use Rattle.nv_core.specs.declared.next.Next.{Next}
use Rattle.nv_core.specs.declared.next.Next.TheVariants as next
use Rattle.nv_core.specs.declared.next.SnapshotOrCleanerStep.TheVariants as on
use Rattle.nv_core.specs.declared.running.Running.{Running}
use Rattle.nv_core.specs.declared.world.Actor.{Actor}

counted : (xs ys : List Record) → block_count (xs ++ ys) ≡ block_count xs + block_count ys
counted xs ys = sum_by-append (λ (d : Record). cond (is_page d.part) 1 0) xs ys

one_block : (d : Record) → block_of d ≡ block_count (d ∷ [])
one_block d = go (is_page d.part) refl where
  go : (b : Bool) → is_page d.part ≡ b → block_of d ≡ block_count (d ∷ [])
  go true e = rw e refl
  go false e = rw e refl

-- before a step of a call whose hand is alone
at_next : (n : Next) → picked_at n ≡ block_count (held.picked_at (next_of n))
at_next (next.SnapshotOrCleaner on.Make) = refl
at_next (next.SnapshotOrCleaner (on.Drop snapshot)) = refl
at_next (next.SnapshotOrCleaner (on.Pin snapshot)) = refl
at_next (next.SnapshotOrCleaner (on.Show snapshot showing)) = refl
at_next (next.SnapshotOrCleaner (on.Unpin snapshot seen)) = refl
at_next (next.SnapshotOrCleaner (on.Pick draining)) = refl
at_next (next.SnapshotOrCleaner (on.LockPicked draining picked)) = one_block picked
at_next (next.SnapshotOrCleaner (on.Release draining picked)) = one_block picked
at_next (next.SnapshotOrCleaner (on.LockCleaned log)) = refl
at_next (next.SnapshotOrCleaner (on.PlanCleaning manner slot)) = refl
at_next (next.SnapshotOrCleaner (on.Fresh fresh)) = refl
at_next (next.SnapshotOrCleaner (on.Unlink plan)) = refl
at_next (next.SnapshotOrCleaner (on.Compact plan)) = refl
at_next next.Number = refl
at_next (next.Look place) = refl
at_next (next.Lock place) = refl
at_next next.Check = refl
at_next (next.TakeBlocks asked) = refl
at_next (next.TakeLogPages asked) = refl
at_next next.Ready = refl
at_next (next.Unlock place) = refl
at_next (next.Give cpu) = refl
at_next next.ReturnNumber = refl
at_next next.Visit = refl

-- a commit has picked nothing
in_commit : (s : CommitStep) (commit : CommitValue) → 0 ≡ block_count (held.picked_at (machine_step s commit))
in_commit step.Append commit = refl
in_commit step.Open commit = refl
in_commit step.Publish commit = refl
in_commit step.Close commit = refl
in_commit step.Retire commit = refl
in_commit step.Leave commit = refl

by_call : (h : Reservation) (x : Option Running) (y : Option machine.Running) → ShowsRunning h x y
    → picked_with h x ≡ block_count (held.picked_by_call y)
by_call (reserved.Hand hand) None None shows = refl
by_call (reserved.Ready ready) None None shows = refl
by_call (reserved.Commit commit) None None shows = refl
by_call h None (Some r) shows = absurd shows
by_call h (Some running) None shows = absurd shows
by_call (reserved.Hand hand) (Some running) (Some r) shows =
    at_next running.next ∙ ap (λ (x : machine.Running). block_count (held.picked_at x.next)) shows.shown
by_call (reserved.Ready ready) (Some running) (Some r) shows =
    ap (λ (x : machine.Running). block_count (held.picked_at x.next)) shows.shown
by_call (reserved.Commit commit) (Some running) (Some r) shows =
    in_commit (step_of commit) commit ∙ ap (λ (x : machine.Running). block_count (held.picked_at x.next)) shows.shown

by_actors : (xs : List Actor) (ys : List machine.Actor) → length xs ≡ length ys
    → ((k : ℕ) (d : Actor) → k < length xs → ShowsActor (slice_index_or xs k d) (slice_index_or ys k machine.idle))
    → sum_by picked_of xs ≡ block_count (flat_map held.picked_by_actor ys)
by_actors [] [] same each = refl
by_actors [] (y ∷ ys) same each = absurd (omega (arith, same))
by_actors (x ∷ xs) [] same each = absurd (omega (arith, same))
by_actors (x ∷ xs) (y ∷ ys) same each =
    let one = by_call x.reserved x.running y.running (each 0 x (omega arith)).running in
    let rest = by_actors xs ys (omega (arith, same)) (λ k d lt. each (suc k) d (omega (arith, lt))) in
    let all = counted (held.picked_by_actor y) (flat_map held.picked_by_actor ys) in
    let sum : sum_by picked_of (x ∷ xs) ≡ picked_of x + sum_by picked_of xs = sum_by-cons picked_of x xs in
    let flat : block_count (flat_map held.picked_by_actor (y ∷ ys))
    ≡ block_count (held.picked_by_actor y ++ flat_map held.picked_by_actor ys) = refl in
    sum ∙ omega (arith, one, rest, all, flat)

pub pending_counts : (w : WorldState) (m : machine.World) → Shows w m
    → block_count (held.pending_in m) ≡ block_count w.shared.book.state.deferred + sum_by picked_of w.actors
pending_counts w m shows =
    counted m.shared.book.deferred (flat_map held.picked_by_actor m.actors)
    ∙ ap (λ (n : ℕ). block_count m.shared.book.deferred + n) (sym (by_actors w.actors m.actors shows.count shows.each))
    ∙ ap (λ (s : machine.Shared). block_count s.book.deferred + sum_by picked_of w.actors) (sym shows.shared)
