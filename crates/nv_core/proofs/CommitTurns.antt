-- The steps of a commit as turns of its call.
use Rattle.std.specs.Prelude.{unwrap_or}
use Rattle.std.proofs.Common.{◌≡◌, ◌∙◌, ℕ, true, List, Option, Some, ap, length, refl, sym}
use Rattle.nv_alloc.specs.Numbers.{has}
use Rattle.nv_calls.specs.Commit.{CommitValue}
use Rattle.nv_calls.specs.Progress.{step_of}
use Rattle.nv_calls.specs.declared.progress.CommitStep.{CommitStep}
use Rattle.nv_calls.specs.declared.progress.CommitStep.TheVariants as step
use Rattle.nv_machine.specs.Locks.{held_at}
use Rattle.nv_machine.specs.Step.{kind_turn, turn}
use Rattle.nv_machine.specs.World as machine
use Rattle.nv_machine.specs.World.{Moves}
use Rattle.nv_core.proofs.Others.{others_stay}
use Rattle.nv_core.specs.Appends.{IsPlanOf}
use Rattle.nv_core.specs.CommitSteps.{HasStepped}
use Rattle.nv_core.specs.Frames.{LeavesCells}
use Rattle.nv_core.specs.Rooms.{HasRooms, HasRoomsAfter}
use Rattle.nv_core.specs.Shown.{ShownCall, hand_in, machine_step, shared_of, shown_commit, slots_in}
use Rattle.nv_core.specs.Steps.{CanStep}
use Rattle.nv_core.specs.GhostCalls.{IsCommitOf, IsPlaceOf}
use Rattle.nv_core.specs.Turns.{IsTurn, LeavesOthers}
use Rattle.nv_core.specs.Worlds.{ShowsCall, shown_call_of}
use Rattle.nv_core.specs.declared.reservation.Reservation.TheVariants as reserved
use Rattle.nv_core.specs.declared.running.Running.{Running}
use Rattle.nv_core.specs.declared.shared.Shared.{Shared}
use Rattle.nv_core.specs.declared.turn.Turn.TheVariants as result

-- what a step of a commit makes, for whatever is told of the call
abbrev pub TurnsCommit : CommitStep → ℕ → Shared → Running → CommitValue → Shared → CommitValue → Type 0
TurnsCommit next actor shared running commit shared_after after =
    (told : ShownCall) → IsCommitOf (slots_in running.slots) commit told → IsPlaceOf (slots_in running.slots) commit told
    → IsPlanOf (slots_in running.slots) told.plan
    → (kind_turn (machine_step next commit) shared.geometry.numbers.block actor true (shared_of shared) (hand_in commit)
    (shown_commit commit told running) ≡ Moves (shared_of shared_after) (hand_in after) (shown_commit after told running))
    × IsPlaceOf (slots_in running.slots) after told

turns_commit : (next : CommitStep) (actor : ℕ) (shared : Shared) (running : Running) (r : machine.Running) (commit : CommitValue)
    (shared_after : Shared) (after : CommitValue) → step_of commit ≡ next → ShowsCall (reserved.Commit commit) running r
    → HasStepped running shared shared_after commit after → TurnsCommit next actor shared running commit shared_after after
    → IsTurn actor shared (reserved.Commit commit) r result.Moves shared_after (reserved.Commit after) running
turns_commit next actor shared running r commit shared_after after here shows stepped by =
    let told = shown_call_of r in
    let one = by told shows.plan shows.place.1 shows.place.0 in
    record {
      granted = true;
      after = shown_commit after told running;
      is = ap (λ (x : machine.Running). turn shared.geometry.numbers.block actor true (shared_of shared) (hand_in commit) x)
          (sym shows.shown)
          ∙ ap (λ (n : CommitStep). kind_turn (machine_step n commit) shared.geometry.numbers.block actor true (shared_of shared)
          (hand_in commit)
          (shown_commit commit told running)) here
          ∙ one.0;
      shows = record { shown = refl; request = shows.request; plan = stepped.told told shows.plan; place = (shows.place.0, one.1) };
    }

-- a commit holds all its slots
held_all : (next : CommitStep) (commit : CommitValue) (slots : List ℕ) → held_at (machine_step next commit) slots ≡ slots
held_all step.Append commit slots = refl
held_all step.Open commit slots = refl
held_all step.Publish commit slots = refl
held_all step.Close commit slots = refl
held_all step.Retire commit slots = refl
held_all step.Leave commit slots = refl

rest_commit : (actor : ℕ) (old new : Shared) (running : Running) (r : machine.Running) (commit : CommitValue)
    → ShowsCall (reserved.Commit commit) running r → old.holder ≡ Some actor → LeavesCells (slots_in running.slots) old new
    → LeavesOthers actor r old new
rest_commit actor old new running r commit shows own leaves =
    let held : held_at r.next r.slots ≡ slots_in running.slots =
    ap (λ (x : machine.Running). held_at x.next x.slots) (sym shows.shown) ∙ held_all (step_of commit) commit (slots_in running.slots) in
    record {
      geometry = leaves.geometry;
      lists = ap (λ l. length l.items) leaves.lists;
      count = leaves.count;
      cells = λ ino none. others_stay (slots_in running.slots) old.cells.items new.cells.items leaves.count leaves.others ino
          (ap (λ (xs : List ℕ). has xs ino) (sym held) ∙ none);
      book = λ other is apart. absurd (apart (ap (λ (o : Option ℕ). unwrap_or o 0) (sym is ∙ own)));
    }

-- what a step of a commit makes for its call: its turn, the room for the next step, and the others' cells as they were
pub record HasCommitted (actor : ℕ) (old new : Shared) (running : Running) (before after : CommitValue) : Type 0 where
  pub turns : (r : machine.Running) → ShowsCall (reserved.Commit before) running r
      → IsTurn actor old (reserved.Commit before) r result.Moves new (reserved.Commit after) running
  pub rooms : HasRoomsAfter result.Moves new (reserved.Commit after) running
  pub rest : (r : machine.Running) → ShowsCall (reserved.Commit before) running r → LeavesOthers actor r old new

-- so it is for each kind of step
pub commits : (next : CommitStep) (actor : ℕ) (old new : Shared) (running : Running) (before after : CommitValue)
    → next ≡ step_of before → CanStep old (reserved.Commit before) running actor → HasRooms old (reserved.Commit before) running
    → HasStepped running old new before after → TurnsCommit next actor old running before new after
    → HasCommitted actor old new running before after
commits next actor old new running before after is can rooms stepped by = record {
  turns = λ r shows. turns_commit next actor old running r before new after (sym is) shows stepped by;
  rooms = (rooms.0, rooms.1, stepped.sized, stepped.committing);
  rest = λ r shows. rest_commit actor old new running r before shows can.own stepped.rest;
}
