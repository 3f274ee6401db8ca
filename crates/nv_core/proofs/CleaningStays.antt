-- What a cleaner has found stays where another actor makes a step: the cell that it holds stays.
use Rattle.std.proofs.Common.{◌≡◌, ◌≤◌, ◌∙◌, ℕ, true, List, [], ap, arith, inl, inr, length, map, refl, subst, sym}
use Rattle.std.proofs.lemmas.Bool.{cases_lt}
use Rattle.std.proofs.lemmas.List.{get_or_past, length-map}
use Rattle.nv_alloc.specs.Numbers.{has}
use Rattle.nv_alloc.specs.declared.hand.Hand.{Hand}
use Rattle.nv_alloc.proofs.Lists.{has-first}
use Rattle.nv_calls.specs.SlotCells.{cell_in}
use Rattle.nv_cell.specs.Cell.{CellValue}
use Rattle.nv_clean.specs.Plans.{unlinkable_of, wanted_of}
use Rattle.nv_machine.specs.Locks.{held_at}
use Rattle.nv_machine.specs.Sequence.{slots_on}
use Rattle.nv_machine.specs.World as machine
use Rattle.nv_machine.specs.World.{cell_at}
use Rattle.nv_core.specs.Cleaning.{IsMove}
use Rattle.nv_core.specs.Rooms.{HasNextRoom, HasStepRoom}
use Rattle.nv_core.specs.Shown.{next_of, shared_of, step_on}
use Rattle.nv_core.specs.declared.request.Request.{Request}
use Rattle.nv_core.specs.declared.next.CompactPlan.{CompactPlan}
use Rattle.nv_core.specs.declared.next.Ending.{Ending}
use Rattle.nv_core.specs.declared.next.Next.{Next}
use Rattle.nv_core.specs.declared.next.Next.TheVariants as next
use Rattle.nv_core.specs.declared.next.SnapshotOrCleanerStep.{SnapshotOrCleanerStep}
use Rattle.nv_core.specs.declared.next.SnapshotOrCleanerStep.TheVariants as on
use Rattle.nv_core.specs.declared.shared.Shared.{Shared}
use Rattle.nv_core.proofs.Nodes.{cell_is}

module _ (old new : Shared) (many : length new.cells.items ≡ length old.cells.items)
    (lists : length new.lists.items ≡ length old.lists.items) where
  same_cell : (ino : ℕ) → cell_in new.cells.items ino ≡ cell_in old.cells.items ino
      → cell_at (shared_of new) ino ≡ cell_at (shared_of old) ino
  same_cell ino same = elim (cases_lt ino (length old.cells.items)) [
    | inl lt ↦ cell_is new ino (omega (arith, lt, many)) ∙ ap (λ (c : CellValue). c.state) same ∙ sym (cell_is old ino lt)
    | inr past ↦ none new (omega (arith, past, many)) ∙ sym (none old past)
  ] where
    none : (shared : Shared) → length shared.cells.items ≤ ino → cell_at (shared_of shared) ino ≡ machine.no_cell
    none shared past =
        get_or_past (map (λ (c : CellValue). c.state) shared.cells.items) ino machine.no_cell
        (omega (arith, past, length-map shared.cells.items (λ (c : CellValue). c.state)))

  move_stays : (plan : CompactPlan) → cell_in new.cells.items plan.ino ≡ cell_in old.cells.items plan.ino → IsMove old plan
      → IsMove new plan
  move_stays plan same is = record {
    walk = is.walk ∙ ap wanted_of (sym (same_cell plan.ino same));
    some = is.some;
  }

  -- the cells of these slots stay
  abbrev Stay : List ℕ → Type 0
  Stay slots = (ino : ℕ) → has slots ino ≡ true → cell_in new.cells.items ino ≡ cell_in old.cells.items ino

  step_room_stays : (step : SnapshotOrCleanerStep) (hand : Hand)
      → Stay (held_at (machine.SnapshotOrCleaner (step_on step)) (slots_on (step_on step))) → HasStepRoom step old hand
      → HasStepRoom step new hand
  step_room_stays (on.Fresh fresh) hand same room = record {
    move = move_stays fresh.plan (same fresh.plan.ino (has-first fresh.plan.ino [])) room.move;
    count = room.count;
    room = room.room;
    list = omega (arith, room.list, lists);
  }
  step_room_stays (on.Unlink plan) hand same room = record {
    walk = room.walk ∙ ap unlinkable_of (sym (same_cell plan.ino (same plan.ino (has-first plan.ino []))));
    room = room.room;
  }
  step_room_stays (on.Compact plan) hand same room = record {
    move = move_stays plan (same plan.ino (has-first plan.ino [])) room.move;
    count = room.count;
  }
  step_room_stays on.Make hand same room = tt
  step_room_stays (on.Drop snapshot) hand same room = tt
  step_room_stays (on.Pin snapshot) hand same room = tt
  step_room_stays (on.Show snapshot showing) hand same room = room
  step_room_stays (on.Unpin snapshot seen) hand same room = tt
  step_room_stays (on.Pick draining) hand same room = room
  step_room_stays (on.LockPicked draining picked) hand same room = room
  step_room_stays (on.Release draining picked) hand same room = room
  step_room_stays (on.LockCleaned log) hand same room = tt
  step_room_stays (on.PlanCleaning manner slot) hand same room = tt

  -- before any step, where a call with steps of its own has locked the slots of its step
  pub next_room_stays : (n : Next) (slots : List ℕ) (how : Ending) (j : Request) (hand : Hand)
      → ((step : SnapshotOrCleanerStep) → n ≡ next.SnapshotOrCleaner step → slots ≡ slots_on (step_on step)) → Stay (held_at (next_of n) slots)
      → HasNextRoom n how j old hand → HasNextRoom n how j new hand
  next_room_stays (next.SnapshotOrCleaner step) slots how j hand own same room =
      step_room_stays step hand (subst (λ (l : List ℕ). Stay (held_at (machine.SnapshotOrCleaner (step_on step)) l)) (own step refl) same) room
  next_room_stays (next.Unlock place) slots how j hand own same room = room
  next_room_stays (next.Give cpu) slots how j hand own same room = room
  next_room_stays next.ReturnNumber slots how j hand own same room = room
  next_room_stays next.Number slots how j hand own same room = tt
  next_room_stays (next.Look place) slots how j hand own same room = tt
  next_room_stays (next.Lock place) slots how j hand own same room = tt
  next_room_stays next.Check slots how j hand own same room = tt
  next_room_stays (next.TakeBlocks asked) slots how j hand own same room = tt
  next_room_stays (next.TakeLogPages asked) slots how j hand own same room = tt
  next_room_stays next.Ready slots how j hand own same room = tt
  next_room_stays next.Visit slots how j hand own same room = tt
