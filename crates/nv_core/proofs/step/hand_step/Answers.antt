use Rattle.std.proofs.Common.{true, refl, subst}
use Rattle.nv_core.proofs.Turns.{either, visit_any, owes_back, owes_give, owes_unlock, turns_alone, turns_visit}
use Rattle.nv_machine.specs.Step as machine_step
use Rattle.nv_machine.specs.World as machine
use Rattle.nv_machine.specs.World.{empty_hand}
use Rattle.nv_core.specs.Shown.{hand_of, shared_of, shown}
use Rattle.nv_core.specs.Steps.{Given}
use Rattle.nv_core.specs.declared.next.Next.{Next}
use Rattle.nv_core.specs.declared.next.Next.TheVariants as next
use Rattle.nv_core.proofs.step.hand_step.Goals as goal

pub returns-in-Number-clause-turn : goal.returns-in-Number-clause-turn
returns-in-Number-clause-turn c r shows =
    turns_alone next.Number _ _ _ _ _ _ _ _ _ c.in-Number.is shows c.number.ensures.request (λ told is. (true, c.number.ensures.turn told is))

pub returns-in-Look-clause-turn : goal.returns-in-Look-clause-turn
returns-in-Look-clause-turn c r shows =
    turns_alone (next.Look c.in-Look.place) _ _ _ _ _ _ _ _ _ c.in-Look.is shows c.look.ensures.request
    (λ told is. (true, c.look.ensures.turn told is))

pub returns-in-Lock-clause-turn : goal.returns-in-Lock-clause-turn
returns-in-Lock-clause-turn c r shows =
    turns_alone (next.Lock c.in-Lock.place) _ _ _ _ _ _ _ _ _ c.in-Lock.is shows c.lock.ensures.request
    (λ told is. (true, c.lock.ensures.turn told (hand_of c.args.hand.now)))

pub returns-in-Check-clause-turn : goal.returns-in-Check-clause-turn
returns-in-Check-clause-turn c r shows =
    turns_alone next.Check _ _ _ _ _ _ _ _ _ c.in-Check.is shows c.check.ensures.request (λ told is. either _ _ (c.check.ensures.turn told is))

pub returns-in-TakeBlocks-clause-turn : goal.returns-in-TakeBlocks-clause-turn
returns-in-TakeBlocks-clause-turn c r shows =
    turns_alone (next.TakeBlocks c.in-TakeBlocks.asked) _ _ _ _ _ _ _ _ _ c.in-TakeBlocks.is shows c.take_blocks.ensures.request
    (λ told is. (true, c.take_blocks.ensures.turn told is))

pub returns-in-TakeLogPages-clause-turn : goal.returns-in-TakeLogPages-clause-turn
returns-in-TakeLogPages-clause-turn c r shows =
    turns_alone (next.TakeLogPages c.in-TakeLogPages.asked) _ _ _ _ _ _ _ _ _ c.in-TakeLogPages.is shows c.take_log_pages.ensures.request
    (λ told is. (true, c.take_log_pages.ensures.turn told))

pub returns-in-Unlock-clause-turn : goal.returns-in-Unlock-clause-turn
returns-in-Unlock-clause-turn c r shows =
    turns_alone (next.Unlock c.in-Unlock.place) _ _ _ _ _ _ _ _ _ c.in-Unlock.is shows c.unlock.ensures.request (λ told is. (
      true,
      c.unlock.ensures.turn told
          (owes_unlock c.in-Unlock.place c.args.running.now told c.in-Unlock.is c.requires.rooms.0 is),
    ))

pub returns-in-Give-clause-turn : goal.returns-in-Give-clause-turn
returns-in-Give-clause-turn c r shows =
    turns_alone (next.Give c.in-Give.cpu) _ _ _ _ _ _ _ _ _ c.in-Give.is shows c.give.ensures.request (λ told is. (
      true,
      c.give.ensures.turn told
          (owes_give c.in-Give.cpu c.args.running.now told c.in-Give.is c.requires.rooms.0 is),
    ))

pub returns-in-ReturnNumber-clause-turn : goal.returns-in-ReturnNumber-clause-turn
returns-in-ReturnNumber-clause-turn c r shows =
    turns_alone next.ReturnNumber _ _ _ _ _ _ _ _ _ c.in-ReturnNumber.is shows c.return_number.ensures.request (λ told is.
    (true, c.return_number.ensures.turn told (owes_back c.args.running.now told c.in-ReturnNumber.is c.requires.rooms.0 is)))

pub returns-in-Visit-clause-turn : goal.returns-in-Visit-clause-turn
returns-in-Visit-clause-turn c r shows =
    turns_visit c.args.actor c.args.shared.now c.args.hand.now c.args.running.now r c.visit.result c.visit.new.running
    c.in-Visit.is shows c.visit.ensures.ends c.visit.ensures.waits
    (λ told is. visit_any (hand_of c.args.hand.now) empty_hand
    (λ granted h. machine_step.kind_turn machine.Visit c.args.shared.now.geometry.numbers.block c.args.actor granted
    (shared_of c.args.shared.now) h (shown told c.args.running.now))
    c.visit.result c.visit.new.running.answer (shared_of c.args.shared.now) (shown told c.visit.new.running)
    (subst (λ (n : Next). Given n c.args.shared.now c.args.hand.now c.args.running.now) c.in-Visit.is c.requires.can.own).2
    (c.visit.ensures.turn told is))

pub returns-in-Lock-clause-rooms : goal.returns-in-Lock-clause-rooms
returns-in-Lock-clause-rooms c = c.lock.ensures.rooms c.args.hand.now c.requires.rooms

pub returns-in-SnapshotOrCleaner-clause-turn : goal.returns-in-SnapshotOrCleaner-clause-turn
returns-in-SnapshotOrCleaner-clause-turn c r shows =
    turns_alone c.args.running.now.next c.args.actor c.args.shared.now c.args.hand.now c.args.running.now r c.maintain.result
    c.maintain.new.shared c.maintain.new.hand c.maintain.new.running refl shows c.maintain.ensures.request
    (λ told is. either _ _ (c.maintain.ensures.turn told))
