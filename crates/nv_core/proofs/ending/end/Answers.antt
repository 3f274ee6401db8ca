use Rattle.std.proofs.Common.{◌<◌, ◌∙◌, ap, arith, length, sym}
use Rattle.nv_machine.specs.World as machine
use Rattle.nv_core.specs.Shown.{ending_of, hand_of, shared_of, shown, slots_in}
use Rattle.nv_core.proofs.HeldRooms.{unlocks}
use Rattle.nv_core.proofs.ending.end.Goals as goal

pub returns-then-len-gt0-clause-turn : goal.returns-then-len-gt0-clause-turn
returns-then-len-gt0-clause-turn c told owes =
    let s = shared_of c.args.shared.now in
    let h = hand_of c.args.hand.now in
    let some : 0 < length (slots_in c.args.running.now.slots) = omega (arith, c.if-len-gt0.true, c.len.ensures) in
    unlocks (slots_in c.args.running.now.slots) (ending_of c.args.ending) s h (shown told c.args.running.now) some
    ∙ ap (λ (r : machine.Running). machine.Moves s h r) (sym (c.unlock_first.ensures.ends told))

pub returns-then-len-gt0-clause-rooms : goal.returns-then-len-gt0-clause-rooms
returns-then-len-gt0-clause-rooms c =
    c.unlock_first.ensures.rooms c.args.shared.now c.args.hand.now c.requires.call c.requires.sized c.requires.drains
