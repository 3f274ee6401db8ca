use Rattle.std.proofs.Common.{arith, ◌-◌}
use Rattle.nv_steps.proofs.ListTurns.{all_taken, some_lack}
use Rattle.nv_steps.proofs.lists.take.Goals as goal

pub returns-then-left-eq0-clause-turn : goal.returns-then-left-eq0-clause-turn
returns-then-left-eq0-clause-turn c taking numbers actor h r many before =
    all_taken c.args.asked c.args.wanted c.args.lists actor numbers h c.args.list.now c.take.new.self many c.take.ensures.list taking r before
    (omega (arith, c.take.ensures.taken, c.if-left-eq0.true))

pub returns-then-asked-lists-clause-turn : goal.returns-then-asked-lists-clause-turn
returns-then-asked-lists-clause-turn c taking numbers actor h r many before =
    some_lack c.args.asked c.args.wanted c.args.lists actor numbers h c.args.list.now c.take.new.self many c.take.ensures.list taking r
    (c.args.wanted - c.take.result) before (omega (arith, c.take.ensures.taken)) c.if-left-eq0.false c.if-asked-lists.true
