use Rattle.std.proofs.Common.{arith}
use Rattle.nv_audit.proofs.FaultOrder.{none_at_all, none_earlier, none_so_far, the_first}
use Rattle.nv_audit.proofs.faults.judge.Goals as goal

pub loop-fault-init : goal.loop-fault-init
loop-fault-init c earlier lt = absurd (omega (arith, lt))

pub has-requires : goal.has-requires
has-requires c = none_earlier c.args.image.now c.loop-fault.fault-index c.loop-fault-test.true c.loop-fault.invariant

pub loop-fault-preserved : goal.loop-fault-preserved
loop-fault-preserved c =
    none_so_far c.args.image.now c.loop-fault.fault-index c.loop-fault-test.true c.loop-fault.invariant c.in_ok-found.found
    c.in_ok-found.ensures.ok c.if-found.false

pub returns-then-found-clause-ok : goal.returns-then-found-clause-ok
returns-then-found-clause-ok c =
    the_first c.args.image.now c.loop-fault.fault-index c.loop-fault-test.true c.loop-fault.invariant c.in_ok-found.found
    c.in_ok-found.ensures.ok c.if-found.true

pub returns-clause-ok : goal.returns-clause-ok
returns-clause-ok c = none_at_all c.args.image.now c.loop-fault.fault-index c.loop-fault-test.false c.loop-fault.invariant
