use Rattle.nv_audit.specs.Faults.{IsWithout}
use Rattle.nv_audit.proofs.FaultOrder.{told_not}
use Rattle.nv_audit.proofs.faults.has.Goals as goal

pub returns-clause-ok : goal.returns-clause-ok
returns-clause-ok c =
    told_not c.in_ok-without.without (IsWithout c.args.fault c.args.image.now) c.in_ok-without.ensures.ok
