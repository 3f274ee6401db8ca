use Rattle.std.proofs.Common.{◌<◌}
use Rattle.nv_base.specs.declared.fault.ImageFault.{ImageFault}
use Rattle.nv_audit.specs.Faults.{IsWithout, fault_order}
use Rattle.nv_audit.proofs.faults.judge.Given as goal

abbrev pub invariant-loop-fault : goal.invariant-loop-fault
invariant-loop-fault l = (earlier : ImageFault) → fault_order earlier < l.fault-index → IsWithout earlier l.image
