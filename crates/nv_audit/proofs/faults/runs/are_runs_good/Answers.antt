use Rattle.std.proofs.Common.{arith, ◌∙◌}
use Rattle.nv_base.specs.declared.fault.ImageFault.TheVariants as fault
use Rattle.nv_audit.proofs.faults.runs.are_runs_good.Goals as goal

pub mounted_logs-requires-clause-tails : goal.mounted_logs-requires-clause-tails
mounted_logs-requires-clause-tails c = c.deref.ensures.value ∙ c.in_ok-tails.ensures.ok

pub mounted_logs-requires-clause-fits : goal.mounted_logs-requires-clause-fits
mounted_logs-requires-clause-fits c = c.requires fault.Geometry (omega arith)

pub mounted_logs-requires-clause-ordered : goal.mounted_logs-requires-clause-ordered
mounted_logs-requires-clause-ordered c = c.requires fault.Entry (omega arith)

pub are_all_good-requires-clause-logs : goal.are_all_good-requires-clause-logs
are_all_good-requires-clause-logs c = c.deref-2.ensures.value ∙ c.in_ok-logs.ensures.ok
