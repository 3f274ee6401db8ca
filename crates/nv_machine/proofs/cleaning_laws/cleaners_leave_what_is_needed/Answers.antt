use Rattle.nv_machine.proofs.CleaningLaw.{compact_leaves, unlink_leaves}
use Rattle.nv_machine.proofs.cleaning_laws.cleaners_leave_what_is_needed.Goals as goal

pub returns-clause-compact : goal.returns-clause-compact
returns-clause-compact c = compact_leaves

pub returns-clause-unlink : goal.returns-clause-unlink
returns-clause-unlink c = unlink_leaves
