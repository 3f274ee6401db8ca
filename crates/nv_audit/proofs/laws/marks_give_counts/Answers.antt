use Rattle.nv_audit.proofs.PageEntries.{counted}
use Rattle.nv_audit.proofs.laws.marks_give_counts.Goals as goal

pub returns : goal.returns
returns c = counted
