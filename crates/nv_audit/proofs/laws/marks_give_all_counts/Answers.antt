use Rattle.nv_audit.proofs.PageEntries.{counted}
use Rattle.nv_audit.proofs.laws.marks_give_all_counts.Goals as goal

pub returns : goal.returns
returns c d marked ino default lt =
    let is = marked ino default lt in counted _ _ is.0 is.1
