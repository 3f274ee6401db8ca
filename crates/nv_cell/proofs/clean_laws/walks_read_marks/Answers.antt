use Rattle.nv_cell.proofs.CleanWalks.{flags_are}
use Rattle.nv_cell.proofs.clean_laws.walks_read_marks.Goals as goal

pub returns : goal.returns
returns c = flags_are
