use Rattle.nv_effects.proofs.Visits.{written_read}
use Rattle.nv_effects.proofs.laws.what_was_written_is_read.Goals as goal

pub returns : goal.returns
returns c = written_read
