use Rattle.nv_restart.proofs.WorldJournals.{journals_good}
use Rattle.nv_restart.proofs.world_laws.journals_note_what_is_there.Goals as goal

pub returns : goal.returns
returns c = journals_good
