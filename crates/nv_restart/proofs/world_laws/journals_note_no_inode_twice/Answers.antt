use Rattle.nv_restart.proofs.NotedOnce.{all_once}
use Rattle.nv_restart.proofs.world_laws.journals_note_no_inode_twice.Goals as goal

pub returns : goal.returns
returns c = all_once
