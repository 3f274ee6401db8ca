use Rattle.nv_machine.proofs.LooksToCome.{look_inside}
use Rattle.nv_machine.proofs.hand_laws.looks_are_in_directories.Goals as goal

pub returns : goal.returns
returns c = look_inside
