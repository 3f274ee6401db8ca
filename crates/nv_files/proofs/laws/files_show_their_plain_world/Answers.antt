use Rattle.nv_files.proofs.Standing.{files_sound, plain_stands}
use Rattle.nv_files.proofs.laws.files_show_their_plain_world.Goals as goal

pub returns-clause-shown : goal.returns-clause-shown
returns-clause-shown c = plain_stands

pub returns-clause-sound : goal.returns-clause-sound
returns-clause-sound c = files_sound
