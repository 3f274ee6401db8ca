use Rattle.nv_effects.proofs.SoundWorlds.{standing_sound}
use Rattle.nv_effects.proofs.laws.standing_worlds_are_sound.Goals as goal

pub returns : goal.returns
returns c = standing_sound
