use Rattle.nv_effects.proofs.Effects.{calls_have_effects}
use Rattle.nv_effects.proofs.laws.answered_calls_have_their_effect.Goals as goal

pub returns : goal.returns
returns c = calls_have_effects
