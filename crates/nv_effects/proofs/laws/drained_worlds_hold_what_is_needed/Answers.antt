use Rattle.nv_effects.proofs.Released.{drained_none, used_needed}
use Rattle.nv_effects.proofs.laws.drained_worlds_hold_what_is_needed.Goals as goal

pub returns-clause-drained : goal.returns-clause-drained
returns-clause-drained c = drained_none

pub returns-clause-held : goal.returns-clause-held
returns-clause-held c = used_needed
