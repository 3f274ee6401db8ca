use Rattle.nv_core.proofs.StartsAtRest.{rested}
use Rattle.nv_core.proofs.start_laws.parts_of_worlds_without_calls_are_at_rest.Goals as goal

pub returns : goal.returns
returns c = rested
