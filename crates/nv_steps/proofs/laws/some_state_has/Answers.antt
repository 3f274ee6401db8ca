use Rattle.nv_steps.proofs.States.{some_state}
use Rattle.nv_steps.proofs.laws.some_state_has.Goals as goal

pub returns : goal.returns
returns c = some_state
