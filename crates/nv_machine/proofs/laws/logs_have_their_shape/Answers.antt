use Rattle.nv_machine.proofs.ShapeEvents.{all_shaped}
use Rattle.nv_machine.proofs.laws.logs_have_their_shape.Goals as goal

pub returns : goal.returns
returns c = all_shaped
