use Rattle.nv_machine.proofs.EveryWorld.{reached}
use Rattle.nv_machine.proofs.SlotsBeforeCheck.{own_bytes}
use Rattle.nv_machine.proofs.hand_laws.cells_have_their_own_bytes.Goals as goal
use Rattle.nv_machine.specs.Step.{after}

pub returns : goal.returns
returns c = λ g start records events ino is_start. own_bytes (after start events) (reached g start records events is_start) ino
