use Rattle.nv_core.proofs.NextWaits.{waits_as_told}
use Rattle.nv_core.proofs.next_laws.go_waits_as_told.Goals as goal

pub returns : goal.returns
returns c m actor granted told has there it = waits_as_told m actor granted told has there it
