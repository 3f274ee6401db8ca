use Rattle.nv_serial.proofs.LawCalls.{calls_serial}
use Rattle.nv_serial.proofs.serial.calls_are_serial.Goals as goal

pub returns : goal.returns
returns c = calls_serial
