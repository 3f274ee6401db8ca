use Rattle.nv_restart.proofs.StopLists.{rests}
use Rattle.nv_serial.proofs.AtRestStops.{stops_serial}
use Rattle.nv_serial.proofs.serial.stops_are_serial.Goals as goal

pub returns-clause-left : goal.returns-clause-left
returns-clause-left c = stops_serial

pub returns-clause-rest : goal.returns-clause-rest
returns-clause-rest c = rests
