use Rattle.nv_serial.proofs.TakesRuns.{row_taken}
use Rattle.nv_serial.proofs.serial.calls_alone_take_the_row.Goals as goal

pub returns : goal.returns
returns c = row_taken
