use Rattle.nv_serial.proofs.SerialHistories.{call_stands, stands_new, stop_stands}
use Rattle.nv_serial.proofs.serial.histories_are_serial.Goals as goal

pub returns-clause-new : goal.returns-clause-new
returns-clause-new c = stands_new

pub returns-clause-called : goal.returns-clause-called
returns-clause-called c = λ g w s actor call grants last stands told.
    call_stands g w s stands actor call grants last told

pub returns-clause-stopped : goal.returns-clause-stopped
returns-clause-stopped c = stop_stands
