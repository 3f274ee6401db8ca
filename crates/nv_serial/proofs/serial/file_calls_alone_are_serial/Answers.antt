use Rattle.nv_serial.proofs.CommitLaw.{file_calls_done}
use Rattle.nv_serial.proofs.RefusedLaw.{file_calls_refused_so}
use Rattle.nv_serial.proofs.serial.file_calls_alone_are_serial.Goals as goal

pub returns-clause-answered : goal.returns-clause-answered
returns-clause-answered c g start records before actor call grants granted r found is_start at_rest plain started is e =
    file_calls_done g start records before actor call grants granted r found is_start at_rest plain started is e

pub returns-clause-refused : goal.returns-clause-refused
returns-clause-refused c g start records before actor call grants granted r fault is_start at_rest plain started is e =
    file_calls_refused_so g start records before actor call grants granted r fault is_start at_rest plain started is e
