use Rattle.std.proofs.Common.{Some}
use Rattle.nv_work.proofs.Reported.{report_fault, reported}
use Rattle.nv_work.proofs.reading.report.Goals as goal

pub returns-in-Ok-clause-told : goal.returns-in-Ok-clause-told
returns-in-Ok-clause-told g c = λ m shown run.
    let led = c.in-Ok.ensures.line (Some m) shown run in
    reported m c.args.line.now _ _ _ c.requires.line.0 c.requires.goes_on run led.0 led.1 led.2 led.3 led.4

pub returns-in-Err-clause-told : goal.returns-in-Err-clause-told
returns-in-Err-clause-told g c = λ m shown run.
    rw c.ending_of.ensures
    (report_fault _ 0 _ _ m c.args.line.now c.requires.line.1 (c.in-Err.ensures.line (Some m) shown run))
