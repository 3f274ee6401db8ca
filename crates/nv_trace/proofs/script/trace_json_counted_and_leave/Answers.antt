use Rattle.std.proofs.lemmas.Result.{err_from_is_err_and}
use Rattle.nv_script.specs.JsonWorld.{text_of_line}
use Rattle.nv_script.specs.declared.trace.Trace.TheVariants as trace
use Rattle.nv_script.proofs.Endings.{no_room}
use Rattle.nv_trace.proofs.script.trace_json_counted_and_leave.Goals as goal

pub returns-in_err-player-clause-script : goal.returns-in_err-player-clause-script
returns-in_err-player-clause-script g c =
    let p = err_from_is_err_and c.from_residual.result c.from_residual.ensures.1 in
    rw (p.1, p.2) (no_room trace.Json text_of_line (g.R.CountedRead.remaining c.args.reader.now)
    (g.R.CountedRead.remaining c.args.reader.now) (g.W.CountedWrite.contents c.args.writer.now))

pub returns-clause-script : goal.returns-clause-script
returns-clause-script g c = c.play-outcome.ensures.script
