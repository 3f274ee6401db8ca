use Rattle.std.proofs.Common.{Err}
use Rattle.std.proofs.lemmas.Result.{err_from_is_err_and}
use Rattle.nv_base.specs.Memory.{out_of_memory}
use Rattle.nv_script.specs.Play.{no_head}
use Rattle.nv_script.specs.declared.trace.Trace.TheVariants as trace
use Rattle.nv_script.proofs.Endings.{no_room}
use Rattle.nv_trace.proofs.WithoutEvents.{traces_plain}
use Rattle.nv_trace.proofs.script.trace_counted_and_leave.Goals as goal

pub returns-in_err-player-clause-script : goal.returns-in_err-player-clause-script
returns-in_err-player-clause-script g c =
    let p = err_from_is_err_and c.from_residual.result c.from_residual.ensures.1 in
    rw (p.1, p.2) (no_room trace.Text no_head (g.R.CountedRead.remaining c.args.reader.now) (g.R.CountedRead.remaining c.args.reader.now)
    (g.W.CountedWrite.contents c.args.writer.now))

pub returns-in_err-player-clause-plain : goal.returns-in_err-player-clause-plain
returns-in_err-player-clause-plain g c =
    let p = err_from_is_err_and c.from_residual.result c.from_residual.ensures.1 in
    let input = g.R.CountedRead.remaining c.args.reader.now in
    let written = g.W.CountedWrite.contents c.args.writer.now in
    rw (p.1, p.2) (traces_plain input input written written (Err out_of_memory) (no_room trace.Text no_head input input written))

pub returns-clause-plain : goal.returns-clause-plain
returns-clause-plain g c =
    traces_plain (g.R.CountedRead.remaining c.args.reader.now) (g.R.CountedRead.remaining c.play-outcome.new.reader)
    (g.W.CountedWrite.contents c.args.writer.now) (g.W.CountedWrite.contents c.play-outcome.new.writer) c.play-outcome.result
    c.play-outcome.ensures.script

pub returns-clause-script : goal.returns-clause-script
returns-clause-script g c = c.play-outcome.ensures.script
