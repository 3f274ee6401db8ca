use Rattle.std.proofs.lemmas.Result.{err_from_is_err_and}
use Rattle.std.proofs.Common.{inl}
use Rattle.nv_script.specs.Play.{no_head}
use Rattle.nv_script.specs.declared.trace.Trace.TheVariants as trace
use Rattle.nv_script.proofs.Endings.{no_room}
use Rattle.nv_work.proofs.Told.{works_text}
use Rattle.nv_work.proofs.work_counted.Goals as goal

pub returns-in_err-player-clause-script : goal.returns-in_err-player-clause-script
returns-in_err-player-clause-script g c =
    let p = err_from_is_err_and c.from_residual.result c.from_residual.ensures.1 in
    rw (p.1, p.2) (inl (inl (no_room trace.Off no_head (g.R.CountedRead.remaining c.args.reader.now) (g.R.CountedRead.remaining c.args.reader.now)
    (g.W.CountedWrite.contents c.args.writer.now))))

pub returns-clause-script : goal.returns-clause-script
returns-clause-script g c =
    let worked = c.work_lines-outcome in
    works_text c.args.threads worked.result c.end.result _ _ _ _ _ worked.ensures.script worked.ensures.unheld c.end.ensures.ended
