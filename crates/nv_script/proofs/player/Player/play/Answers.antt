use Rattle.nv_script.specs.Trace.{head_by}
use Rattle.nv_script.proofs.Endings.{ends_text}
use Rattle.nv_script.proofs.player.Player.play.Goals as goal

pub returns-clause-script : goal.returns-clause-script
returns-clause-script g c =
    let played = c.play_lines-outcome in
    ends_text g.T.LineTeller.form (head_by g.T.LineTeller.form c.args.echo) played.result c.end.result _ _ _ _ _ played.ensures.script played.ensures.unheld c.end.ensures.ended
