use Rattle.std.proofs.lemmas.Result.{err_from_is_err_and}
use Rattle.nv_script.specs.Trace.{head_by}
use Rattle.nv_script.proofs.Endings.{ends, ends_told, next, not_played, not_taken, written_on}
use Rattle.nv_script.proofs.Failures.{line_held}
use Rattle.nv_script.proofs.RunsPlayed.{plays_run_by}
use Rattle.nv_script.proofs.player.Player.turn.Goals as goal

pub returns-in_err-take-clause-turn : goal.returns-in_err-take-clause-turn
returns-in_err-take-clause-turn g c = λ input old m shown at.
    let p = err_from_is_err_and c.from_residual.result c.from_residual.ensures.1 in
    rw (p.1, p.2) (not_taken _ _ _ _ _ _ _ c.requires.number at _ _ _ _ _ c.in_err-take.ensures.taken)

pub returns-then-not-branch-clause-turn : goal.returns-then-not-branch-clause-turn
returns-then-not-branch-clause-turn g c = λ input old m shown at.
    let took = rw c.if-not-branch.true at c.in_ok-take.ensures.taken in
    let now = written_on _ _ _ _ _ _ _ c.requires.number at _ _ took.0 in
    ends _ _ _ _ _ _ _ c.requires.number now (g.R.CountedRead.remaining c.take.new.reader) c.take.new.self.feed _ took.1

pub returns-in-Err-clause-turn : goal.returns-in-Err-clause-turn
returns-in-Err-clause-turn g c = λ input old m shown at.
    let took = rw c.if-not-branch.false at c.in_ok-take.ensures.taken in
    let now = written_on _ _ _ _ _ _ _ c.requires.number at _ _ took.0 in
    let why = c.in-Err.ensures.line m (rw c.take.ensures.world shown) (plays_run_by g.T.LineTeller.form (head_by g.T.LineTeller.form c.args.echo) at.lines at.text m at.plays) in
    ends_told g.T.LineTeller.form (head_by g.T.LineTeller.form c.args.echo) _ _ _ _ _ _ c.ending_of.ensures (
      not_played _ _ _ _ _ _ _ c.requires.number now _ _ took.2 took.3
          (g.R.CountedRead.remaining c.take.new.reader) _ _ took.1 why,
      line_held g.T.LineTeller.form _ c.args.number _ _ _ _ _ why,
    )

pub returns-in-Ok-clause-turn : goal.returns-in-Ok-clause-turn
returns-in-Ok-clause-turn g c = λ input old m shown at.
    let took = rw c.if-not-branch.false at c.in_ok-take.ensures.taken in
    let now = written_on _ _ _ _ _ _ _ c.requires.number at _ _ took.0 in
    let led = c.in-Ok.ensures.line m (rw c.take.ensures.world shown) (plays_run_by g.T.LineTeller.form (head_by g.T.LineTeller.form c.args.echo) at.lines at.text m at.plays) in
    rw c.play_told.ensures.feed (
      took.1,
      led.0,
      next _ _ _ _ _ _ _ c.requires.number now _ _ took.2 took.3 _ _ _ _ led.2 led.4,
      led.3,
    )
