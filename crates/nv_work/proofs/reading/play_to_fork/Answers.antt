use Rattle.std.proofs.Common.{◌∙◌, arith}
use Rattle.std.proofs.lemmas.Result.{err_from_is_err_and}
use Rattle.nv_script.proofs.Endings.{next, written_on}
use Rattle.nv_work.proofs.Forking.{front_not_played, front_not_taken, no_fork, to_fork}
use Rattle.nv_script.proofs.RunsPlayed.{plays_run}
use Rattle.nv_work.proofs.reading.play_to_fork.Goals as goal

pub returns-in_err-take-clause-front : goal.returns-in_err-take-clause-front
returns-in_err-take-clause-front g c =
    let inv = c.loop-number.invariant in
    let p = err_from_is_err_and c.from_residual.result c.from_residual.ensures.1 in
    rw (p.1, p.2) (front_not_taken _ _ _ _ _ _ _ inv.number inv.line.1 _ _ _ _ _ c.in_err-take.ensures.taken)

pub returns-then-not-branch-clause-front : goal.returns-then-not-branch-clause-front
returns-then-not-branch-clause-front g c =
    let inv = c.loop-number.invariant in
    let first = inv.first in
    let took = rw c.if-not-branch.true at c.in_ok-take.ensures.taken in
    let now = written_on _ _ _ _ _ _ _ inv.number inv.line.1 _ _ took.0 in (
      no_fork _ _ _ _ _ _ _ inv.number now (g.R.CountedRead.remaining c.take.new.reader) c.take.new.self.feed _ _ (omega (arith, first))
          took.1,
      tt,
    )

pub returns-in-Ok-true-clause-front : goal.returns-in-Ok-true-clause-front
returns-in-Ok-true-clause-front g c =
    let inv = c.loop-number.invariant in
    let took = rw c.if-not-branch.false at c.in_ok-take.ensures.taken in
    let now = written_on _ _ _ _ _ _ _ inv.number inv.line.1 _ _ took.0 in
    let is = rw c.in-Ok-true.field-0-test at c.in-Ok-true.ensures.line in
    rw c.play_or_fork.ensures.feed
    (to_fork _ _ _ _ _ _ _ inv.number now _ _ took.2 took.3 took.1 _ _ (rw c.take.ensures.world inv.line.2) is)

pub returns-in-Err-clause-front : goal.returns-in-Err-clause-front
returns-in-Err-clause-front g c =
    let inv = c.loop-number.invariant in
    let at = inv.line.1 in
    let took = rw c.if-not-branch.false at c.in_ok-take.ensures.taken in
    let now = written_on _ _ _ _ _ _ _ inv.number at _ _ took.0 in
    let why = c.in-Err.ensures.line inv.line.0 (rw c.take.ensures.world inv.line.2) (plays_run at.lines at.text inv.line.0 at.plays) in
    rw c.ending_of.ensures (front_not_played _ _ _ _ _ _ _ inv.number now _ _ took.2 took.3 took.1
    (g.R.CountedRead.remaining c.take.new.reader) _ _ why)

pub loop-number-preserved : goal.loop-number-preserved
loop-number-preserved g c =
    let inv = c.loop-number.invariant in
    let at = inv.line.1 in
    let took = rw c.if-not-branch.false at c.in_ok-take.ensures.taken in
    let now = written_on _ _ _ _ _ _ _ inv.number at _ _ took.0 in
    let is = rw c.in-Ok-false.field-0-test at c.in-Ok-false.ensures.line in
    let led = is inv.line.0 (rw c.take.ensures.world inv.line.2) (plays_run at.lines at.text inv.line.0 at.plays) in
    let last = took.1 in
    let failed = c.in-Ok-false.ensures.failed in
    rw c.play_or_fork.ensures.feed (record {
      first = omega arith;
      number = omega (arith, last);
      line = (led.0, next _ _ _ _ _ _ _ inv.number now _ _ took.2 took.3 _ _ _ _ led.2 led.4, led.3);
      reads = omega (arith, c.in_ok-take.ensures.reads, inv.reads);
      writes = omega (arith, failed, c.in_ok-take.ensures.writes, inv.writes);
      same_reader = c.take.ensures.same_reader ∙ inv.same_reader;
      same_writer = c.play_or_fork.ensures.same_writer ∙ (c.take.ensures.same_writer ∙ inv.same_writer);
    })
