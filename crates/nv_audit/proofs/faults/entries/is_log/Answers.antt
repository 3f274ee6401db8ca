use Rattle.std.proofs.Common.{sym, ◌∙◌}
use Rattle.std.proofs.lemmas.Bool.{false≢true}
use Rattle.nv_audit.proofs.Ordered.{follows_in, log_more}
use Rattle.nv_audit.proofs.faults.entries.is_log.Goals as goal

pub returns-then-not-may_follow : goal.returns-then-not-may_follow
returns-then-not-may_follow c = (
  λ no. absurd (false≢true no),
  λ log. absurd (false≢true (sym c.if-not-may_follow.true ∙ c.may_follow.ensures.1
      (follows_in c.args.entries.now c.loop-place.place c.index-entries-place.result c.index-entries-place-in-loop-place.result
      c.loop-place.auto.place c.loop-place-test.true c.index-entries-place.is c.index-entries-place-in-loop-place.is log))),
)

pub loop-place-preserved : goal.loop-place-preserved
loop-place-preserved c =
    log_more c.args.entries.now c.loop-place.place c.index-entries-place.result c.index-entries-place-in-loop-place.result
    c.loop-place.auto.place c.loop-place-test.true c.index-entries-place.is c.index-entries-place-in-loop-place.is
    (c.may_follow.ensures.0 c.if-not-may_follow.false) c.loop-place.invariant
