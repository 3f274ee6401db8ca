use Rattle.std.proofs.Common.{refl, arith}
use Rattle.std.proofs.lemmas.Bool.{false≢true}
use Rattle.nv_audit.proofs.LogShapes.{behind_gone, behind_more, behind_none}
use Rattle.nv_audit.proofs.log_shape.is_gone_last.Goals as goal

pub returns-then-gone : goal.returns-then-gone
returns-then-gone c = (
  λ no. absurd (false≢true no),
  λ last. behind_gone c.args.log.now c.loop-entry.entry-index c.loop-entry.gone c.loop-entry-test.true c.if-gone.true
      (c.loop-entry.invariant.0 last),
)

pub loop-entry-preserved : goal.loop-entry-preserved
loop-entry-preserved c =
    let next = behind_more c.args.log.now c.loop-entry.entry-index c.entry-item.result c.loop-entry.gone
    c.is_gone-gone.result c.loop-entry-test.true c.entry-item.is c.if-gone.false c.is_gone-gone.ensures in (
      λ last. next.0 (c.loop-entry.invariant.0 last),
      λ rest. c.loop-entry.invariant.1 (next.1 rest),
    )

pub returns : goal.returns
returns c = (
  λ yes. c.loop-entry.invariant.1 (behind_none c.args.log.now c.loop-entry.entry-index c.loop-entry.gone
      (omega (arith, c.loop-entry-test.false))),
  λ last. refl,
)
