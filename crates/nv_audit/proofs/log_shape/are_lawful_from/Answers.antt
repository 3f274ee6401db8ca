use Rattle.std.proofs.Common.{refl, sym, ◌∙◌, arith}
use Rattle.std.proofs.lemmas.Bool.{false≢true}
use Rattle.nv_audit.proofs.LogShapes.{lawful_more, lawful_none}
use Rattle.nv_audit.proofs.log_shape.are_lawful_from.Goals as goal

pub returns-then-not-is_lawful : goal.returns-then-not-is_lawful
returns-then-not-is_lawful c =
    let next = lawful_more c.args.block c.args.log.now c.loop-entry.entry-index c.entry-item.result c.loop-entry.kind
    c.loop-entry-test.true c.entry-item.is in (
      λ no. absurd (false≢true no),
      λ all. absurd (false≢true (sym c.if-not-is_lawful.true
          ∙ c.is_lawful.ensures.1 (next.0 (c.loop-entry.invariant.0 all)).0)),
    )

pub loop-entry-preserved : goal.loop-entry-preserved
loop-entry-preserved c =
    let next = lawful_more c.args.block c.args.log.now c.loop-entry.entry-index c.entry-item.result c.loop-entry.kind
    c.loop-entry-test.true c.entry-item.is in
    rw c.kind_after-kind.ensures (
      λ all. (next.0 (c.loop-entry.invariant.0 all)).1,
      λ rest. c.loop-entry.invariant.1 (next.1 (c.is_lawful.ensures.0 c.if-not-is_lawful.false, rest)),
    )

pub returns : goal.returns
returns c = (
  λ yes. c.loop-entry.invariant.1 (lawful_none c.args.block c.args.log.now c.loop-entry.entry-index c.loop-entry.kind
      (omega (arith, c.loop-entry-test.false))),
  λ all. refl,
)
