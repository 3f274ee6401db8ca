use Rattle.std.proofs.Common.{refl, sym, subst, ◌∙◌}
use Rattle.std.proofs.lemmas.Bool.{false≢true}
use Rattle.nv_alloc.specs.Block.{AreSized}
use Rattle.nv_audit.proofs.Sized.{all_sized, all_themselves, its_size, itself, one_sized_more}
use Rattle.nv_audit.proofs.faults.fit.are_sized.Goals as goal

pub loop-block-init : goal.loop-block-init
loop-block-init c = (λ all. all, λ all. all)

pub returns-then-not-is_sized : goal.returns-then-not-is_sized
returns-then-not-is_sized c =
    let size = c.args.size in
    let blocks = c.args.blocks.now in (
      λ no. absurd (false≢true no),
      λ all. absurd (false≢true (sym c.if-not-is_sized.true ∙ c.is_sized.ensures.1
          (its_size size itself blocks c.loop-block.block-index c.block-item.result c.loop-block-test.true c.block-item.is
          c.loop-block.invariant (subst (AreSized size) (sym (all_themselves blocks)) all)).0)),
    )

pub loop-block-preserved : goal.loop-block-preserved
loop-block-preserved c =
    one_sized_more c.args.size itself c.args.blocks.now c.loop-block.block-index c.block-item.result c.loop-block-test.true
    c.block-item.is c.loop-block.invariant (c.is_sized.ensures.0 c.if-not-is_sized.false, tt)

pub returns : goal.returns
returns c =
    let blocks = c.args.blocks.now in (
      λ yes. subst (AreSized c.args.size) (all_themselves blocks)
          (all_sized c.args.size itself blocks c.loop-block.block-index c.loop-block-test.false c.loop-block.invariant),
      λ all. refl,
    )
