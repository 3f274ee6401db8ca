use Rattle.std.proofs.Common.{◌∙◌, ◌∷◌, ◌++◌, [], ℕ, Option, ap, arith, subst}
use Rattle.nv_alloc.specs.Block.{BlockValue}
use Rattle.nv_cell.specs.Filling.{AreTaken, taken_from}
use Rattle.nv_cell.proofs.plan.CellPlan.fill_part.Goals as goal

pub wants-wanted-requires-clause-block : goal.wants-wanted-requires-clause-block
wants-wanted-requires-clause-block c = omega (arith, c.args.geometry.now.limits.some_bytes)

pub returns-clause-given : goal.returns-clause-given
returns-clause-given c =
    let g = c.args.geometry.now.numbers in
    let lists = c.args.lists.now.items in
    let slots = c.args.self.now.blocks.items in
    record {
      slots = c.put.ensures.blocks
          ∙ ap (λ (b : Option BlockValue). slots ++ b ∷ []) (c.taken-block.ensures.block ∙ ap (taken_from lists) c.wants-wanted.ensures);
      lists = subst (λ (w : Option ℕ). AreTaken g (w ∷ []) lists c.taken-block.new.lists.items) c.wants-wanted.ensures
          c.taken-block.ensures.lists;
    }
