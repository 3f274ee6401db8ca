use Rattle.std.proofs.Common.{◌∙◌, ◌∷◌, [], ℕ, Option, ap, subst, sym}
use Rattle.nv_cell.specs.Filling.{AreTaken, taken_from}
use Rattle.nv_cell.proofs.GivenBlocks.{taken_none, taken_one}
use Rattle.nv_cell.proofs.filling.taken.Goals as goal

pub returns-in-Some-clause-block : goal.returns-in-Some-clause-block
returns-in-Some-clause-block c = c.take_from_home.ensures.block ∙ sym (ap (taken_from c.args.lists.now.items) c.in-Some.is)

pub returns-in-Some-clause-lists : goal.returns-in-Some-clause-lists
returns-in-Some-clause-lists c =
    let g = c.args.geometry.now.numbers in
    let old = c.args.lists.now.items in
    let new = c.take_from_home.new.lists.items in
    subst (λ (w : Option ℕ). AreTaken g (w ∷ []) old new) (sym c.in-Some.is)
    (taken_one g old new c.in-Some.number c.take_from_home.ensures.lists c.take_from_home.ensures.still)

pub returns-in-None-clause-block : goal.returns-in-None-clause-block
returns-in-None-clause-block c = sym (ap (taken_from c.args.lists.now.items) c.in-None.is)

pub returns-in-None-clause-lists : goal.returns-in-None-clause-lists
returns-in-None-clause-lists c =
    let g = c.args.geometry.now.numbers in
    let lists = c.args.lists.now.items in
    subst (λ (w : Option ℕ). AreTaken g (w ∷ []) lists lists) (sym c.in-None.is) (taken_none g lists c.requires)
