use Rattle.std.proofs.Common.{◌≡◌, ◌+◌, ◌∙◌, ◌∷◌, [], ℕ, Bool, Option, None, ap, cond, sym}
use Rattle.std.proofs.lemmas.List.{get_or_default}
use Rattle.nv_cell.specs.declared.mark.Mark.TheVariants.{Out}
use Rattle.nv_cell.specs.Cell.{page_block}
use Rattle.nv_cell.specs.Marks.{is_there, mark_at}
use Rattle.nv_cell.proofs.plan.CellPlan.wants.Goals as goal
use Rattle.nv_cell.proofs.plan.CellPlan.wants.Goals.{After-is_there}

-- whether the part is there
is_it : (c : After-is_there)
    → c.is_there.result ≡ is_there (mark_at c.args.self.now.marks.marks.items (c.args.first + c.args.place))
is_it c =
    let marks = c.args.self.now.marks.marks.items in
    let n = c.args.first + c.args.place in
    let mark = c.index-mark.result.now in
    c.is_there.ensures ∙ ap is_there (c.index-mark.ensures ∙ get_or_default marks n mark Out c.requires.within)

pub returns-then-not-is_there : goal.returns-then-not-is_there
returns-then-not-is_there c =
    let there = is_it (goal.at.returns-then-not-is_there c).After-is_there in
    let says = page_block c.args.block (c.args.entry.now ∷ []) c.args.place in
    let none : Option ℕ = None in
    ap (λ (b : Bool). cond b says none) (sym c.if-not-is_there.true ∙ there)

pub returns : goal.returns
returns c =
    let there = is_it (goal.at.returns c).After-is_there in
    let says = page_block c.args.block (c.args.entry.now ∷ []) c.args.place in
    let none : Option ℕ = None in
    c.block_at.ensures ∙ ap (λ (b : Bool). cond b says none) (sym c.if-not-is_there.false ∙ there)
