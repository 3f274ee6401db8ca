use Rattle.std.proofs.Common.{ℕ, List, subst, sym, ◌∙◌}
use Rattle.nv_audit.proofs.Marks.{free_by_marks}
use Rattle.nv_audit.specs.Lists.{AreMarked, used_of}
use Rattle.nv_audit.specs.Records.{states_of}
use Rattle.nv_audit.proofs.lists.are_free.Goals as goal

pub returns-clause-ok : goal.returns-clause-ok
returns-clause-ok c =
    let g = c.args.geometry.now.numbers in
    let used = used_of (states_of c.args.cells.now) c.args.book.now.state c.args.hands.now.parts.items c.args.hands.now.blocks.items in
    let told = subst (λ (xs : List ℕ). AreMarked g.blocks xs c.in_ok-marks.marks.items) (c.deref.ensures.value
    ∙ c.in_ok-used.ensures.ok) c.in_ok-marks.ensures in
    let marks = subst (AreMarked g.blocks used) (sym c.deref-2.ensures.value) told in
    let both = free_by_marks g c.args.lists.now used c.deref-2.result.now marks in
    (λ t. both.0 (c.are_all_free.ensures.0 t), λ free. c.are_all_free.ensures.1 (both.1 free))
