use Rattle.std.proofs.Common.{◌≡◌, ◌∙◌, List, length, subst, sym, ap}
use Rattle.nv_calls.specs.PagesWanted.{pages_wanted}
use Rattle.nv_calls.specs.Prepared.{CanReady, planned_by}
use Rattle.nv_calls.specs.SlotCells.{lent_cells}
use Rattle.nv_cell.specs.Cell.{CellValue}
use Rattle.nv_calls.specs.declared.update.Update.{Update}
use Rattle.nv_core.specs.Parts.{HaveSlots}
use Rattle.nv_core.specs.Rooms.{IsChecked, blocks_to_take, pages_to_take}
use Rattle.nv_core.specs.Shown.{slots_in}
use Rattle.nv_core.proofs.SameCells.{cells_same}
use Rattle.nv_core.proofs.Takes.{by_with, can_ready, with_by}
use Rattle.nv_core.proofs.kinds.take.pages_by.Goals as goal

has : (c : goal.After-update) → let u = c.update.result.now in
    IsChecked c.args.shared.now (slots_in c.args.running.now.slots) c.args.hand.now c.args.running.now.looked u
    × (length c.args.hand.now.«data».blocks ≡ blocks_to_take c.args.shared.now (slots_in c.args.running.now.slots) u)
has c =
    let shared = c.args.shared.now in let slots = slots_in c.args.running.now.slots in let hand = c.args.hand.now in
    with_by (λ (u : Update). IsChecked shared slots hand c.args.running.now.looked u
    × (length hand.«data».blocks ≡ blocks_to_take shared slots u)) c.args.running.now.request c.update.result.now c.requires.can c.update.ensures

pub pages_in-requires-clause-can : goal.pages_in-requires-clause-can
pages_in-requires-clause-can c =
    let slots = slots_in c.args.running.now.slots in let u = c.update.result.now in
    subst (λ (xs : List CellValue). CanReady (lent_cells slots xs) c.args.hand.now u) (sym c.deref_mut.ensures.value)
    (can_ready c.args.shared.now slots c.args.hand.now c.args.running.now.looked u c.requires.limits c.requires.device c.requires.sizes
    (has c).0 (has c).1)

pub pages_in-requires-clause-slots : goal.pages_in-requires-clause-slots
pages_in-requires-clause-slots c =
    subst (λ (xs : List CellValue). HaveSlots xs (slots_in c.args.running.now.slots)) (sym c.deref_mut.ensures.value) (has c).0.read.there

pub returns-clause-same : goal.returns-clause-same
returns-clause-same c = cells_same c.args.shared.now c.pages_in.new.cells (c.pages_in.ensures.same ∙ c.deref_mut.ensures.value)

pub returns-clause-wanted : goal.returns-clause-wanted
returns-clause-wanted c =
    let slots = slots_in c.args.running.now.slots in let u = c.update.result.now in
    by_with (λ (v : Update). c.pages_in.result ≡ pages_to_take c.args.shared.now slots c.args.hand.now v) c.args.running.now.request
    c.update.result.now
    (c.pages_in.ensures.wanted ∙ ap (λ (xs : List CellValue). let lent = lent_cells slots xs in pages_wanted lent (planned_by lent
    c.args.hand.now u))
    c.deref_mut.ensures.value)
    c.update.ensures
