use Rattle.std.proofs.Common.{◌≡◌, ◌<◌, ◌∙◌, List, length, subst, sym}
use Rattle.std.specs.Prelude.{◌⊎◌, OnOk}
use Rattle.nv_base.specs.Memory.{out_of_memory}
use Rattle.nv_base.specs.Refusals.{FailsOnlyWhere}
use Rattle.nv_calls.specs.HandRoom.{pages_at_most, with_rooms}
use Rattle.nv_calls.specs.Prepared.{CanReady}
use Rattle.nv_calls.specs.SlotCells.{lent_cells}
use Rattle.nv_calls.specs.declared.update.Update.{Update}
use Rattle.nv_cell.specs.Cell.{CellValue}
use Rattle.nv_core.specs.Parts.{HaveSlots}
use Rattle.nv_core.specs.Rooms.{IsChecked, blocks_to_take}
use Rattle.nv_core.specs.Shown.{slots_in}
use Rattle.nv_core.proofs.CheckTurns.{IsWanted, counts_pages}
use Rattle.nv_core.proofs.RoomsMade.{room_made, room_wanted, rooms_alone}
use Rattle.nv_core.proofs.SameCells.{cells_same}
use Rattle.nv_core.proofs.Takes.{can_ready, with_by}
use Rattle.nv_core.proofs.kinds.check.make_room.Goals as goal

pub room_in-requires-clause-slots : goal.room_in-requires-clause-slots
room_in-requires-clause-slots c =
    subst (λ (xs : List CellValue). HaveSlots xs (slots_in c.args.running.now.slots)) (sym c.deref_mut.ensures.value)
    (with_by (IsWanted c.args.shared.now c.args.hand.now c.args.running.now c.args.wanted) c.args.running.now.request
    c.update-update.result.now c.requires.can c.update-update.ensures).1.read.there

pub room_in-requires-clause-none : goal.room_in-requires-clause-none
room_in-requires-clause-none c nil =
    let shared = c.args.shared.now in let slots = slots_in c.args.running.now.slots in let hand = c.args.hand.now in
    let u = c.update-update.result.now in let looked = c.args.running.now.looked in
    let has = with_by (λ (v : Update). IsChecked shared slots hand looked v × (length hand.«data».blocks ≡ blocks_to_take shared slots v))
    c.args.running.now.request c.update-update.result.now
    (counts_pages shared hand c.args.running.now c.args.wanted nil c.requires.empty c.requires.can) c.update-update.ensures in
    subst (λ (xs : List CellValue). CanReady (lent_cells slots xs) hand u) (sym c.deref_mut.ensures.value)
    (can_ready shared slots hand looked u c.requires.limits c.requires.device c.requires.sized has.0 has.1)

pub returns-clause-same : goal.returns-clause-same
returns-clause-same c = cells_same c.args.shared.now c.room_in.new.cells (c.room_in.ensures.same ∙ c.deref_mut.ensures.value)

pub returns-clause-hand : goal.returns-clause-hand
returns-clause-hand c = rooms_alone c.args.wanted _ c.args.hand.now c.room_in.new.hand c.room_in.result c.room_in.ensures.ok c.room_in.ensures.kept

pub returns-clause-ok : goal.returns-clause-ok
returns-clause-ok c =
    let slots = slots_in c.args.running.now.slots in let hand = c.args.hand.now in let u = c.update-update.result.now in
    room_made c.args.shared.now hand c.args.running.now c.update-update.result.now c.update-update.ensures c.room_in.new.hand c.args.wanted
    c.room_in.result
    (subst (λ (xs : List CellValue). OnOk c.room_in.result (c.room_in.new.hand ≡ with_rooms c.args.wanted
    (pages_at_most c.args.wanted (lent_cells slots xs) hand u) hand)) c.deref_mut.ensures.value c.room_in.ensures.ok)

pub returns-clause-some : goal.returns-clause-some
returns-clause-some c =
    let slots = slots_in c.args.running.now.slots in let hand = c.args.hand.now in let u = c.update-update.result.now in
    room_wanted c.args.shared.now hand c.args.running.now c.update-update.result.now c.update-update.ensures c.args.wanted c.room_in.result
    (subst (λ (xs : List CellValue). FailsOnlyWhere out_of_memory ((hand.«data».room < c.args.wanted)
    ⊎ (hand.pages.room < pages_at_most c.args.wanted (lent_cells slots xs) hand u)) c.room_in.result)
    c.deref_mut.ensures.value c.room_in.ensures.err)
