-- An entry that is read at its place: where its parts and slots end, and those of the entries before it.
use Rattle.std.proofs.Common.{◌≡◌, ℕ, ◌+◌, ◌-◌, ◌<◌, ◌≤◌, List, length, Some, arith, sym, slice_get, slice_index_or}
use Rattle.std.proofs.lemmas.Option.{get_or_from_slice_get, slice_get_within}
use Rattle.nv_entry.specs.declared.item.Entry.{Entry}
use Rattle.nv_entry.specs.Covered.{part_count}
use Rattle.nv_cell.specs.Numbers.{AreEnds, part_base}
use Rattle.nv_cell.specs.Slots.{slot_base, slot_count}
use Rattle.nv_cell.specs.Tallies.{IsInRun, end_at, start_at}
use Rattle.nv_cell.proofs.Cells.{base_next, base_rises}
use Rattle.nv_cell.proofs.FirstSlots.{slot_few, slot_next}

pub record IsEntry (es : List Entry) (i : ℕ) (e : Entry) : Type 0 where
  pub within : i < length es
  pub is : e ≡ slice_index_or es i e
  pub parts : part_base es (i + 1) ≡ part_base es i + part_count e
  pub slots : slot_base es (i + 1) ≡ slot_base es i + slot_count e

pub entry_read : (es : List Entry) (i : ℕ) (e : Entry) → slice_get es i ≡ Some e → IsEntry es i e
entry_read es i e at =
    let lt = slice_get_within es i e at in
    let is = sym (get_or_from_slice_get es i e e at) in
    record { within = lt; is = is; parts = base_next es i e lt is; slots = slot_next es i e lt is }

-- its parts are among those of the first entries, if it is
pub parts_below : (es : List Entry) (i tail : ℕ) (e : Entry) → slice_get es i ≡ Some e → i < tail
    → part_base es i + part_count e ≤ part_base es tail
parts_below es i tail e at lt = omega (arith, (entry_read es i e at).parts, base_rises es (i + 1) tail (omega (arith, lt)))

-- and its slots are no more than these
pub slots_below : (es : List Entry) (i tail : ℕ) (e : Entry) → slice_get es i ≡ Some e → i < tail
    → slot_base es i + slot_count e ≤ part_base es tail
slots_below es i tail e at lt =
    omega (arith, (entry_read es i e at).slots, slot_few es (i + 1), base_rises es (i + 1) tail (omega (arith, lt)))

-- a part is in the entry that it stands in by its number
pub place_within : (es : List Entry) (ends : List ℕ) (i n : ℕ) (e : Entry) → slice_get es i ≡ Some e → AreEnds ends es
    → ((j : ℕ) → j < length es → end_at ends j ≡ part_base es (j + 1)) → IsInRun ends n i → n - start_at ends i < part_count e
place_within es ends i n e at starts ended run =
    let p = entry_read es i e at in
    omega (arith, p.parts, starts.first i p.within, ended i p.within, run.start, run.end)
