-- Where the slots of entries begin.
use Rattle.std.proofs.Common.{◌≡◌, ℕ, zero, suc, ◌+◌, ◌-◌, ◌<◌, ◌≤◌, List, [], ◌∷◌, length, take, arith, refl, slice_index_or}
use Rattle.nv_entry.specs.declared.item.Entry.{Entry}
use Rattle.nv_entry.specs.Covered.{part_total}
use Rattle.nv_cell.specs.declared.mark.Mark.{Mark}
use Rattle.nv_cell.specs.declared.tally.Tally.{Tally}
use Rattle.nv_cell.specs.Numbers.{part_base}
use Rattle.nv_cell.specs.Slots.{slot_base, slot_count, slot_total}
use Rattle.nv_cell.specs.Tallies.{AreTallies, end_at, first_slot}
use Rattle.nv_cell.proofs.Cells.{base_next}
use Rattle.nv_cell.proofs.Publishes.{first_base}
use Rattle.nv_cell.proofs.Tallies.{next_slot}

-- where the next entry's slots begin, by where the parts of both begin
pub slot_step : (es : List Entry) (t : ℕ) → slot_base es (suc t) ≡ slot_base es t + (part_base es (suc t) - part_base es t - 1)
slot_step [] zero = refl
slot_step [] (suc t) = refl
slot_step (x ∷ xs) zero = omega arith
slot_step (x ∷ xs) (suc t) = omega (arith, slot_step xs t)

pub slot_next : (es : List Entry) (t : ℕ) (e : Entry) → t < length es → e ≡ slice_index_or es t e
    → slot_base es (t + 1) ≡ slot_base es t + slot_count e
slot_next es t e lt q =
    let d : t + 1 ≡ suc t = omega arith in
    rw d (let b = rw d at (base_next es t e lt q) in omega (arith, slot_step es t, b))

-- there are no more slots than parts
total_few : (es : List Entry) → slot_total es ≤ part_total es
total_few [] = omega arith
total_few (x ∷ xs) = omega (arith, total_few xs)

pub slot_few : (es : List Entry) (t : ℕ) → slot_base es t ≤ part_base es t
slot_few es t = total_few (take t es)

-- each tally's slots begin where those of the entries before it end
pub first_slots : (tallies : List Tally) (ends : List ℕ) (marks : List Mark) (es : List Entry) (tail : ℕ) → AreTallies tallies ends marks
    → length ends ≡ tail → ((i : ℕ) → i < tail → end_at ends i ≡ part_base es (i + 1))
    → (i : ℕ) → i ≤ tail → first_slot tallies i ≡ slot_base es i
first_slots tallies ends marks es tail h len ended zero le = refl
first_slots tallies ends marks es tail h len ended (suc i) le =
    let d : i + 1 ≡ suc i = omega arith in
    let lt : i < tail = omega (arith, le) in
    let end = rw d at (ended i lt) in
    let before = first_slots tallies ends marks es tail h len ended i (omega (arith, lt)) in
    let start = first_base ends es tail ended i lt in
    rw (next_slot tallies i) (omega (arith, h.slots i (omega (arith, lt, len)), before, start, end, slot_step es i))
