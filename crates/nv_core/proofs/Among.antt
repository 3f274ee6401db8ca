-- One of the cells that are lent changes: so does that of its slot among all, and no other.
use Rattle.std.proofs.Common.{◌≡◌, ◌≢◌, ℕ, ◌<◌, ◌==◌, ◌∙◌, Bool, true, false, true≢false, List, length, refl, ap, sym}
use Rattle.std.specs.Prelude.{slice_index_or, slice_set}
use Rattle.std.specs.List.{AllPairs}
use Rattle.std.proofs.lemmas.Bool.{eqb-true, eqb-false, eq-eqb}
use Rattle.std.proofs.lemmas.Grind.{get_or-set_at, get_or_default_zero}
use Rattle.std.proofs.lemmas.List.{ext_get_or, get_or-set_other, length-set}
use Rattle.std.proofs.lemmas.List.Folds.{Any-from_list_any, list_any_at}
use Rattle.nv_alloc.specs.Numbers.{has}
use Rattle.nv_cell.specs.Cell.{CellValue}
use Rattle.nv_calls.specs.Cells.{ino_at, no_cell, value_at, with_value}
use Rattle.nv_calls.specs.SlotCells.{cell_in, lent_cells, other_cells}
use Rattle.nv_calls.proofs.LentSlots.{apart, lent_at}
use Rattle.nv_machine.specs.Reads.{slot_at}
use Rattle.nv_core.specs.Parts.{HaveSlots, IsOnlyAt}
use Rattle.nv_core.proofs.Others.{others_stay}

pub only_among : (slots : List ℕ) (old new : List CellValue) (k : ℕ) → length new ≡ length old → k < length slots
    → AllPairs (λ (a b : ℕ). a < b) slots → HaveSlots old slots
    → lent_cells slots new ≡ with_value (lent_cells slots old) k (value_at (lent_cells slots new) k)
    → other_cells slots new ≡ other_cells slots old → IsOnlyAt (slot_at slots k) old new
only_among slots old new k many lt rises there only rest =
    ext_get_or (no_cell.1) new (slice_set old (slot_at slots k) (cell_in new (slot_at slots k)))
    (many ∙ sym (length-set old (slot_at slots k) (cell_in new (slot_at slots k)))) (λ i small. each i small (has slots i) refl) where
      lent : (j : ℕ) → j < length slots → j ≢ k → cell_in new (slice_index_or slots j 0) ≡ cell_in old (slice_index_or slots j 0)
      lent j small other =
          ap (λ (c : ℕ × CellValue). c.1) (sym (lent_at slots new j small)
          ∙ ap (λ (xs : List (ℕ × CellValue)). slice_index_or xs j no_cell) only
          ∙ get_or-set_other (lent_cells slots old) k j (ino_at (lent_cells slots old) k, value_at (lent_cells slots new) k) no_cell other
          ∙ lent_at slots old j small)

      each : (i : ℕ) → i < length new → (b : Bool) → has slots i ≡ b
          → cell_in new i ≡ slice_index_or (slice_set old (slot_at slots k) (cell_in new (slot_at slots k))) i (no_cell.1)
      each i small true q = found (Any-from_list_any (λ m. m == i) slots q) where
        found : ((j : ℕ) × (x : ℕ) × (j < length slots) × (slice_index_or slots j x ≡ x) × ((x == i) ≡ true))
            → cell_in new i ≡ slice_index_or (slice_set old (slot_at slots k) (cell_in new (slot_at slots k))) i (no_cell.1)
        found at = go (at.0 == k) refl where
          here : slice_index_or slots at.0 0 ≡ i
          here = sym (get_or_default_zero slots at.0 at.1 at.2) ∙ at.3 ∙ eqb-true at.1 i at.4

          go : (b : Bool) → (at.0 == k) ≡ b
              → cell_in new i ≡ slice_index_or (slice_set old (slot_at slots k) (cell_in new (slot_at slots k))) i (no_cell.1)
          go true e =
              let same : i ≡ slot_at slots k = sym here ∙ ap (λ (j : ℕ). slice_index_or slots j 0) (eqb-true at.0 k e) in
              ap (cell_in new) same ∙ sym (get_or-set_at old (slot_at slots k) i (cell_in new (slot_at slots k))
              (no_cell.1) same (there k lt))
          go false e =
              let ne : at.0 ≢ k = eqb-false at.0 k e in
              let away : i ≢ slot_at slots k = λ same. apart slots at.0 k rises at.2 lt ne (here ∙ same) in
              ap (cell_in new) (sym here) ∙ lent at.0 at.2 ne ∙ ap (cell_in old) here
              ∙ sym (get_or-set_other old (slot_at slots k) i (cell_in new (slot_at slots k)) (no_cell.1) away)
      each i small false q =
          let away : i ≢ slot_at slots k = λ same.
          true≢false (sym (list_any_at (λ m. m == i) slots k 0 lt (eq-eqb (slice_index_or slots k 0) i (sym same))) ∙ q) in
          others_stay slots old new many rest i q
          ∙ sym (get_or-set_other old (slot_at slots k) i (cell_in new (slot_at slots k)) (no_cell.1) away)

-- where no lent cell changes and no other, none does
pub all_still : (slots : List ℕ) (old new : List CellValue) → length new ≡ length old → lent_cells slots new ≡ lent_cells slots old
    → other_cells slots new ≡ other_cells slots old → new ≡ old
all_still slots old new many lent rest = ext_get_or (no_cell.1) new old many (λ i small. each i (has slots i) refl) where
  each : (i : ℕ) (b : Bool) → has slots i ≡ b → cell_in new i ≡ cell_in old i
  each i false q = others_stay slots old new many rest i q
  each i true q = found (Any-from_list_any (λ m. m == i) slots q) where
    found : ((j : ℕ) × (x : ℕ) × (j < length slots) × (slice_index_or slots j x ≡ x) × ((x == i) ≡ true)) → cell_in new i ≡ cell_in old i
    found at =
        let here : slice_index_or slots at.0 0 ≡ i = sym (get_or_default_zero slots at.0 at.1 at.2) ∙ at.3 ∙ eqb-true at.1 i at.4 in
        ap (cell_in new) (sym here)
        ∙ ap (λ (c : ℕ × CellValue). c.1) (sym (lent_at slots new at.0 at.2)
        ∙ ap (λ (xs : List (ℕ × CellValue)). slice_index_or xs at.0 no_cell) lent ∙ lent_at slots old at.0 at.2)
        ∙ ap (cell_in old) here
