-- A list of cells by value, of which one changes.
use Rattle.std.proofs.Common.{◌≡◌, ◌∙◌, ◌∷◌, ℕ, ◌<◌, List, [], ap, arith, length, subst, sym}
use Rattle.std.specs.Prelude.{slice_index_or, slice_set}
use Rattle.std.proofs.Math.Seq.{map-set_same}
use Rattle.std.proofs.lemmas.List.{get_or-map, length-map, map-set}
use Rattle.nv_calls.specs.Cells.{OnlyAt, no_cell, value_at, with_value}
use Rattle.nv_calls.proofs.CellLists.{only_value, value_given}
use Rattle.nv_cell.specs.Cell.{CellValue}
use Rattle.nv_sessions.specs.Taken.{pair, pairs, versions_of}
use Rattle.nv_sessions.specs.declared.cell_list.TakenCell.{TakenCell}

module _ (items : List TakenCell) (k : ℕ) (found : TakenCell) (v : CellValue) (within : k < length (pairs items))
    (is : found ≡ slice_index_or items k found) where
  abbrev pub now : List TakenCell
  now = slice_set items k (record found { cell = v })

  inside : k < length items
  inside = omega (arith, within, length-map items pair)

  -- what stands there for a change
  here : slice_index_or (pairs items) k no_cell ≡ pair found
  here = get_or-map pair items k found no_cell inside ∙ ap pair (sym is)

  list_with : pairs now ≡ with_value (pairs items) k v
  list_with =
      map-set pair items k (record found { cell = v })
      ∙ ap (λ (ino : ℕ). slice_set (pairs items) k (ino, v)) (sym (ap (λ (c : ℕ × CellValue). c.0) here))

  pub list_only : OnlyAt k (pairs items) (pairs now)
  list_only = only_value (pairs items) (pairs now) k v within list_with

  pub list_value : value_at (pairs now) k ≡ v
  list_value = value_given (pairs items) (pairs now) k v within list_with

  pub list_before : value_at (pairs items) k ≡ found.cell
  list_before = ap (λ (c : ℕ × CellValue). c.1) here

  -- what a step makes of the cell, it makes of the k-th of the list
  pub list_step : (R : CellValue → CellValue → Type 0) → R found.cell v → R (value_at (pairs items) k) (value_at (pairs now) k)
  list_step R step =
      subst (λ (old : CellValue). R old (value_at (pairs now) k)) (sym list_before)
      (subst (R found.cell) (sym list_value) step)

  -- the versions of the places stay, and the room
  pub frame_stays : (room : ℕ)
      → ◌≡◌ {A = List ℕ × List CellValue} (room ∷ versions_of now, []) (room ∷ versions_of items, [])
  frame_stays room =
      ap (λ (versions : List ℕ). (room ∷ versions, let none : List CellValue = [] in none))
      (map-set_same (λ (t : TakenCell). t.before) items k (record found { cell = v }) found (ap (λ (t : TakenCell). t.before) is))
