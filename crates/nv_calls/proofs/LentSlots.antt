-- The cells of some slots, of all of which one changes.
use Rattle.std.proofs.Common.{◌≡◌, ◌≢◌, ℕ, ◌<◌, ◌==◌, Bool, true, false, true≢false, not, nat_lt, List, [], ◌∷◌, length, map, filter, arith, refl, ap, ap₂, subst, sym, ◌∙◌}
use Rattle.std.specs.Prelude.{slice_index_or, slice_set}
use Rattle.std.specs.List.{AllPairs, range_with_len}
use Rattle.std.proofs.lemmas.Bool.{eqb-true, eqb-false, eq-eqb, ltb-true, ltb-false}
use Rattle.std.proofs.lemmas.Grind.{get_or-set_at}
use Rattle.std.proofs.lemmas.List.{ext_get_or, get_or_default, get_or-map, get_or-set_other, length-set}
use Rattle.std.proofs.lemmas.List.Folds.{list_any_at}
use Rattle.std.proofs.Math.ListN.{length-map}
use Rattle.nv_alloc.specs.Numbers.{has, unused}
use Rattle.nv_cell.specs.Cell.{CellValue}
use Rattle.nv_calls.specs.Cells.{OnlyAt, ino_at, no_cell, value_at, with_value}
use Rattle.nv_calls.specs.SlotCells.{cell_in, lent_cells, other_cells}
use Rattle.nv_calls.proofs.CellLists.{only_value, value_given}

abbrev pub Rises : List ℕ → Type 0
Rises slots = AllPairs (λ (a b : ℕ). a < b) slots

pub lent_at : (slots : List ℕ) (all : List CellValue) (k : ℕ) → k < length slots
    → slice_index_or (lent_cells slots all) k no_cell ≡ (slice_index_or slots k 0, cell_in all (slice_index_or slots k 0))
lent_at slots all k lt = get_or-map (λ (ino : ℕ). (ino, cell_in all ino)) slots k 0 no_cell lt

pub lent_length : (slots : List ℕ) (all : List CellValue) → length (lent_cells slots all) ≡ length slots
lent_length slots all = length-map slots (λ (ino : ℕ). (ino, cell_in all ino))

-- two places have different slots
pub apart : (slots : List ℕ) (i k : ℕ) → Rises slots → i < length slots → k < length slots → i ≢ k
    → slice_index_or slots i 0 ≢ slice_index_or slots k 0
apart slots i k rises small lt ne same = go (nat_lt i k) refl where
  go : (b : Bool) → nat_lt i k ≡ b → ⊥
  go true less = let up : slice_index_or slots i 0 < slice_index_or slots k 0 = rises i k 0 (ltb-true i k less) lt in absurd
      (omega (arith, up, same))
  go false more =
      let up : slice_index_or slots k 0 < slice_index_or slots i 0 = rises k i 0 (omega (arith, ltb-false i k more, ne)) small in
      absurd (omega (arith, up, same))

-- what is kept of a list is told by what its items are told
map_kept : {Y : Type 0} (f g : ℕ → Y) (p : ℕ → Bool) (ns : List ℕ) → ((n : ℕ) → p n ≡ true → f n ≡ g n)
    → map f (filter p ns) ≡ map g (filter p ns)
map_kept f g p [] same = refl
map_kept {Y} f g p (n ∷ ns) same = go (p n) refl (map_kept f g p ns same) where
  go : (b : Bool) → p n ≡ b → map f (filter p ns) ≡ map g (filter p ns) → map f (filter p (n ∷ ns)) ≡ map g (filter p (n ∷ ns))
  go true e rest = rw e (ap₂ (λ (y : Y) (ys : List Y). y ∷ ys) (same n e) rest)
  go false e rest = rw e rest

module _ (slots : List ℕ) (all : List CellValue) (k place : ℕ) (v : CellValue) (rises : Rises slots)
    (within : k < length (lent_cells slots all)) (is : place ≡ slice_index_or slots k 0) (there : place < length all) where
  abbrev pub now : List CellValue
  now = slice_set all place v

  lt : k < length slots
  lt = omega (arith, within, lent_length slots all)

  each : (i : ℕ) → i < length (lent_cells slots now)
      → slice_index_or (lent_cells slots now) i no_cell ≡ slice_index_or (with_value (lent_cells slots all) k v) i no_cell
  each i few = go (i == k) refl where
    small : i < length slots
    small = omega (arith, few, lent_length slots now)

    pair : ℕ × CellValue
    pair = (ino_at (lent_cells slots all) k, v)

    want : ℕ × CellValue
    want = (place, v)

    numbered : pair ≡ want
    numbered = ap (λ (c : ℕ × CellValue). (c.0, v)) (lent_at slots all k lt) ∙ ap (λ (ino : ℕ). (ino, v)) (sym is)

    go : (b : Bool) → (i == k) ≡ b
        → slice_index_or (lent_cells slots now) i no_cell ≡ slice_index_or (with_value (lent_cells slots all) k v) i no_cell
    go true e =
        let same : i ≡ k = eqb-true i k e in
        let here : slice_index_or slots i 0 ≡ place = ap (λ (j : ℕ). slice_index_or slots j 0) same ∙ sym is in
        lent_at slots now i small
        ∙ ap (λ (ino : ℕ). (ino, cell_in now ino)) here
        ∙ ap (λ (c : CellValue). (place, c)) (get_or-set_at all place place v (no_cell.1) refl there)
        ∙ sym numbered
        ∙ sym (get_or-set_at (lent_cells slots all) k i pair no_cell same within)
    go false e =
        let other : i ≢ k = eqb-false i k e in
        let away : slice_index_or slots i 0 ≢ place = λ same. apart slots i k rises small lt other (same ∙ is) in
        lent_at slots now i small
        ∙ ap (λ (c : CellValue). (slice_index_or slots i 0, c)) (get_or-set_other all place (slice_index_or slots i 0) v (no_cell.1) away)
        ∙ sym (lent_at slots all i small)
        ∙ sym (get_or-set_other (lent_cells slots all) k i pair no_cell other)

  -- a slot's new cell is the k-th that is lent, and the others are as they were
  lent_with : lent_cells slots now ≡ with_value (lent_cells slots all) k v
  lent_with =
      ext_get_or no_cell (lent_cells slots now) (with_value (lent_cells slots all) k v)
      (lent_length slots now ∙ sym (lent_length slots all)
      ∙ sym (length-set (lent_cells slots all) k (ino_at (lent_cells slots all) k, v)))
      each

  pub lent_only : OnlyAt k (lent_cells slots all) (lent_cells slots now)
  lent_only = only_value (lent_cells slots all) (lent_cells slots now) k v within lent_with

  pub lent_value : value_at (lent_cells slots now) k ≡ v
  lent_value = value_given (lent_cells slots all) (lent_cells slots now) k v within lent_with

  pub lent_before : value_at (lent_cells slots all) k ≡ cell_in all place
  lent_before = ap (λ (c : ℕ × CellValue). c.1) (lent_at slots all k lt) ∙ ap (cell_in all) (sym is)

  -- what a step makes of the slot's cell, it makes of the k-th that is lent
  pub lent_step : (R : CellValue → CellValue → Type 0) (spare : CellValue) → R (slice_index_or all place spare) v
      → R (value_at (lent_cells slots all) k) (value_at (lent_cells slots now) k)
  lent_step R spare step =
      subst (λ (old : CellValue). R old (value_at (lent_cells slots now) k))
      (get_or_default all place spare (no_cell.1) there ∙ sym lent_before)
      (subst (R (slice_index_or all place spare)) (sym lent_value) step)

  in_slots : has slots place ≡ true
  in_slots = list_any_at (λ m. m == place) slots k 0 lt (eq-eqb (slice_index_or slots k 0) place (sym is))

  -- the cells that are not lent stay
  pub others_stay : other_cells slots now ≡ other_cells slots all
  others_stay =
      ap (λ (n : ℕ). map (cell_in now) (unused (has slots) 0 n)) (length-set all place v)
      ∙ map_kept (cell_in now) (cell_in all) (λ n. not (has slots n)) (range_with_len 0 (length all)) stays where
        not_both : (n : ℕ) → has slots n ≡ true → not (has slots n) ≡ true → ⊥
        not_both n lent free =
            let no : not (has slots n) ≡ false = rw lent refl in
            absurd (true≢false (sym free ∙ no))

        stays : (n : ℕ) → not (has slots n) ≡ true → cell_in now n ≡ cell_in all n
        stays n free = get_or-set_other all place n v (no_cell.1) (λ same. not_both n (ap (has slots) same ∙ in_slots) free)

  -- nor do the names by which they are lent
  pub frame_stays : (names : List ℕ)
      → ◌≡◌ {A = List ℕ × List CellValue} (names, other_cells slots now) (names, other_cells slots all)
  frame_stays names = ap (λ (others : List CellValue). (names, others)) others_stay
