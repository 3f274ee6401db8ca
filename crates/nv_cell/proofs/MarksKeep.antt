-- The marks of a cell are what a retention keeps: without snapshots, each part by name that is not
-- out.
use Rattle.std.proofs.Common.{◌≡◌, ℕ, zero, suc, ◌-◌, ◌<◌, ◌||◌, ◌∙◌, Bool, true, false, List, [], ◌∷◌, Some, ap, arith, if◌then◌else◌, inl, inr, refl, slice_get, sym}
use Rattle.std.specs.List.{list_any}
use Rattle.std.proofs.lemmas.Bool.{cases_lt, false≢true}
use Rattle.std.proofs.lemmas.Option.{same_Some}
use Rattle.nv_cell.specs.Cell.{CellState, IsCell, log_of}
use Rattle.nv_cell.specs.Marks.{is_current, is_there, mark_at}
use Rattle.nv_cell.specs.Named.{number_named}
use Rattle.nv_cell.specs.Retained.{AreMarksOf, names_there, retention_by_marks}
use Rattle.nv_cell.specs.declared.mark.Mark.{Mark}
use Rattle.nv_cell.specs.declared.mark.Mark.TheVariants.{Current, Killed, Kept, Out}
use Rattle.nv_cell.proofs.NamedPairs.{current_is, its_number, name_is, own_name}
use Rattle.nv_cell.proofs.NamedParts.{pair_later}
use Rattle.nv_cell.proofs.ValuesNow.{IsLog-take}
use Rattle.nv_entry.specs.Covered.{part_count, part_total}
use Rattle.nv_entry.specs.Held.{has_name, is_current as is_current_pair, is_named, keeps, pair_name}
use Rattle.nv_entry.specs.Log.{IsLog, pairs}
use Rattle.nv_entry.specs.declared.held.Pair.{Pair}
use Rattle.nv_entry.specs.declared.item.Entry.{Entry}

or_true : (b : Bool) → (b || true) ≡ true
or_true true = refl
or_true false = refl

-- a part that is not out is named
named : (pair : Pair) (ps : List Pair) (marks : List Mark) (n : ℕ) → slice_get ps n ≡ Some pair
    → is_there (mark_at marks n) ≡ true
    → list_any (has_name pair) (names_there ps marks) ≡ true
named pair [] marks n got there = cc
named pair (q ∷ ps) [] n got there = absurd (false≢true there)
named pair (q ∷ ps) (mark ∷ marks) zero got there =
    let is : q ≡ pair = same_Some q pair got in
    rw (there, is, own_name pair) refl
named pair (q ∷ ps) (mark ∷ marks) (suc n) got there =
    go (is_there mark) (named pair ps marks n got there) where
      go : (b : Bool) → list_any (has_name pair) (names_there ps marks) ≡ true
          → list_any (has_name pair)
          (if b then pair_name q ∷ names_there ps marks else names_there ps marks) ≡ true
      go true h = ap (λ (b : Bool). has_name pair (pair_name q) || b) h
          ∙ or_true (has_name pair (pair_name q))
      go false h = h

-- and no other is
unnamed : (pair : Pair) (ps : List Pair) (marks : List Mark)
    → ((m : ℕ) (q : Pair) → slice_get ps m ≡ Some q → is_there (mark_at marks m) ≡ true
    → has_name pair (pair_name q) ≡ false)
    → list_any (has_name pair) (names_there ps marks) ≡ false
unnamed pair [] marks others = refl
unnamed pair (q ∷ ps) [] others = refl
unnamed pair (q ∷ ps) (mark ∷ marks) others =
    go (is_there mark) refl (unnamed pair ps marks (λ m x. others (suc m) x)) where
      go : (b : Bool) → is_there mark ≡ b → list_any (has_name pair) (names_there ps marks) ≡ false
          → list_any (has_name pair)
          (if b then pair_name q ∷ names_there ps marks else names_there ps marks) ≡ false
      go true e h =
          ap (λ (b : Bool). b || list_any (has_name pair) (names_there ps marks))
          (others 0 q refl e) ∙ h
      go false e h = h

out_ends : (mark : Mark) → is_there mark ≡ false → is_current mark ≡ false
out_ends Current e = e
out_ends Killed e = refl
out_ends Kept e = refl
out_ends Out e = refl

within : (block : ℕ) (log : List Entry) (n : ℕ) (pair : Pair)
    → slice_get (pairs block log) n ≡ Some pair → n < part_total log
within block [] n pair got = cc
within block (e ∷ log) n pair got = elim (cases_lt n (part_count e)) [
  | inl lt ↦ omega (arith, lt)
  | inr ge ↦
      let more =
      within block log (n - part_count e) pair (sym (pair_later block e log n ge) ∙ got) in
      omega (arith, ge, more)
]

module _ (cell : CellState) (is : IsCell cell) (n : ℕ) (pair : Pair)
    (got : slice_get (pairs cell.block (log_of cell)) n ≡ Some pair) where
  log_is : IsLog (log_of cell)
  log_is = IsLog-take cell.chain.tail cell.chain.entries is.chain.rising

  -- each other pair has another name
  others : is_there (mark_at cell.marks n) ≡ false → (m : ℕ) (q : Pair)
      → slice_get (pairs cell.block (log_of cell)) m ≡ Some q
      → is_there (mark_at cell.marks m) ≡ true → has_name pair (pair_name q) ≡ false
  others gone m q at there = go (has_name pair (pair_name q)) refl where
    go : (b : Bool) → has_name pair (pair_name q) ≡ b → b ≡ false
    go false e = refl
    go true e =
        let number : m ≡ n = same_Some m n (sym (its_number cell.block (log_of cell) log_is m q at)
        ∙ ap (number_named (log_of cell)) (name_is pair (pair_name q) e)
        ∙ its_number cell.block (log_of cell) log_is n pair got) in
        absurd (false≢true
        (sym gone ∙ ap (λ (i : ℕ). is_there (mark_at cell.marks i)) (sym number) ∙ there))

  pub kept_by_marks : is_there (mark_at cell.marks n) ≡ keeps (retention_by_marks cell) pair
  kept_by_marks = go (is_there (mark_at cell.marks n)) refl where
    go : (b : Bool) → is_there (mark_at cell.marks n) ≡ b → b ≡ keeps (retention_by_marks cell) pair
    go true e =
        sym (ap (λ (b : Bool). (is_current_pair pair || false) || b)
        (named pair (pairs cell.block (log_of cell)) cell.marks n got e)
        ∙ or_true (is_current_pair pair || false))
    go false e =
        let ended : is_current_pair pair ≡ false =
        current_is cell.block (log_of cell) log_is n pair got
        ∙ sym (is.marks.current n (within cell.block (log_of cell) n pair got))
        ∙ out_ends (mark_at cell.marks n) e in
        sym (ap (λ (b : Bool). (b || false) || is_named
        (names_there (pairs cell.block (log_of cell)) cell.marks) pair) ended
        ∙ unnamed pair (pairs cell.block (log_of cell)) cell.marks (others e))

pub are_marks : (cell : CellState) → IsCell cell → AreMarksOf (retention_by_marks cell) cell
are_marks cell is = record { block = refl; there = kept_by_marks cell is }
