-- A cell whose marks are told is erased exactly where its inode is gone and the world with numbers
-- keeps nothing of it: so a retire step and a release erase a slot exactly where it is over then.
use Rattle.std.proofs.Common.{◌≡◌, ℕ, suc, ◌&&◌, ◌||◌, ◌∙◌, Bool, cond, List, [], ◌∷◌, Option, Some, None, ap, append-nil, arith, filter, length, map, not, refl, slice_get, subst, sym}
use Rattle.std.specs.Prelude.{is_none}
use Rattle.std.specs.List.{AllByRecursion, list_any}
use Rattle.nv_book.specs.Listed.{unheld}
use Rattle.nv_book.specs.Records.{holder_of}
use Rattle.nv_book.specs.declared.record.Record.{Record}
use Rattle.nv_calls.specs.Retiring.{name_of, retired}
use Rattle.nv_cell.specs.Cell.{CellState, log_of}
use Rattle.nv_cell.specs.Marks.{is_there, mark_at}
use Rattle.nv_cell.specs.Readers.{is_erased, is_gone}
use Rattle.nv_cell.specs.declared.killed.KilledPart.{KilledPart}
use Rattle.nv_cell.specs.declared.mark.Mark.{Mark}
use Rattle.nv_entry.proofs.PartLists.{length-pairs}
use Rattle.nv_entry.specs.Held.{Retention, has_name, is_needed, keeps}
use Rattle.nv_entry.specs.Log.{IsLog, pairs}
use Rattle.nv_entry.specs.declared.held.Pair.{Pair}
use Rattle.nv_entry.specs.declared.item.Entry.{Entry}
use Rattle.nv_machine.specs.Held.{is_of_slot}
use Rattle.nv_machine.specs.Recorded.{with_parts}
use Rattle.nv_machine.proofs.EachElement.{all_filter}
use Rattle.nv_machine.proofs.FiledLists.{HasHolder, count_append, count_parted}
use Rattle.nv_machine.proofs.FiledMarks.{IsTold, is_filed_on}
use Rattle.nv_machine.proofs.FiledSteps.{MarksOf, retired_block, retired_log, retired_marks}
use Rattle.nv_machine.proofs.MarksInUse.{in_use_there}
use Rattle.nv_serial.specs.Committed.{is_over}
use Rattle.nv_serial.specs.Serial.{Serial, living, log_in}

-- ---- what keeps the pairs of a slot, and where nothing does

abbrev pub kept_by : List ℕ → ℕ → ℕ → List Record → Retention
kept_by snapshots ino block rs = record {
  block = block;
  snapshots = snapshots;
  pending = map name_of (filter (is_of_slot ino) (unheld snapshots rs));
}

abbrev pub over_by : List ℕ → ℕ → ℕ → List Entry → List Record → Bool
over_by snapshots ino block log rs = is_gone log && not
    (list_any (keeps (kept_by snapshots ino block rs)) (pairs block log))

-- so it is in the world with numbers
pub over_is : (s : Serial) (ino : ℕ) → is_over s ino ≡ over_by (living s) ino s.numbers.block
    (log_in s ino) s.records
over_is s ino = refl

-- ---- small things

any_by_place : (marks : List Mark) (test : Pair → Bool) (ps : List Pair) → length marks ≡ length ps
    → ((n : ℕ) (pair : Pair) → slice_get ps n ≡ Some pair → test pair ≡ is_there (mark_at marks n))
    → list_any is_there marks ≡ list_any test ps
any_by_place [] test [] many same = refl
any_by_place [] test (p ∷ ps) many same = absurd (omega (arith, many))
any_by_place (m ∷ marks) test [] many same = absurd (omega (arith, many))
any_by_place (m ∷ marks) test (p ∷ ps) many same =
    ap (λ (b : Bool). b || list_any is_there marks) (sym (same 0 p refl))
    ∙ ap (λ (b : Bool). test p || b)
    (any_by_place marks test ps (omega (arith, many)) (λ n pair got. same (suc n) pair got))

have_holders : (snapshots : List ℕ) (rs : List Record)
    → AllByRecursion (HasHolder snapshots) (filter (λ d. not (is_none (holder_of snapshots d))) rs)
have_holders snapshots [] = tt
have_holders snapshots (d ∷ rs) =
    go (holder_of snapshots d) refl (filter (λ d. not (is_none (holder_of snapshots d))) rs)
    (have_holders snapshots rs)
  where
    go : (o : Option ℕ) → holder_of snapshots d ≡ o → (rest : List Record)
        → AllByRecursion (HasHolder snapshots) rest
        → AllByRecursion (HasHolder snapshots) (cond (not (is_none o)) (d ∷ rest) rest)
    go None is rest more = more
    go (Some t) is rest more = (record { snapshot = t; is = is }, more)

-- ---- a cell with its marks, where nothing is killed and not yet retired

module _ (snapshots : List ℕ) (ino epoch : ℕ) (rs : List Record) (cell : CellState)
    (is : IsLog (log_of cell))
    (marks : MarksOf snapshots ino epoch [] rs cell) where
  abbrev held : List Record
  held = filter (λ d. not (is_none (holder_of snapshots d))) rs

  abbrev told : Record → Type 0
  told = IsTold snapshots ino cell.block (log_of cell)

  kept_there : (n : ℕ) (pair : Pair) → slice_get (pairs cell.block (log_of cell)) n ≡ Some pair
      → keeps (kept_by snapshots ino cell.block rs) pair ≡ is_there (mark_at cell.marks n)
  kept_there n pair got =
      let names = map name_of (filter (is_of_slot ino) (unheld snapshots rs)) in
      let both = count_append (is_filed_on ino (log_of cell) n) held (unheld snapshots rs) in
      let parted = count_parted (is_filed_on ino (log_of cell) n)
      (λ d. is_none (holder_of snapshots d)) rs in
      ap (λ names. is_needed snapshots pair || list_any (has_name pair) names)
      (sym (append-nil names))
      ∙ in_use_there snapshots ino epoch [] rs cell.block (log_of cell) cell.marks is marks n pair
      got held (unheld snapshots rs)
      (all_filter told (λ d. not (is_none (holder_of snapshots d))) rs marks.told)
      (have_holders snapshots rs)
      (omega (arith, both, parted, marks.kept_are n))

  -- ERASED exactly where over
  pub erased_over : is_erased cell ≡ over_by snapshots ino cell.block (log_of cell) rs
  erased_over =
      ap (λ (b : Bool). is_gone (log_of cell) && not b)
      (any_by_place cell.marks (keeps (kept_by snapshots ino cell.block rs))
      (pairs cell.block (log_of cell))
      (omega (arith, marks.len, length-pairs cell.block (log_of cell))) kept_there)

-- A RETIRE STEP erases a slot exactly where it is over once its killed parts are retired and
-- recorded
pub retired_over : (snapshots : List ℕ) (ino epoch : ℕ) (killed : List KilledPart)
    (rs : List Record) (cell : CellState)
    → IsLog (log_of cell) → MarksOf snapshots ino epoch killed rs cell
    → is_erased (retired snapshots ino epoch killed cell)
    ≡ over_by snapshots ino cell.block (log_of cell) (with_parts snapshots ino epoch killed rs)
retired_over snapshots ino epoch killed rs cell is marks =
    let after = retired snapshots ino epoch killed cell in
    let log = retired_log snapshots ino epoch killed cell in
    let block = retired_block snapshots ino epoch killed cell in
    let records = with_parts snapshots ino epoch killed rs in
    erased_over snapshots ino epoch records after (subst IsLog (sym log) is)
    (retired_marks snapshots ino epoch killed rs cell is marks)
    ∙ ap (λ (es : List Entry). over_by snapshots ino after.block es records) log
    ∙ ap (λ (n : ℕ). over_by snapshots ino n (log_of cell) records) block
