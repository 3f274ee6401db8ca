-- A page with an entry that something keeps stays, and its count of valid entries tells of one.
use Rattle.std.proofs.Common.{◌≡◌, ℕ, zero, suc, ◌-◌, ◌<◌, ◌≤◌, ◌&&◌, ◌||◌, ◌==◌, ◌∙◌, Bool, true, false, not, List, [], ◌∷◌, ◌++◌, ap, arith, drop, length, map, min, refl, sym, take}
use Rattle.std.specs.List.{list_any}
use Rattle.std.proofs.lemmas.Bool.{false≢true, not-false}
use Rattle.std.proofs.lemmas.Bool.Decides.{nat_tests}
use Rattle.std.proofs.lemmas.List.{drop-map, drop_min, length-drop, length-take, take-map, take_min}
use Rattle.nv_cell.specs.Cell.{CellState, IsCell, log_of}
use Rattle.nv_cell.specs.Marks.{is_there}
use Rattle.nv_cell.specs.Readers.{counts_of, marks_by_entry, marks_of_page, there_flags}
use Rattle.nv_cell.specs.declared.mark.Mark.{Mark}
use Rattle.nv_cell.proofs.PageMarks.{none_counts}
use Rattle.nv_entry.specs.ByFlags.{all_go_by, goes_by, page_goes_by}
use Rattle.nv_entry.specs.Clean.{hides, is_empty}
use Rattle.nv_entry.specs.declared.item.Entry.{Entry}
use Rattle.nv_log.specs.Chain.{end_of, start_of}
use Rattle.nv_log.proofs.Parts.{in_order, part_is}
use Rattle.nv_clean.proofs.Walking.{log_len, there_count}

-- one of a page's flags is set
abbrev pub has_kept : List Bool → Bool
has_kept flags = list_any (λ (b : Bool). b) flags

pub none_both : (b : Bool) → false ≡ (b && false)
none_both true = refl
none_both false = refl

-- where something keeps an entry of a page, not all of them go
pub stops : (block : ℕ) (flags : List Bool) (before page later : List Entry)
    → has_kept (take (length page) flags) ≡ true
    → false ≡ all_go_by block flags before page later
stops block [] before [] later h = absurd (false≢true h)
stops block (flag ∷ flags) before [] later h = absurd (false≢true h)
stops block [] before (e ∷ page) later h = refl
stops block (true ∷ flags) before (e ∷ page) later h =
    go (not (is_empty (page ++ later))) (not (list_any (λ (earlier : Entry). hides block e.item earlier.item) before))
    (all_go_by block flags before page later) where
      go : (a b c : Bool) → false ≡ ((a && false && b) && c)
      go true b c = refl
      go false b c = refl
stops block (false ∷ flags) before (e ∷ page) later h =
    none_both (goes_by block false before e (page ++ later))
    ∙ ap (λ (b : Bool). goes_by block false before e (page ++ later) && b) (stops block flags before page later h)

pub any_map : {X : Type 0} (test : X → Bool) (xs : List X) → has_kept (map test xs) ≡ list_any test xs
any_map test [] = refl
any_map test (x ∷ xs) = ap (λ (b : Bool). test x || b) (any_map test xs)

module _ (cell : CellState) (is : IsCell cell) (k : ℕ) (short : k < length cell.chain.ends) where
  abbrev start : ℕ
  start = start_of cell.chain k

  abbrev end : ℕ
  end = end_of cell.chain k

  abbrev len : ℕ
  len = length cell.chain.entries

  abbrev all : List (List Mark)
  all = marks_by_entry (log_of cell) cell.marks

  -- the flags of a page
  flags_are : map (list_any is_there) (marks_of_page cell k) ≡ take (end - start) (drop start (there_flags cell))
  flags_are =
      let begun : start - 0 ≡ start = omega arith in
      ap (map (list_any is_there))
      (part_is cell.chain.page 0 cell.chain.ends len k len all is.chain.parted short)
      ∙ ap (λ (n : ℕ). map (list_any is_there) (take (end - start) (drop n all))) begun
      ∙ sym (take-map (list_any is_there) (end - start) (drop start all))
      ∙ ap (take (end - start)) (sym (drop-map (list_any is_there) start all))

  -- those of its published entries
  published_flags : (from to : ℕ) → from ≡ min start cell.chain.tail → to ≡ min end cell.chain.tail
      → take (length (take (to - from) (drop from (log_of cell)))) (drop from (there_flags cell))
      ≡ take (end - start) (drop start (there_flags cell))
  published_flags from to at past =
      let tail : length (there_flags cell) ≡ cell.chain.tail = there_count cell ∙ log_len cell is in
      let first : from ≡ min start (length (there_flags cell)) = omega (arith, at, tail) in
      let rest = length-drop start (there_flags cell) in
      let log_rest = length-drop from (log_of cell) in
      let size : length (take (to - from) (drop from (log_of cell))) ≡ min (end - start) (length (drop start (there_flags cell))) =
      omega (arith, length-take (to - from) (drop from (log_of cell)), log_rest, log_len cell is, rest, tail, at, past) in
      ap (λ (n : ℕ). take n (drop from (there_flags cell))) size
      ∙ ap (λ (n : ℕ). take (min (end - start) (length (drop start (there_flags cell)))) (drop n (there_flags cell))) first
      ∙ ap (take (min (end - start) (length (drop start (there_flags cell))))) (drop_min start (there_flags cell))
      ∙ take_min (end - start) (drop start (there_flags cell))

  -- a page that has a valid entry stays
  pub valid_stays : (from to : ℕ) (before : List Entry) → from ≡ min start cell.chain.tail
      → to ≡ min end cell.chain.tail
      → ((counts_of cell k).valid == 0) ≡ false
      → false ≡ page_goes_by cell.block (drop from (there_flags cell)) before (take (to - from) (drop from (log_of cell)))
      (drop to (log_of cell))
  valid_stays from to before at past some =
      let page = take (to - from) (drop from (log_of cell)) in
      let kept : has_kept (take (length page) (drop from (there_flags cell))) ≡ true =
      ap has_kept (published_flags from to at past ∙ sym flags_are)
      ∙ any_map (list_any is_there) (marks_of_page cell k)
      ∙ not-false (list_any (list_any is_there) (marks_of_page cell k))
      (sym (none_counts (list_any is_there) (marks_of_page cell k) (counts_of cell k).valid refl) ∙ some) in
      none_both (not (is_empty page))
      ∙ ap (λ (b : Bool). not (is_empty page) && b)
      (stops cell.block (drop from (there_flags cell)) before page (drop to (log_of cell)) kept)

  pub order : (from to : ℕ) → from ≡ min start cell.chain.tail → to ≡ min end cell.chain.tail
      → from ≤ to
  order from to at past =
      omega (arith, at, past, (in_order cell.chain.page cell.chain.ends len k is.chain.parted).0)

-- a number that is not 0
pub is_some : (n : ℕ) → (n ≡ 0 → ⊥) → (n == 0) ≡ false
is_some zero some = absurd (some refl)
is_some (suc n) some = grind (arith, nat_tests)
