-- Records are as many as the pairs of all logs that they name: each is of one pair, and no pair has two.
use Rattle.std.proofs.Common.{◌≡◌, ◌∙◌, ℕ, ◌<◌, ◌≤◌, ◌&&◌, Bool, true, false, List, [], ◌∷◌, Some, ap, arith, length, nat_lt, refl, slice_get, subst, sym}
use Rattle.std.specs.Prelude.{◌||◌}
use Rattle.std.specs.List.{AllByRecursion, list_any}
use Rattle.std.proofs.lemmas.Bool.{and_parts, eqb-true, false≢true, ltb-false, ltb-true, ne_eqb}
use Rattle.std.proofs.lemmas.List.{get_or_past}
use Rattle.std.proofs.lemmas.List.Sums.{length-filter}
use Rattle.std.proofs.lemmas.Option.{same_Some}
use Rattle.nv_book.specs.Records.{is_page}
use Rattle.nv_book.specs.declared.record.Record.{Record}
use Rattle.nv_calls.specs.Retiring.{name_of}
use Rattle.nv_cell.specs.Cell.{CellState, log_of}
use Rattle.nv_cell.specs.Named.{number_named}
use Rattle.nv_entry.specs.Held.{has_name}
use Rattle.nv_entry.specs.Log.{IsLog, pairs}
use Rattle.nv_entry.specs.declared.held.Pair.{Pair}
use Rattle.nv_entry.specs.declared.part.PartId.{PartId}
use Rattle.nv_machine.specs.Held.{is_of_slot}
use Rattle.nv_machine.specs.Recorded.{IsOfPair}
use Rattle.nv_machine.specs.Scanned.{all_pages_that, pages_that}
use Rattle.nv_machine.specs.World.{Shared, World, cell_at, no_cell}
use Rattle.nv_machine.proofs.EachElement.{all_weaker}
use Rattle.nv_machine.proofs.FiledLists.{count, count_cons, one}
use Rattle.nv_machine.proofs.Lists.{self}
use Rattle.nv_cell.proofs.NamedPairs.{its_number, name_is, own_name}
use Rattle.nv_core.proofs.AuditCounts.{count_at, count_or, count_some, none_numbered, one_numbered}
use Rattle.nv_core.proofs.AuditNamed.{in_record}
use Rattle.nv_core.proofs.SumsTo.{sum_both, sum_none, sum_one, sum_range, sum_same, sum_to}

pub and_true : (b : Bool) → (b && true) ≡ b
and_true true = refl
and_true false = refl

pub and_false : (b : Bool) → (b && false) ≡ false
and_false true = refl
and_false false = refl

abbrev pub pairs_in : CellState → List Pair
pairs_in cell = pairs cell.block (log_of cell)

-- ---- of one slot

module _ (w : World) (ino : ℕ) (is : IsLog (log_of (cell_at w.shared ino))) (t : Record → Bool) where
  abbrev cell : CellState
  cell = cell_at w.shared ino

  one_record : (d : Record) → IsOfPair w d → count (λ pair. t d && in_record ino pair d) (pairs_in cell) ≡ one (t d && is_of_slot ino d)
  one_record d own = go (is_of_slot ino d) refl where
    go : (b : Bool) → is_of_slot ino d ≡ b
        → count (λ pair. t d && (b && has_name pair (name_of d))) (pairs_in cell) ≡ one (t d && b)
    go false e =
        none_numbered (λ pair. t d) (λ pair. false) (pairs_in cell) (λ n pair got no. absurd (false≢true no))
        ∙ ap one (sym (and_false (t d)))
    go true e =
        let here : d.ino ≡ ino = eqb-true d.ino ino e in
        let got : slice_get (pairs_in cell) own.n ≡ Some own.pair =
        subst (λ (i : ℕ). slice_get (pairs_in (cell_at w.shared i)) own.n ≡ Some own.pair) here own.is in
        let number = its_number cell.block (log_of cell) is own.n own.pair got in
        one_numbered (λ pair. t d) (λ pair. has_name pair (name_of d)) own.n (pairs_in cell) own.pair got
        (ap (has_name own.pair) (sym own.name) ∙ own_name own.pair)
        (λ n pair at named. same_Some n own.n (sym (its_number cell.block (log_of cell) is n pair at)
        ∙ ap (number_named (log_of cell)) (sym (name_is pair (name_of d) named) ∙ sym own.name) ∙ number))
        ∙ ap one (sym (and_true (t d)))

  pub slot_records : (ds : List Record) → AllByRecursion (IsOfPair w) ds
      → ((n : ℕ) (pair : Pair) → slice_get (pairs_in cell) n ≡ Some pair → count (in_record ino pair) ds ≤ 1)
      → count (λ pair. list_any (λ d. t d && in_record ino pair d) ds) (pairs_in cell) ≡ count (λ d. t d && is_of_slot ino d) ds
  slot_records [] all few = none_numbered (λ pair. false) (λ pair. false) (pairs_in cell) (λ n pair got no. absurd (false≢true no))
  slot_records (d ∷ ds) all few =
      omega (
        arith,
        count_or (λ pair. t d && in_record ino pair d) (λ pair. list_any (λ d. t d && in_record ino pair d) ds) (pairs_in cell) apart,
        one_record d all.0,
        slot_records ds all.1
            (λ n pair got. let most = few n pair got in let more = count_cons (in_record ino pair) d ds in omega (arith, most, more)),
        count_cons (λ d. t d && is_of_slot ino d) d ds,
      ) where
        apart : (n : ℕ) (pair : Pair) → slice_get (pairs_in cell) n ≡ Some pair → (t d && in_record ino pair d) ≡ true
            → list_any (λ d. t d && in_record ino pair d) ds ≡ true → ⊥
        apart n pair got e f =
            let most = few n pair got in
            let more = count_cons (in_record ino pair) d ds in
            let here : one (in_record ino pair d) ≡ 1 = ap one ((and_parts (t d) (in_record ino pair d) e).1) in
            let some = count_some (λ d. t d && in_record ino pair d) (in_record ino pair) ds
            (λ x q. (and_parts (t x) (in_record ino pair x) q).1) f in
            absurd (omega (arith, most, more, here, some))

-- ---- of all slots

by_slots : (t : Record → Bool) (many : ℕ) (ds : List Record) → AllByRecursion (λ (d : Record). d.ino < many) ds
    → count t ds ≡ sum_to many (λ ino. count (λ d. t d && is_of_slot ino d) ds)
by_slots t many [] all = sym (sum_none many (λ ino. count (λ d. t d && is_of_slot ino d) []) (λ n lt. refl))
by_slots t many (d ∷ ds) all =
    let own : (t d && is_of_slot d.ino d) ≡ t d = ap (λ (b : Bool). t d && b) (self d.ino) ∙ and_true (t d) in
    let its = sum_one many d.ino (λ ino. one (t d && is_of_slot ino d)) all.0
    (λ i ne. ap (λ (b : Bool). one (t d && b)) (ne_eqb d.ino i (λ e. ne (sym e))) ∙ ap one (and_false (t d))) in
    omega (
      arith,
      count_cons t d ds,
      ap one own,
      its,
      by_slots t many ds all.1,
      sum_both many (λ ino. one (t d && is_of_slot ino d)) (λ ino. count (λ d. t d && is_of_slot ino d) ds)
          (λ ino. count (λ d. t d && is_of_slot ino d) (d ∷ ds)) (λ ino. count_cons (λ d. t d && is_of_slot ino d) d ds),
    )

slot_there : (w : World) (d : Record) → IsOfPair w d → d.ino < length w.shared.cells
slot_there w d is = go (nat_lt d.ino (length w.shared.cells)) refl where
  go : (b : Bool) → nat_lt d.ino (length w.shared.cells) ≡ b → d.ino < length w.shared.cells
  go true e = ltb-true d.ino (length w.shared.cells) e
  go false e =
      let past : cell_at w.shared d.ino ≡ no_cell =
      get_or_past w.shared.cells d.ino no_cell (ltb-false d.ino (length w.shared.cells) e) in
      let none = subst (λ (c : CellState). slice_get (pairs_in c) is.n ≡ Some is.pair) past is.is in
      absurd cc

-- ---- of pages

-- all pages that pass a test, slot by slot
pub pages_by_slot : (passes : ℕ → Pair → Bool) (s : Shared)
    → all_pages_that passes s ≡ sum_to (length s.cells) (λ ino. pages_that (passes ino) (cell_at s ino))
pages_by_slot passes s = sum_range (λ ino. pages_that (passes ino) (cell_at s ino)) (length s.cells)

pub pages_counted : (passes : Pair → Bool) (cell : CellState)
    → pages_that passes cell ≡ count (λ pair. is_page pair.part && passes pair) (pairs_in cell)
pages_counted passes cell = sym (length-filter (λ (pair : Pair). is_page pair.part && passes pair) (pairs_in cell))

-- of two tests that say the same of each pair
pub same_pages : (f h : ℕ → Pair → Bool) (s : Shared)
    → ((ino n : ℕ) (pair : Pair) → slice_get (pairs_in (cell_at s ino)) n ≡ Some pair → f ino pair ≡ h ino pair)
    → all_pages_that f s ≡ all_pages_that h s
same_pages f h s same =
    pages_by_slot f s
    ∙ sum_same (length s.cells) (λ ino. pages_that (f ino) (cell_at s ino)) (λ ino. pages_that (h ino) (cell_at s ino))
    (λ ino lt. pages_counted (f ino) (cell_at s ino)
    ∙ count_at (λ pair. is_page pair.part && f ino pair) (λ pair. is_page pair.part && h ino pair) (pairs_in (cell_at s ino))
    (λ n pair got. ap (λ (b : Bool). is_page pair.part && b) (same ino n pair got))
    ∙ sym (pages_counted (h ino) (cell_at s ino)))
    ∙ sym (pages_by_slot h s)

-- a record is of a page where its pair is
one_paged : (ino : ℕ) (pair : Pair) (t : Record → Bool) (d : Record)
    → ((is_page d.part && t d) && in_record ino pair d) ≡ (is_page pair.part && (t d && in_record ino pair d))
one_paged ino pair t d = go (in_record ino pair d) refl where
  and_on : (a b c : Bool) → ((a && b) && c) ≡ (a && (b && c))
  and_on true b c = refl
  and_on false b c = refl

  go : (r : Bool) → in_record ino pair d ≡ r → ((is_page d.part && t d) && r) ≡ (is_page pair.part && (t d && r))
  go false e =
      and_false (is_page d.part && t d)
      ∙ sym (ap (λ (b : Bool). is_page pair.part && b) (and_false (t d)) ∙ and_false (is_page pair.part))
  go true e =
      let named = name_is pair (name_of d) ((and_parts (is_of_slot ino d) (has_name pair (name_of d)) e).1) in
      and_on (is_page d.part) (t d) true ∙ ap (λ (id : PartId). is_page id.part && (t d && true)) named

any_paged : (ino : ℕ) (pair : Pair) (t : Record → Bool) (ds : List Record)
    → list_any (λ d. (is_page d.part && t d) && in_record ino pair d) ds
    ≡ (is_page pair.part && list_any (λ d. t d && in_record ino pair d) ds)
any_paged ino pair t [] = sym (and_false (is_page pair.part))
any_paged ino pair t (d ∷ ds) =
    ap (λ (b : Bool). b || list_any (λ d. (is_page d.part && t d) && in_record ino pair d) ds) (one_paged ino pair t d)
    ∙ ap (λ (b : Bool). (is_page pair.part && (t d && in_record ino pair d)) || b) (any_paged ino pair t ds)
    ∙ both (is_page pair.part) (t d && in_record ino pair d) (list_any (λ d. t d && in_record ino pair d) ds) where
      both : (p a b : Bool) → ((p && a) || (p && b)) ≡ (p && (a || b))
      both true a b = refl
      both false a b = refl

-- those records of pages that pass a test are as many as the pages of which one does
pub page_records : (w : World) (t : Record → Bool) (ds : List Record) → ((ino : ℕ) → IsLog (log_of (cell_at w.shared ino)))
    → AllByRecursion (IsOfPair w) ds
    → ((ino n : ℕ) (pair : Pair) → slice_get (pairs_in (cell_at w.shared ino)) n ≡ Some pair → count (in_record ino pair) ds ≤ 1)
    → count (λ d. is_page d.part && t d) ds ≡ all_pages_that (λ ino pair. list_any (λ d. t d && in_record ino pair d) ds) w.shared
page_records w t ds logs all few =
    by_slots (λ d. is_page d.part && t d) (length w.shared.cells) ds
    (all_weaker (IsOfPair w) (λ (d : Record). d.ino < length w.shared.cells) (slot_there w) ds all)
    ∙ sum_same (length w.shared.cells) (λ ino. count (λ d. (is_page d.part && t d) && is_of_slot ino d) ds)
    (λ ino. pages_that (λ pair. list_any (λ d. t d && in_record ino pair d) ds) (cell_at w.shared ino)) (λ ino lt. slot ino)
    ∙ sym (pages_by_slot (λ ino pair. list_any (λ d. t d && in_record ino pair d) ds) w.shared) where
      slot : (ino : ℕ) → count (λ d. (is_page d.part && t d) && is_of_slot ino d) ds
          ≡ pages_that (λ pair. list_any (λ d. t d && in_record ino pair d) ds) (cell_at w.shared ino)
      slot ino =
          sym (slot_records w ino (logs ino) (λ d. is_page d.part && t d) ds all (few ino))
          ∙ count_at (λ pair. list_any (λ d. (is_page d.part && t d) && in_record ino pair d) ds)
          (λ pair. is_page pair.part && list_any (λ d. t d && in_record ino pair d) ds) (pairs_in (cell_at w.shared ino))
          (λ n pair got. any_paged ino pair t ds)
          ∙ sym (pages_counted (λ pair. list_any (λ d. t d && in_record ino pair d) ds) (cell_at w.shared ino))
