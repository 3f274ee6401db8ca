-- The check of a change over the cells that are lent to it.
use Rattle.std.proofs.Common.{◌≡◌, ℕ, zero, suc, ◌<◌, ◌≤◌, ◌||◌, ◌∙◌, Bool, true, false, not, List, [], ◌∷◌, Option, Some, None, length, drop, take, refl, ap, sym, subst, arith}
use Rattle.std.specs.Prelude.{IfOk, Result, Ok, Err, is_some}
use Rattle.std.specs.List.{AllByRecursion}
use Rattle.std.specs.Option.{IsSome}
use Rattle.std.specs.Result.{result_err}
use Rattle.std.proofs.lemmas.Bool.{eq-eqb}
use Rattle.std.proofs.lemmas.List.{length-take-le}
use Rattle.nv_alloc.specs.declared.hand.Hand.{Hand}
use Rattle.nv_entry.specs.declared.item.Entry.{Entry}
use Rattle.nv_cell.specs.Cell.{CellValue, IsCell}
use Rattle.nv_calls.specs.AllCalls.{early, is_nothing, late, looked}
use Rattle.nv_calls.specs.Cells.{ino_at, value_at}
use Rattle.nv_calls.specs.Checked.{check_ends, ends_over, same_looked}
use Rattle.nv_calls.specs.Nodes.{cell_of, has_page_in, nodes_in, slot_by}
use Rattle.nv_calls.specs.Prepared.{HasNumberFor, IsEmptySlot, IsStill, makes}
use Rattle.nv_calls.specs.Refusals.{Check, and_then, passes}
use Rattle.nv_calls.specs.Updates.{blank_call, blocks_taken}
use Rattle.nv_calls.specs.declared.check_end.CheckEnd.{CheckEnd}
use Rattle.nv_calls.specs.declared.looked.LookupResult.{LookupResult}
use Rattle.nv_calls.specs.declared.update.Update.{Update}
use Rattle.nv_calls.proofs.CheckEnds.{looked_is}
use Rattle.nv_sessions.specs.Changing.{FitsNumber, HasPassed, IsFreeHand}

-- ---- an empty slot

first_of : (cells : List (ℕ × CellValue)) (k : ℕ) → k < length cells → cell_of (drop k cells) (ino_at cells k) ≡ Some (value_at cells k)
first_of [] k lt = absurd (omega (arith, lt))
first_of (c ∷ cells) zero lt = rw (eq-eqb c.0 c.0 refl) refl
first_of (c ∷ cells) (suc k) lt = first_of cells k (omega (arith, lt))

none_taken : (tail : ℕ) (entries : List Entry) → tail ≤ length entries → take tail entries ≡ [] → tail ≡ 0
none_taken tail entries le none = omega (arith, length-take-le tail entries le, ap (λ (es : List Entry). length es) none)

module _ (cells : List (ℕ × CellValue)) (k ino : ℕ) (lt : k < length cells) (here : ino_at cells k ≡ ino)
    (first : cell_of (drop k cells) ino ≡ cell_of cells ino) where
  found : cell_of cells ino ≡ Some (value_at cells k)
  found = sym first ∙ subst (λ (i : ℕ). cell_of (drop k cells) i ≡ Some (value_at cells k)) here (first_of cells k lt)

  pub empty_slot : (value_at cells k).state.chain.tail ≡ 0 → IsEmptySlot cells ino
  empty_slot none = record {
    lent = subst IsSome (sym found) refl;
    empty = ap (λ (c : Option CellValue). (slot_by c).log) found
        ∙ ap (λ (n : ℕ). take n (value_at cells k).state.chain.entries) none;
  }

  pub empty_tail : IsCell (value_at cells k).state → IsEmptySlot cells ino → (value_at cells k).state.chain.tail ≡ 0
  empty_tail is slot =
      none_taken (value_at cells k).state.chain.tail (value_at cells k).state.chain.entries is.chain.within
      (sym (ap (λ (c : Option CellValue). (slot_by c).log) found) ∙ slot.empty)

-- ---- tests that pass

record HaveAllPassed (early late : Check) (same numbered nothing : Bool) : Type 0 where
  first : early ≡ passes
  looks : same ≡ true
  last : late ≡ passes
  number : numbered ≡ true
  something : nothing ≡ false

all_passed : (e l : Check) (same numbered nothing : Bool) → check_ends e same l numbered nothing ≡ None
    → HaveAllPassed e l same numbered nothing
all_passed (Err f) l same numbered nothing h = cc
all_passed (Ok passed) l false numbered nothing h = cc
all_passed (Ok passed) (Err f) true numbered nothing h = cc
all_passed (Ok passed) (Ok all) true false nothing h = cc
all_passed (Ok passed) (Ok all) true true true h = cc
all_passed (Ok passed) (Ok all) true true false h = record { first = refl; looks = refl; last = refl; number = refl; something = refl }

has_number : (cells : List (ℕ × CellValue)) (makes : Bool) (number : Option ℕ) → FitsNumber cells makes number
    → (is_some number || not makes) ≡ true → HasNumberFor cells makes number
has_number cells true (Some ino) fits h = fits
has_number cells true None fits h = cc
has_number cells false (Some ino) fits h = absurd fits
has_number cells false None fits h = refl

module _ (block : ℕ) (cells : List (ℕ × CellValue)) (before : LookupResult) (u : Update) (hand : Hand)
    (still : AllByRecursion (λ (c : ℕ × CellValue). IsStill block c.1.state) cells) (free : IsFreeHand block hand)
    (fits : FitsNumber cells (makes u) hand.ino) where
  has_passed : (wanted : ℕ) → ends_over block (nodes_in cells) before (is_some hand.ino) u ≡ None
      → wanted ≡ blocks_taken block (nodes_in cells) (has_page_in cells) u → HasPassed block cells hand u wanted
  has_passed wanted ends wants =
      let c = blank_call u in
      let nodes = nodes_in cells in
      let all = all_passed (early nodes c) (late block nodes before c) (same_looked (looked nodes c) before)
      (is_some hand.ino || not (makes u)) (is_nothing c) ends in
      record {
        still = still;
        hand_is = free;
        number = has_number cells (makes u) hand.ino fits all.number;
        passed = ap (λ (t : Check). and_then t (late block nodes (looked nodes c) c)) all.first
            ∙ ap (λ (l : LookupResult). late block nodes l c) (looked_is (looked nodes c) before all.looks)
            ∙ all.last;
        something = all.something;
        wants = wants;
      }

  pub passed_by : (result : Result ℕ CheckEnd)
      → result_err result ≡ ends_over block (nodes_in cells) before (is_some hand.ino) u
      → IfOk result (λ n. n ≡ blocks_taken block (nodes_in cells) (has_page_in cells) u)
      → (wanted : ℕ) → result ≡ Ok wanted → HasPassed block cells hand u wanted
  passed_by (Err end) ends wants wanted is = cc
  passed_by (Ok n) ends wants wanted is = let same : n ≡ wanted = cc in subst (HasPassed block cells hand u) same (has_passed n (sym ends) wants)

-- how a check ended
pub told_by : (result : Result ℕ CheckEnd) (end : CheckEnd) (over : Option CheckEnd) → result_err result ≡ over → result ≡ Err end
    → over ≡ Some end
told_by (Ok n) end over ends is = cc
told_by (Err e) end over ends is = let same : e ≡ end = cc in sym ends ∙ ap (λ (x : CheckEnd). Some x) same
