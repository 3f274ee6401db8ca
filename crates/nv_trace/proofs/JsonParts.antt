-- Parts of logs that are told as JSON.
use Rattle.std.proofs.Common.{◌≡◌, ◌∙◌, ℕ, zero, suc, ◌+◌, ◌≤◌, ◌==◌, ◌++◌, nat_lt, Bool, true, false, cond, List, [], ◌∷◌, length, drop, filter, ap, append-nil, arith, length-take, refl, sym}
use Rattle.std.specs.Prelude.{slice_index_or}
use Rattle.std.specs.List.{range_with_len}
use Rattle.std.proofs.lemmas.Bool.{eqb-true, lt-ltb}
use Rattle.std.proofs.lemmas.List.Elements.{filter-append}
use Rattle.nv_cell.specs.Cell.{CellState, log_of}
use Rattle.nv_cell.specs.Readers.{marks_by_entry}
use Rattle.nv_cell.specs.declared.mark.Mark.{Mark}
use Rattle.nv_entry.specs.Covered.{part_count}
use Rattle.nv_entry.specs.declared.item.Entry.{Entry}
use Rattle.nv_script.specs.Json.{marks_at}

-- there are marks for each entry that counts, and for no other
no_marks : (log : List Entry) (marks : List Mark) (place : ℕ) → length log ≤ place
    → slice_index_or (marks_by_entry log marks) place [] ≡ []
no_marks [] marks place past = refl
no_marks (e ∷ later) marks zero past = absurd (omega (arith, past))
no_marks (e ∷ later) marks (suc place) past = no_marks later (drop (part_count e) marks) place (omega (arith, past))

pub past_tail : (c : CellState) (place : ℕ) → c.chain.tail ≤ place → marks_at c place ≡ []
past_tail c place past =
    no_marks (log_of c) c.marks place (omega (arith, past, length-take c.chain.tail c.chain.entries))

-- ---- numbers that pass a test

-- numbers in a row, and one more
numbers_more : (a n : ℕ) → range_with_len a (n + 1) ≡ range_with_len a n ++ (a + n) ∷ []
numbers_more a zero = let same : a ≡ a + 0 = omega arith in ap (λ (k : ℕ). k ∷ []) same
numbers_more a (suc n) =
    let one : suc n + 1 ≡ suc (n + 1) = omega arith in
    let on : a + 1 + n ≡ a + suc n = omega arith in
    ap (range_with_len a) one
    ∙ ap (λ (ns : List ℕ). a ∷ ns) (numbers_more (a + 1) n ∙ ap (λ (k : ℕ). range_with_len (a + 1) n ++ k ∷ []) on)

pub filter_more : (p : ℕ → Bool) (n : ℕ) → filter p (range_with_len 0 (n + 1)) ≡ filter p (range_with_len 0 n) ++ cond (p n) (n ∷ []) []
filter_more p n =
    let zeroth : 0 + n ≡ n = omega arith in
    ap (filter p) (numbers_more 0 n ∙ ap (λ (k : ℕ). range_with_len 0 n ++ k ∷ []) zeroth)
    ∙ filter-append p (range_with_len 0 n) (n ∷ [])
    ∙ ap (λ (ns : List ℕ). filter p (range_with_len 0 n) ++ ns) (one (p n) refl)
  where
    one : (b : Bool) → p n ≡ b → filter p (n ∷ []) ≡ cond (p n) (n ∷ []) []
    one true is = rw is refl
    one false is = rw is refl

-- a number that passes is put to the end
pub passes : (p : ℕ → Bool) (n : ℕ) (before after : List ℕ) → before ≡ filter p (range_with_len 0 n) → after ≡ before ++ n ∷ [] → p n ≡ true
    → after ≡ filter p (range_with_len 0 (n + 1))
passes p n before after is pushed passed =
    pushed ∙ ap (λ (ns : List ℕ). ns ++ n ∷ []) is ∙ ap (λ (b : Bool). filter p (range_with_len 0 n) ++ cond b (n ∷ []) []) (sym passed)
    ∙ sym (filter_more p n)

-- and one that does not is left out
pub fails : (p : ℕ → Bool) (n : ℕ) (before : List ℕ) → before ≡ filter p (range_with_len 0 n) → p n ≡ false
    → before ≡ filter p (range_with_len 0 (n + 1))
fails p n before is failed =
    is ∙ sym (append-nil (filter p (range_with_len 0 n)))
    ∙ ap (λ (b : Bool). filter p (range_with_len 0 n) ++ cond b (n ∷ []) []) (sym failed) ∙ sym (filter_more p n)

-- a list has something, or nothing
pub some_there : (k : ℕ) → (k == 0) ≡ false → nat_lt 0 k ≡ true
some_there zero is = cc
some_there (suc k) is = lt-ltb 0 (suc k) (omega arith)

pub none_there : (k : ℕ) → (k == 0) ≡ true → nat_lt 0 k ≡ false
none_there k is =
    let none : k ≡ 0 = eqb-true k 0 is in
    ap (λ (n : ℕ). nat_lt 0 n) none
