-- Lists of the slots that a plan writes, beside the list of all slots.
use Rattle.std.proofs.Common.{◌≡◌, ◌∙◌, ℕ, zero, suc, ◌+◌, ◌-◌, ◌<◌, ◌≤◌, ◌==◌, ◌&&◌, ◌++◌, Bool, true, false, List, [], ◌∷◌, append-nil, ap, arith, filter, if◌then◌else◌, length, nat_lt, refl, subst, sym}
use Rattle.std.specs.Prelude.{◌||◌, not, option_to_list}
use Rattle.std.specs.List.{AllByRecursion, flat_map, range_with_len, sum_by}
use Rattle.std.proofs.lemmas.Bool.{eqb-false, eqb-true, false≢true, ltb-false}
use Rattle.std.proofs.lemmas.List.Sums.{sum_by-cons}
use Rattle.nv_alloc.specs.Numbers.{IsRising, has}
use Rattle.nv_calls.specs.Slots.{entries_of, items_for}
use Rattle.nv_calls.specs.declared.plan.InodePlan.{InodePlan}
use Rattle.nv_cell.proofs.Publishing.{take_whole}
use Rattle.nv_cell.specs.Numbers.{dies, killed_numbers, killed_part}
use Rattle.nv_cell.specs.declared.killed.KilledPart.{KilledPart}
use Rattle.nv_entry.specs.Covered.{is_covered, part_total}
use Rattle.nv_entry.specs.declared.item.Entry.{Entry}
use Rattle.nv_entry.specs.declared.item.Item.{Item}
use Rattle.nv_log.specs.Chain.{pages_for}
use Rattle.nv_machine.specs.Reads.{is_written, pages_needed}
use Rattle.nv_machine.specs.World.{Shared, cell_at}
use Rattle.nv_machine.proofs.EachElement.{all_weaker}
use Rattle.nv_machine.proofs.Lists.{all_has}
use Rattle.nv_serial.proofs.CommitStages.{front}

pub length-entries : (commit epoch place : ℕ) (items : List Item) → length (entries_of commit epoch place items) ≡ length items
length-entries commit epoch place [] = refl
length-entries commit epoch place (item ∷ items) = ap suc (length-entries commit epoch (place + 1) items)

-- a slot that a plan does not write needs no pages
pub none_needed : (s : Shared) (plan : List InodePlan) (ino : ℕ) → is_written plan ino ≡ false → pages_needed s plan ino ≡ 0
none_needed s plan ino none =
    let few = ltb-false 0 (length (items_for plan ino)) none in
    let zeroth : length (items_for plan ino) ≡ 0 = omega (arith, few) in
    ap (pages_for (cell_at s ino).chain) zeroth

-- ---- those of all slots for which a test holds

all_from : (n : ℕ) (xs : List ℕ) → AllByRecursion (λ x. n ≤ x) xs → has xs n ≡ false → AllByRecursion (λ x. n + 1 ≤ x) xs
all_from n [] all none = tt
all_from n (x ∷ xs) all none = go (x == n) refl none (λ rest. all_from n xs all.1 rest) where
  go : (b : Bool) → (x == n) ≡ b → (b || has xs n) ≡ false → (has xs n ≡ false → AllByRecursion (λ x. n + 1 ≤ x) xs)
      → AllByRecursion (λ x. n + 1 ≤ x) (x ∷ xs)
  go true e none more = absurd (false≢true (sym none))
  go false e none more = (let ne = eqb-false x n e in let ge = all.0 in grind (arith, ne, ge), more none)

above : (n x : ℕ) (xs : List ℕ) → n < x → AllByRecursion (λ m. x < m) xs → has (x ∷ xs) n ≡ false
above n x xs lt all = go (x == n) refl where
  none : (xs : List ℕ) → AllByRecursion (λ m. x < m) xs → has xs n ≡ false
  none [] all = refl
  none (y ∷ xs) all = each (y == n) refl (none xs all.1) where
    each : (b : Bool) → (y == n) ≡ b → has xs n ≡ false → (b || has xs n) ≡ false
    each true e more = absurd (omega (arith, all.0, lt, eqb-true y n e))
    each false e more = more

  go : (b : Bool) → (x == n) ≡ b → (b || has xs n) ≡ false
  go true e = absurd (omega (arith, lt, eqb-true x n e))
  go false e = none xs all

module _ (p : ℕ → Bool) where
  -- these rise and are among so many from one on, the test holds of each, and each of which it holds is one of them
  pub record AreThose (from n : ℕ) (xs : List ℕ) : Type 0 where
    pub rise : IsRising xs
    pub low : AllByRecursion (λ x. from ≤ x) xs
    pub high : AllByRecursion (λ x. x < from + n) xs
    pub pass : AllByRecursion (λ x. p x ≡ true) xs
    pub every : (i : ℕ) → from ≤ i → i < from + n → p i ≡ true → has xs i ≡ true

  -- one of the first number on is it
  first_is : (from x : ℕ) (xs : List ℕ) → from ≤ x → AllByRecursion (λ m. x < m) xs → has (x ∷ xs) from ≡ true → x ≡ from
  first_is from x xs ge all is = go (x == from) refl where
    go : (b : Bool) → (x == from) ≡ b → x ≡ from
    go true e = eqb-true x from e
    go false e =
        let lt : from < x = (let ne = eqb-false x from e in grind (arith, ne, ge)) in
        absurd (false≢true (sym (above from x xs lt all) ∙ is))

  later_has : (from i : ℕ) (xs : List ℕ) → from + 1 ≤ i → has (from ∷ xs) i ≡ true → has xs i ≡ true
  later_has from i xs ge = go (from == i) refl where
    go : (b : Bool) → (from == i) ≡ b → (b || has xs i) ≡ true → has xs i ≡ true
    go true e is = absurd (omega (arith, ge, eqb-true from i e))
    go false e is = is

  head_those : (from n : ℕ) (xs : List ℕ) → AreThose from (suc n) (from ∷ xs) → AreThose (from + 1) n xs
  head_those from n xs those = record {
    rise = those.rise.1;
    low = all_weaker (λ m. from < m) (λ m. from + 1 ≤ m) (λ m lt. omega (arith, lt)) xs those.rise.0;
    high = all_weaker (λ m. m < from + suc n) (λ m. m < from + 1 + n) (λ m lt. omega (arith, lt)) xs those.high.1;
    pass = those.pass.1;
    every = λ i ge lt is. later_has from i xs ge (those.every i (omega (arith, ge)) (omega (arith, lt)) is);
  }

  tail_those : (from n : ℕ) (xs : List ℕ) → has xs from ≡ false → AreThose from (suc n) xs → AreThose (from + 1) n xs
  tail_those from n xs none those = record {
    rise = those.rise;
    low = all_from from xs those.low none;
    high = all_weaker (λ m. m < from + suc n) (λ m. m < from + 1 + n) (λ m lt. omega (arith, lt)) xs those.high;
    pass = those.pass;
    every = λ i ge lt is. those.every i (omega (arith, ge)) (omega (arith, lt)) is;
  }

  pub slots_are : (n from : ℕ) (xs : List ℕ) → AreThose from n xs → xs ≡ filter p (range_with_len from n)
  slots_are zero from [] those = refl
  slots_are zero from (x ∷ xs) those = absurd (omega (arith, those.low.0, those.high.0))
  slots_are (suc n) from xs those = go (p from) refl (λ ys are. slots_are n (from + 1) ys are) where
    go : (b : Bool) → p from ≡ b → ((ys : List ℕ) → AreThose (from + 1) n ys → ys ≡ filter p (range_with_len (from + 1) n))
        → xs ≡ (if b then from ∷ filter p (range_with_len (from + 1) n) else filter p (range_with_len (from + 1) n))
    go true is rest = head xs those where
      head : (xs : List ℕ) → AreThose from (suc n) xs → xs ≡ from ∷ filter p (range_with_len (from + 1) n)
      head [] those = absurd (false≢true (those.every from (omega arith) (omega arith) is))
      head (x ∷ xs) those =
          let same : x ≡ from = first_is from x xs those.low.0 those.rise.0 (those.every from (omega arith) (omega arith) is) in
          let those_then : AreThose from (suc n) (from ∷ xs) = subst (λ (y : ℕ). AreThose from (suc n) (y ∷ xs)) same those in
          ap (λ (y : ℕ). y ∷ xs) same ∙ ap (λ (l : List ℕ). from ∷ l) (rest xs (head_those from n xs those_then))
    go false is rest = rest xs (tail_those from n xs (none (has xs from) refl) those) where
      none : (b : Bool) → has xs from ≡ b → b ≡ false
      none false e = refl
      none true e = absurd (false≢true (sym is ∙ all_has (λ x. p x ≡ true) xs from those.pass e))

  -- in front of one of them stand those of the slots before it
  pub front_filter : (n from ino : ℕ) → from ≤ ino → ino < from + n → p ino ≡ true
      → front ino (filter p (range_with_len from n)) ≡ filter p (range_with_len from (ino - from))
  front_filter zero from ino ge lt is = absurd (omega (arith, ge, lt))
  front_filter (suc n) from ino ge lt is =
      go (from == ino) refl (λ more. front_filter n (from + 1) ino more (omega (arith, lt)) is) where
        rest_of : List ℕ
        rest_of = filter p (range_with_len (from + 1) n)

        go : (b : Bool) → (from == ino) ≡ b → (from + 1 ≤ ino → front ino rest_of ≡ filter p (range_with_len (from + 1) (ino - (from + 1))))
            → front ino (if p from then from ∷ rest_of else rest_of) ≡ filter p (range_with_len from (ino - from))
        go true e rest =
            let same : from ≡ ino = eqb-true from ino e in
            let zeroth : ino - from ≡ 0 = omega (arith, same) in
            ap (λ (b : Bool). front ino (if b then from ∷ rest_of else rest_of)) (ap p same ∙ is)
            ∙ ap (λ (b : Bool). if b then [] else from ∷ front ino rest_of) e
            ∙ ap (λ (k : ℕ). filter p (range_with_len from k)) (sym zeroth)
        go false e rest =
            let more : from + 1 ≤ ino = (let ne = eqb-false from ino e in grind (arith, ne, ge)) in
            let shape : ino - from ≡ suc (ino - (from + 1)) = omega (arith, more) in
            each (p from) (rest more) ∙ ap (λ (k : ℕ). filter p (range_with_len from k)) (sym shape) where
              each : (b : Bool) → front ino rest_of ≡ filter p (range_with_len (from + 1) (ino - (from + 1)))
                  → front ino (if b then from ∷ rest_of else rest_of)
                  ≡ (if b then from ∷ filter p (range_with_len (from + 1) (ino - (from + 1)))
                  else filter p (range_with_len (from + 1) (ino - (from + 1))))
              each true same =
                  ap (λ (b : Bool). if b then [] else from ∷ front ino rest_of) e ∙ ap (λ (l : List ℕ). from ∷ l) same
              each false same = same

  -- what is nothing of the others is summed over these
  pub sum_filter : (f : ℕ → ℕ) → ((x : ℕ) → p x ≡ false → f x ≡ 0) → (xs : List ℕ) → sum_by f (filter p xs) ≡ sum_by f xs
  sum_filter f none [] = refl
  sum_filter f none (x ∷ xs) = go (p x) refl (sum_filter f none xs) where
    go : (b : Bool) → p x ≡ b → sum_by f (filter p xs) ≡ sum_by f xs
        → sum_by f (if b then x ∷ filter p xs else filter p xs) ≡ sum_by f (x ∷ xs)
    go true e more = let one = sum_by-cons f x (filter p xs) in let other = sum_by-cons f x xs in omega (arith, one, other, more)
    go false e more = let other = sum_by-cons f x xs in let zeroth = none x e in omega (arith, other, zeroth, more)

-- ---- no entries kill nothing

filter_none : (q : ℕ → Bool) (xs : List ℕ) → ((x : ℕ) → q x ≡ false) → filter q xs ≡ []
filter_none q [] none = refl
filter_none q (x ∷ xs) none =
    ap (λ (b : Bool). if b then x ∷ filter q xs else filter q xs) (none x) ∙ filter_none q xs none

pub none_killed : (block : ℕ) (log : List Entry)
    → flat_map (λ n. option_to_list (killed_part (log ++ []) n)) (killed_numbers block (log ++ []) (length log)) ≡ []
none_killed block log =
    let kills : List Entry → List KilledPart = λ es.
    flat_map (λ n. option_to_list (killed_part es n)) (killed_numbers block es (length log)) in
    ap kills (append-nil log)
    ∙ ap (λ (ns : List ℕ). flat_map (λ n. option_to_list (killed_part log n)) ns)
    (filter_none (dies block log (length log)) (range_with_len 0 (part_total log)) (λ n.
    ap (λ (es : List Entry). (nat_lt n (part_total log) && is_covered block log n) && not (is_covered block es n)) (take_whole log)
    ∙ both (nat_lt n (part_total log)) (is_covered block log n))) where
      both : (a b : Bool) → ((a && b) && not b) ≡ false
      both true true = refl
      both true false = refl
      both false b = refl
