-- Lists of slots, and parts of them.
use Rattle.std.proofs.Common.{◌≡◌, ℕ, zero, suc, ◌+◌, ◌<◌, ◌≤◌, ◌==◌, ◌++◌, ◌∙◌, Bool, true, false, List, [], ◌∷◌, add-one, ap, arith, drop, drop-cons, get_or, if◌then◌else◌, length, nat_lt, refl, subst, sym, take, filter}
use Rattle.std.specs.Prelude.{◌||◌}
use Rattle.std.proofs.lemmas.Bool.{eqb-false, eqb-true, ltb-false, ltb-true}
use Rattle.std.proofs.lemmas.List.Folds.{list_any-append}
use Rattle.std.specs.List.{AllByRecursion}
use Rattle.nv_alloc.specs.Numbers.{IsRising, has}
use Rattle.nv_machine.specs.Locks.{AreSlots}
use Rattle.nv_machine.specs.Reads.{is_written, slot_at, slots_in, with_slot, written_slots}
use Rattle.nv_machine.specs.World.{Running}
use Rattle.nv_machine.proofs.EachElement.{all_filter}

-- ---- one more of a list

pub take_more : (p : ℕ) (xs : List ℕ) → p < length xs → take (suc p) xs ≡ take p xs ++ get_or xs p 0 ∷ []
take_more p [] h = absurd (omega (arith, h))
take_more zero (x ∷ xs) h = refl
take_more (suc p) (x ∷ xs) h = ap (λ (l : List ℕ). x ∷ l) (take_more p xs (omega (arith, h)))

or_false : (a b : Bool) → (a || (b || false)) ≡ (a || b)
or_false true b = refl
or_false false true = refl
or_false false false = refl

-- the slots locked once one more is, and those before one is unlocked
pub has_take : (p : ℕ) (slots : List ℕ) (ino : ℕ) → p < length slots
    → has (take (p + 1) slots) ino ≡ (has (take p slots) ino || (slot_at slots p == ino))
has_take p slots ino h =
    ap (λ (n : ℕ). has (take n slots) ino) (add-one p) ∙ ap (λ (l : List ℕ). has l ino) (take_more p slots h)
    ∙ list_any-append (λ m. m == ino) (take p slots) (slot_at slots p ∷ []) ∙ or_false (has (take p slots) ino) (slot_at slots p == ino)

pub has_drop : (p : ℕ) (slots : List ℕ) (ino : ℕ) → p < length slots
    → has (drop p slots) ino ≡ ((slot_at slots p == ino) || has (drop (p + 1) slots) ino)
has_drop p slots ino h =
    ap (λ (l : List ℕ). has l ino) (drop-cons slots p 0 h)
    ∙ ap (λ (n : ℕ). ((slot_at slots p == ino) || has (drop n slots) ino)) (sym (add-one p))

-- ---- rising lists have each once

all_at : (P : ℕ → Type 0) (xs : List ℕ) (p : ℕ) → AllByRecursion P xs → p < length xs → P (get_or xs p 0)
all_at P [] p all h = absurd (omega (arith, h))
all_at P (x ∷ xs) zero all h = all.0
all_at P (x ∷ xs) (suc p) all h = all_at P xs p all.1 (omega (arith, h))

all_above : (n : ℕ) (xs : List ℕ) → AllByRecursion (λ m. n < m) xs → has xs n ≡ false
all_above n [] all = refl
all_above n (x ∷ xs) all = go (x == n) refl (all_above n xs all.1) where
  go : (b : Bool) → (x == n) ≡ b → has xs n ≡ false → (b || has xs n) ≡ false
  go true e more = absurd (omega (arith, all.0, eqb-true x n e))
  go false e more = more

pub take_apart : (p : ℕ) (xs : List ℕ) → IsRising xs → p < length xs → has (take p xs) (get_or xs p 0) ≡ false
take_apart p [] r h = absurd (omega (arith, h))
take_apart zero (x ∷ xs) r h = refl
take_apart (suc p) (x ∷ xs) r h = go (x == get_or xs p 0) refl (take_apart p xs r.1 (omega (arith, h))) where
  go : (b : Bool) → (x == get_or xs p 0) ≡ b → has (take p xs) (get_or xs p 0) ≡ false → (b || has (take p xs) (get_or xs p 0)) ≡ false
  go true e more = absurd (omega (arith, all_at (λ k. x < k) xs p r.0 (omega (arith, h)), eqb-true x (get_or xs p 0) e))
  go false e more = more

drop_apart_suc : (p : ℕ) (xs : List ℕ) → IsRising xs → p < length xs → has (drop (suc p) xs) (get_or xs p 0) ≡ false
drop_apart_suc p [] r h = absurd (omega (arith, h))
drop_apart_suc zero (x ∷ xs) r h = all_above x xs r.0
drop_apart_suc (suc p) (x ∷ xs) r h = drop_apart_suc p xs r.1 (omega (arith, h))

pub drop_apart : (p : ℕ) (xs : List ℕ) → IsRising xs → p < length xs → has (drop (p + 1) xs) (get_or xs p 0) ≡ false
drop_apart p xs r h = ap (λ (n : ℕ). has (drop n xs) (get_or xs p 0)) (add-one p) ∙ drop_apart_suc p xs r h

-- a list that ends has no more
pub drop_all : (p : ℕ) (xs : List ℕ) → length xs ≤ p → drop p xs ≡ []
drop_all p [] h = drop_nothing p where
  drop_nothing : (n : ℕ) → drop {A = ℕ} n [] ≡ []
  drop_nothing zero = refl
  drop_nothing (suc n) = refl
drop_all zero (x ∷ xs) h = absurd (omega (arith, h))
drop_all (suc p) (x ∷ xs) h = drop_all p xs (omega (arith, h))

pub take_all : (p : ℕ) (xs : List ℕ) → length xs ≤ p → take p xs ≡ xs
take_all zero [] h = refl
take_all (suc p) [] h = refl
take_all zero (x ∷ xs) h = absurd (omega (arith, h))
take_all (suc p) (x ∷ xs) h = ap (λ (l : List ℕ). x ∷ l) (take_all p xs (omega (arith, h)))

-- ---- the slots of a call rise and are inside

all_with : (P : ℕ → Type 0) (n : ℕ) (xs : List ℕ) → P n → AllByRecursion P xs → AllByRecursion P (with_slot n xs)
all_with P n [] new all = (new, tt)
all_with P n (x ∷ xs) new all = go (n == x) (nat_lt n x) (all_with P n xs new all.1) where
  go : (b c : Bool) → AllByRecursion P (with_slot n xs)
      → AllByRecursion P (if b then x ∷ xs else if c then n ∷ x ∷ xs else x ∷ with_slot n xs)
  go true c more = all
  go false true more = (new, all)
  go false false more = (all.0, more)

pub all_over : (n m : ℕ) (xs : List ℕ) → n < m → AllByRecursion (λ k. m < k) xs → AllByRecursion (λ k. n < k) xs
all_over n m [] h all = tt
all_over n m (x ∷ xs) h all = (omega (arith, h, all.0), all_over n m xs h all.1)

rising_with : (n : ℕ) (xs : List ℕ) → IsRising xs → IsRising (with_slot n xs)
rising_with n [] r = (tt, tt)
rising_with n (x ∷ xs) r = go (n == x) (nat_lt n x) refl refl (rising_with n xs r.1) where
  go : (b c : Bool) → (n == x) ≡ b → nat_lt n x ≡ c → IsRising (with_slot n xs)
      → IsRising (if b then x ∷ xs else if c then n ∷ x ∷ xs else x ∷ with_slot n xs)
  go true c e f more = r
  go false true e f more = ((ltb-true n x f, all_over n x xs (ltb-true n x f) r.0), r)
  go false false e f more =
      let low = ltb-false n x f in
      let other = eqb-false n x e in
      (all_with (λ k. x < k) n xs (omega (arith, low, other)) r.0, more)

pub slots_are : (many : ℕ) (list : List ℕ) → AreSlots many (slots_in many list)
slots_are many [] = record { rising = tt; inside = tt }
slots_are many (ino ∷ rest) = go (nat_lt ino many) refl (slots_are many rest) where
  go : (b : Bool) → nat_lt ino many ≡ b → AreSlots many (slots_in many rest)
      → AreSlots many (if b then with_slot ino (slots_in many rest) else slots_in many rest)
  go true e more = record {
    rising = rising_with ino (slots_in many rest) more.rising;
    inside = all_with (λ k. k < many) ino (slots_in many rest) (ltb-true ino many e) more.inside;
  }
  go false e more = more

pub slot_inside : (many : ℕ) (slots : List ℕ) (p : ℕ) → AreSlots many slots → p < length slots → slot_at slots p < many
slot_inside many slots p are h = all_at (λ k. k < many) slots p are.inside h

-- ---- what is listed is there

eqb-self : (n : ℕ) (b : Bool) → (n == n) ≡ b → b ≡ true
eqb-self n true e = refl
eqb-self n false e = absurd (eqb-false n n e refl)

pub self : (n : ℕ) → (n == n) ≡ true
self n = eqb-self n (n == n) refl

pub or_left : (b c : Bool) → b ≡ true → (b || c) ≡ true
or_left b c e = rw e refl

pub or_right : (b c : Bool) → c ≡ true → (b || c) ≡ true
or_right true c e = refl
or_right false c e = e

or_more : (b c d : Bool) → (c ≡ true → d ≡ true) → (b || c) ≡ true → (b || d) ≡ true
or_more true c d more e = refl
or_more false c d more e = more e

pub has_at : (xs : List ℕ) (p : ℕ) → p < length xs → has xs (get_or xs p 0) ≡ true
has_at [] p h = absurd (omega (arith, h))
has_at (x ∷ xs) zero h = or_left (x == x) (has xs x) (self x)
has_at (x ∷ xs) (suc p) h = or_right (x == get_or xs p 0) (has xs (get_or xs p 0)) (has_at xs p (omega (arith, h)))

pub has_filter : (f : ℕ → Bool) (xs : List ℕ) (n : ℕ) → has (filter f xs) n ≡ true → has xs n ≡ true
has_filter f [] n h = h
has_filter f (x ∷ xs) n h = go (f x) (has_filter f xs n) h where
  go : (b : Bool) → (has (filter f xs) n ≡ true → has xs n ≡ true) → has (if b then x ∷ filter f xs else filter f xs) n ≡ true
      → has (x ∷ xs) n ≡ true
  go true more e = or_more (x == n) (has (filter f xs) n) (has xs n) more e
  go false more e = or_right (x == n) (has xs n) (more e)

pub has_later : (p : ℕ) (xs : List ℕ) (n : ℕ) → has (drop p xs) n ≡ true → has xs n ≡ true
has_later zero xs n h = h
has_later (suc p) [] n h = h
has_later (suc p) (x ∷ xs) n h = or_right (x == n) (has xs n) (has_later p xs n h)

pub rising_filter : (f : ℕ → Bool) (xs : List ℕ) → IsRising xs → IsRising (filter f xs)
rising_filter f [] h = tt
rising_filter f (x ∷ xs) h = go (f x) (rising_filter f xs h.1) where
  go : (b : Bool) → IsRising (filter f xs) → IsRising (if b then x ∷ filter f xs else filter f xs)
  go true more = (all_filter (λ n. x < n) f xs h.0, more)
  go false more = more

-- ---- slots that are written

pub all_has : (P : ℕ → Type 0) (xs : List ℕ) (n : ℕ) → AllByRecursion P xs → has xs n ≡ true → P n
all_has P [] n all h = cc
all_has P (x ∷ xs) n all h = go (x == n) refl (λ k. all_has P xs n all.1 k) h where
  go : (b : Bool) → (x == n) ≡ b → (has xs n ≡ true → P n) → (b || has xs n) ≡ true → P n
  go true e more k = subst P (eqb-true x n e) all.0
  go false e more k = more k

pub written_inside : (many : ℕ) (r : Running) (place : ℕ) → AreSlots many r.slots → place < length (written_slots r)
    → slot_at (written_slots r) place < many
written_inside many r place are lt = all_has (λ n. n < many) r.slots (slot_at (written_slots r) place) are.inside
    (has_filter (is_written r.plan) r.slots (slot_at (written_slots r) place) (has_at (written_slots r) place lt))
