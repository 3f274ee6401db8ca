-- The slots that a call locks are those of its handles and of the number in its hand.
use Rattle.std.proofs.Common.{◌≡◌, ◌≢◌, ◌⊎◌, inl, inr, ℕ, ◌<◌, ◌==◌, ◌∙◌, ◌++◌, Bool, true, false, List, [], ◌∷◌, Option, Some, None, ap, arith, filter, if◌then◌else◌, length, map, nat_lt, refl, subst, sym}
use Rattle.std.specs.Prelude.{◌||◌}
use Rattle.std.proofs.lemmas.Bool.{cases_lt, eqb-true, false≢true, lt-ltb, or_cases}
use Rattle.std.proofs.lemmas.List.{get_or_past}
use Rattle.nv_alloc.specs.Numbers.{has}
use Rattle.nv_base.specs.declared.numbers.Handle.{Handle}
use Rattle.nv_cell.specs.Readers.{has_inode}
use Rattle.nv_machine.specs.Reads.{if_number, slots_in, with_slot}
use Rattle.nv_machine.specs.World.{Shared, cell_at, no_cell}
use Rattle.nv_machine.proofs.Lists.{or_right}
use Rattle.nv_machine.proofs.PoolChecked.{HaveInode}

-- ---- a slot more

swapped : (a b c : Bool) → (a || (b || c)) ≡ (b || (a || c))
swapped true true c = refl
swapped true false c = refl
swapped false true c = refl
swapped false false c = refl

twice : (a c : Bool) → (a || c) ≡ (a || (a || c))
twice true c = refl
twice false c = refl

pub has_with : (m : ℕ) (xs : List ℕ) (n : ℕ) → has (with_slot m xs) n ≡ ((m == n) || has xs n)
has_with m [] n = refl
has_with m (x ∷ xs) n = go (m == x) (nat_lt m x) refl (has_with m xs n) where
  go : (b c : Bool) → (m == x) ≡ b → has (with_slot m xs) n ≡ ((m == n) || has xs n)
      → has (if b then x ∷ xs else if c then m ∷ x ∷ xs else x ∷ with_slot m xs) n ≡ ((m == n) || ((x == n) || has xs n))
  go true c q more =
      subst (λ (k : ℕ). ((k == n) || has xs n) ≡ ((m == n) || ((k == n) || has xs n))) (eqb-true m x q)
      (twice (m == n) (has xs n))
  go false true q more = refl
  go false false q more = ap (λ (b : Bool). (x == n) || b) more ∙ swapped (x == n) (m == n) (has xs n)

-- what is a slot was listed, and what is listed and in range is a slot
listed : (many : ℕ) (list : List ℕ) (n : ℕ) → has (slots_in many list) n ≡ true → has list n ≡ true
listed many [] n h = h
listed many (ino ∷ rest) n h = go (nat_lt ino many) h (listed many rest n) where
  go : (b : Bool) → has (if b then with_slot ino (slots_in many rest) else slots_in many rest) n ≡ true
      → (has (slots_in many rest) n ≡ true → has rest n ≡ true) → ((ino == n) || has rest n) ≡ true
  go true h more = elim (or_cases (ino == n) (has (slots_in many rest) n) (sym (has_with ino (slots_in many rest) n) ∙ h)) [
    | inl same ↦ rw same refl
    | inr there ↦ or_right (ino == n) (has rest n) (more there)
  ]
  go false h more = or_right (ino == n) (has rest n) (more h)

pub in_range : (many : ℕ) (list : List ℕ) (n : ℕ) → has list n ≡ true → n < many → has (slots_in many list) n ≡ true
in_range many [] n h lt = h
in_range many (ino ∷ rest) n h lt = go (nat_lt ino many) refl (λ e. in_range many rest n e lt) where
  go : (b : Bool) → nat_lt ino many ≡ b → (has rest n ≡ true → has (slots_in many rest) n ≡ true)
      → has (if b then with_slot ino (slots_in many rest) else slots_in many rest) n ≡ true
  go true q more = has_with ino (slots_in many rest) n ∙ (elim (or_cases (ino == n) (has rest n) h) [
    | inl same ↦ (let e : ((ino == n) || has (slots_in many rest) n) ≡ true = rw same refl in e)
    | inr there ↦ or_right (ino == n) (has (slots_in many rest) n) (more there)
  ])
  go false q more = elim (or_cases (ino == n) (has rest n) h) [
    | inl same ↦
        let is : nat_lt ino many ≡ true = lt-ltb ino many (let e = eqb-true ino n same in omega (arith, e, lt)) in
        absurd (false≢true (sym q ∙ is))
    | inr there ↦ more there
  ]

-- ---- the slots of a call

abbrev pub inos_of : List Handle → List ℕ
inos_of list = map (λ (h : Handle). h.ino) list

of_handles : (s : Shared) (list : List Handle) (n : ℕ) → HaveInode s list → has (inos_of list) n ≡ true
    → has_inode (cell_at s n) ≡ true
of_handles s [] n all h = absurd (false≢true h)
of_handles s (handle ∷ list) n all h = elim (or_cases (handle.ino == n) (has (inos_of list) n) h) [
  | inl same ↦ subst (λ (k : ℕ). has_inode (cell_at s k) ≡ true) (eqb-true handle.ino n same) all.0
  | inr there ↦ of_handles s list n all.1 there
]

-- each has an inode, or is the new one's
pub slots_have : (s : Shared) (number : Option ℕ) (list : List Handle) (n : ℕ) → HaveInode s list
    → has (slots_in (length s.cells) (if_number number ++ inos_of list)) n ≡ true
    → (number ≡ Some n) ⊎ (has_inode (cell_at s n) ≡ true)
slots_have s None list n all h = inr (of_handles s list n all (listed (length s.cells) (inos_of list) n h))
slots_have s (Some ino) list n all h =
    elim (or_cases (ino == n) (has (inos_of list) n) (listed (length s.cells) (ino ∷ inos_of list) n h)) [
      | inl same ↦ inl (ap (λ (k : ℕ). Some k) (eqb-true ino n same))
      | inr there ↦ inr (of_handles s list n all there)
    ]

-- an inode's slot is there
pub inode_inside : (s : Shared) (n : ℕ) → has_inode (cell_at s n) ≡ true → n < length s.cells
inode_inside s n h = elim (cases_lt n (length s.cells)) [
  | inl lt ↦ lt
  | inr ge ↦ absurd (false≢true (sym (ap has_inode (get_or_past s.cells n no_cell ge)) ∙ h))
]

-- ---- two of a list

pub two_of : (xs : List ℕ) (n m : ℕ) → n ≢ m → has xs n ≡ true → has xs m ≡ true → 1 < length xs
two_of [] n m ne p q = absurd (false≢true p)
two_of (x ∷ y ∷ xs) n m ne p q = omega arith
two_of (x ∷ []) n m ne p q = absurd (ne (sym (only n p) ∙ only m q)) where
  only : (k : ℕ) → has (x ∷ []) k ≡ true → x ≡ k
  only k h = elim (or_cases (x == k) false h) [
    | inl same ↦ eqb-true x k same
    | inr there ↦ absurd (false≢true there)
  ]

pub filter_has : (f : ℕ → Bool) (xs : List ℕ) (n : ℕ) → has xs n ≡ true → f n ≡ true → has (filter f xs) n ≡ true
filter_has f [] n h is = h
filter_has f (x ∷ xs) n h is = go (f x) refl (λ e. filter_has f xs n e is) where
  go : (b : Bool) → f x ≡ b → (has xs n ≡ true → has (filter f xs) n ≡ true) → has (if b then x ∷ filter f xs else filter f xs) n ≡ true
  go true q more = elim (or_cases (x == n) (has xs n) h) [
    | inl same ↦ (let e : ((x == n) || has (filter f xs) n) ≡ true = rw same refl in e)
    | inr there ↦ or_right (x == n) (has (filter f xs) n) (more there)
  ]
  go false q more = elim (or_cases (x == n) (has xs n) h) [
    | inl same ↦ absurd (false≢true (sym q ∙ ap f (eqb-true x n same) ∙ is))
    | inr there ↦ more there
  ]

-- what passes a filter is such
pub filtered : (f : ℕ → Bool) (xs : List ℕ) (n : ℕ) → has (filter f xs) n ≡ true → f n ≡ true
filtered f [] n h = absurd (false≢true h)
filtered f (x ∷ xs) n h = go (f x) refl h (filtered f xs n) where
  go : (b : Bool) → f x ≡ b → has (if b then x ∷ filter f xs else filter f xs) n ≡ true → (has (filter f xs) n ≡ true → f n ≡ true)
      → f n ≡ true
  go true q h more = elim (or_cases (x == n) (has (filter f xs) n) h) [
    | inl same ↦ sym (ap f (eqb-true x n same)) ∙ q
    | inr there ↦ more there
  ]
  go false q h more = more h
