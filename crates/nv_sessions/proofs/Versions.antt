-- Lists of versions, by inode, and functions of inodes.
use Rattle.std.proofs.Common.{◌≡◌, ◌≢◌, ◌⊎◌, ℕ, zero, suc, ◌<◌, ◌≤◌, max, ◌==◌, if◌then◌else◌, List, [], ◌∷◌, ◌++◌, length, true, false, refl, sym, ap, subst, ⊎_elim, inl, inr, arith, le_refl}
use Rattle.std.specs.Prelude.{slice_index}
use Rattle.std.proofs.lemmas.Bool.Decides.{nat_tests, eqb_tells}
use mathlib.Core.Option.{some, some-ne-none, some-injective}
use lib.ListN.{get_elem?}
use Rattle.nv_sessions.specs.Fresh.{only_at, greater}

pub slice_index-only_at : (i n : ℕ) → slice_index (only_at i n) i ≡ n
slice_index-only_at zero n = refl
slice_index-only_at (suc i) n = slice_index-only_at i n

pub slice_index-only_else : (i n j : ℕ) → j ≢ i → slice_index (only_at i n) j ≡ 0
slice_index-only_else zero n zero h = absurd (h refl)
slice_index-only_else zero n (suc j) h = refl
slice_index-only_else (suc i) n zero h = refl
slice_index-only_else (suc i) n (suc j) h = slice_index-only_else i n j (λ e. h (ap suc e))

pub slice_index-greater : (xs ys : List ℕ) (i : ℕ)
    → slice_index (greater xs ys) i ≡ max (slice_index xs i) (slice_index ys i)
slice_index-greater [] ys i = omega arith
slice_index-greater (x ∷ xs) [] i = omega arith
slice_index-greater (x ∷ xs) (y ∷ ys) zero = refl
slice_index-greater (x ∷ xs) (y ∷ ys) (suc i) = slice_index-greater xs ys i

-- the last of a longer list has the old length for its place
pub at_end : {A : Type 0} (l : List A) (a b : A) (j : ℕ) → get_elem? (l ++ a ∷ []) j ≡ some b
    → ((get_elem? l j ≡ some b) × (j < length l)) ⊎ ((j ≡ length l) × (a ≡ b))
at_end [] a b zero e = inr (refl, some-injective a b e)
at_end [] a b (suc j) e = absurd (some-ne-none b (sym e))
at_end (x ∷ xs) a b zero e = inl (e, omega arith)
at_end (x ∷ xs) a b (suc j) e =
    ⊎_elim
    (λ (t : (get_elem? xs j ≡ some b) × (j < length xs)). inl (t.0, (let h = t.1 in omega arith)))
    (λ (t : (j ≡ length xs) × (a ≡ b)). inr (ap suc t.0, t.1))
    (at_end xs a b j e)

-- a function changed at one place
abbrev pub changed : (ℕ → ℕ) → ℕ → ℕ → ℕ → ℕ
changed f k n i = if i == k then n else f i

pub changed_here : (f : ℕ → ℕ) (k n : ℕ) → changed f k n k ≡ n
changed_here f k n = grind (arith, nat_tests)

pub changed_else : (f : ℕ → ℕ) (k n i : ℕ) → i ≢ k → changed f k n i ≡ f i
changed_else f k n i h = grind (arith, nat_tests)

pub changed_above : (f : ℕ → ℕ) (k n : ℕ) → f k ≤ n → (i : ℕ) → f i ≤ changed f k n i
changed_above f k n h i =
    ⊎_elim
    (λ (t : ((i == k) ≡ true) × (i ≡ k)). rw t.0 (subst (λ (z : ℕ). f z ≤ n) (sym t.1) h))
    (λ (t : ((i == k) ≡ false) × (i ≢ k)). rw t.0 (le_refl (f i)))
    (eqb_tells i k)
