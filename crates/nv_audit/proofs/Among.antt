-- Whether numbers stand in a list, by a search, and whether they are those of blocks.
use Rattle.std.proofs.Common.{◌≡◌, ℕ, zero, suc, ◌<◌, ◌==◌, ◌||◌, inl, inr, Bool, true, false, cond, List, [], ◌∷◌, length, get_or, Some, Result, Ok, Err, refl, ap, ap₂, arith, sym, ◌∙◌}
use Rattle.std.specs.Prelude.{◌↔◌, All, IsTrue}
use Rattle.std.specs.List.Sorted.{IsBinarySearchResult, IsNonDecreasing, IsPermutation}
use Rattle.std.specs.Option.{option_map}
use Rattle.std.specs.Result.{is_ok}
use Rattle.std.specs.Ordering.{nat_cmp}
use Rattle.std.proofs.lemmas.Bool.{cases_lt, eq-eqb, eqb-true, false≢true, ne_eqb}
use Rattle.std.proofs.lemmas.List.Sorted.{searched}
use Rattle.std.proofs.lemmas.Option.{none-some}
use Rattle.nv_alloc.specs.Block.{BlockValue, block_by, number_of, numbers_of}
use Rattle.nv_alloc.specs.Numbers.{has, times}
use Rattle.nv_audit.specs.MountedLogs.{AreAmong, IsAmong}
use Rattle.nv_audit.proofs.Apart.{times_moved}
use Rattle.nv_audit.proofs.Counting.{none_if_not, some_if_has}

-- ---- a search by halving

has_at : (ns : List ℕ) (i n : ℕ) → i < length ns → get_or ns i 0 ≡ n → has ns n ≡ true
has_at [] i n lt e = absurd (omega (arith, lt))
has_at (m ∷ ns) zero n lt e = ap (λ (b : Bool). b || has ns n) (eq-eqb m n e)
has_at (m ∷ ns) (suc i) n lt e = go (m == n) (has_at ns i n (omega (arith, lt)) e) where
  go : (b : Bool) → has ns n ≡ true → (b || has ns n) ≡ true
  go true h = refl
  go false h = h

not_in : (ns : List ℕ) (n : ℕ) → ((k : ℕ) → k < length ns → get_or ns k 0 ≡ n → ⊥) → has ns n ≡ false
not_in [] n other = refl
not_in (m ∷ ns) n other =
    ap₂ (λ (a b : Bool). a || b) (ne_eqb m n (other 0 (omega arith))) (not_in ns n (λ k lt. other (suc k) (omega (arith, lt))))

pub in_by : (ns : List ℕ) (n : ℕ) (r : Result ℕ ℕ) → IsBinarySearchResult (λ (m : ℕ). nat_cmp m n) ns r → IsNonDecreasing ns
    → is_ok r ≡ has ns n
in_by ns n (Ok i) told rising =
    let at = searched ns n (Ok i) told (λ j k le lt. rising j k 0 le lt) in sym (has_at ns i n at.0 at.1)
in_by ns n (Err i) told rising =
    let at = searched ns n (Err i) told (λ j k le lt. rising j k 0 le lt) in
    sym (not_in ns n (λ k lt same. elim (cases_lt k i) [
      | inl low ↦ let less = at.1 k low in omega (arith, less, same)
      | inr up ↦ let more = at.2 k up lt in omega (arith, more, same)
    ]))

-- ---- blocks by their numbers

pub among_has : (blocks : List BlockValue) (n : ℕ) → has (numbers_of blocks) n ≡ true → IsAmong blocks n
among_has [] n is = absurd (false≢true is)
among_has (b ∷ blocks) n is = go (b.number == n) refl is (among_has blocks n) where
  go : (t : Bool) → (b.number == n) ≡ t → (t || has (numbers_of blocks) n) ≡ true → (has (numbers_of blocks) n ≡ true → IsAmong blocks n)
      → option_map number_of (cond t (Some b) (block_by blocks n)) ≡ Some n
  go true q is more = ap (λ (k : ℕ). Some k) (eqb-true b.number n q)
  go false q is more = more is

pub has_among : (blocks : List BlockValue) (n : ℕ) → IsAmong blocks n → has (numbers_of blocks) n ≡ true
has_among [] n is = absurd (none-some n is)
has_among (b ∷ blocks) n is = go (b.number == n) is (has_among blocks n) where
  go : (t : Bool) → option_map number_of (cond t (Some b) (block_by blocks n)) ≡ Some n
      → (IsAmong blocks n → has (numbers_of blocks) n ≡ true) → (t || has (numbers_of blocks) n) ≡ true
  go true is more = refl
  go false is more = more is

has_moved : (xs ys : List ℕ) (n : ℕ) → IsPermutation xs ys → has ys n ≡ has xs n
has_moved xs ys n moved = go (has ys n) refl (has xs n) refl where
  same : times n ys ≡ times n xs
  same = times_moved xs ys n moved

  go : (a : Bool) → has ys n ≡ a → (b : Bool) → has xs n ≡ b → a ≡ b
  go true p true q = refl
  go false p false q = refl
  go true p false q = absurd (let some = some_if_has n ys p in let none = none_if_not n xs q in omega (arith, some, none, same))
  go false p true q = absurd (let some = some_if_has n xs q in let none = none_if_not n ys p in omega (arith, some, none, same))

-- all stand in the list of the blocks' numbers, in another order
pub among_told : (blocks : List BlockValue) (numbers old new asked : List ℕ) (are : Bool) → old ≡ numbers_of blocks
    → IsPermutation old new → asked ≡ new → IsTrue are ↔ All (λ (number : ℕ). has asked number ≡ true) numbers
    → IsTrue are ↔ AreAmong blocks numbers
among_told blocks numbers old new asked are put moved all told = (
  λ t k d lt. among_has blocks (get_or numbers k d) (sym (same (get_or numbers k d)) ∙ told.0 t k d lt),
  λ among. told.1 (λ k d lt. same (get_or numbers k d) ∙ has_among blocks (get_or numbers k d) (among k d lt)),
) where
  same : (n : ℕ) → has asked n ≡ has (numbers_of blocks) n
  same n = ap (λ (ns : List ℕ). has ns n) all ∙ has_moved old new n moved ∙ ap (λ (ns : List ℕ). has ns n) put
