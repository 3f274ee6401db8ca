-- The lowest of some numbers.
use Rattle.std.proofs.Common.{◌≡◌, ℕ, ◌<◌, ◌≤◌, ◌==◌, ◌⊎◌, inl, inr, Bool, true, false, nat_le, List, [], ◌∷◌, ◌++◌, Option, None, Some, fold, arith, refl, ap, sym, subst, ◌∙◌}
use Rattle.std.proofs.lemmas.Bool.{cases_Bool, eq-eqb, leb-true, leb-false}
use Rattle.std.proofs.lemmas.List.Folds.{fold-map}
use Rattle.std.proofs.lemmas.List.Sums.{fold-append}
use Rattle.std.specs.List.{AllByRecursion}
use Rattle.nv_alloc.specs.Numbers.{has, lower, lowest}
use Rattle.nv_alloc.specs.Block.{BlockValue, number_of, numbers_of}

pub all_from : (a m : ℕ) (ns : List ℕ) → a ≤ m → AllByRecursion (λ n. m ≤ n) ns → AllByRecursion (λ n. a ≤ n) ns
all_from a m [] le h = tt
all_from a m (n ∷ ns) le h = (omega (arith, h.0, le), all_from a m ns le h.1)

has-later : (k n : ℕ) (ns : List ℕ) → has ns k ≡ true → has (n ∷ ns) k ≡ true
has-later k n ns h = elim (cases_Bool (n == k)) [ inl e ↦ rw e refl | inr e ↦ rw e h ]

-- the number is among them or is `known`, and none is below it
record IsLowestFrom (known : ℕ) (ns : List ℕ) (low : ℕ) : Type 0 where
  found : (low ≡ known) ⊎ (has ns low ≡ true)
  below : low ≤ known
  all : AllByRecursion (λ n. low ≤ n) ns

lowest_from : (ns : List ℕ) (known : ℕ) → (low : ℕ) × (fold lower (Some known) ns ≡ Some low) × IsLowestFrom known ns low
lowest_from [] known = (known, refl, record { found = inl refl; below = omega arith; all = tt })
lowest_from (n ∷ ns) known = go (nat_le known n) refl (λ k. lowest_from ns k) where
  go : (b : Bool) → nat_le known n ≡ b → ((k : ℕ) → (low : ℕ) × (fold lower (Some k) ns ≡ Some low) × IsLowestFrom k ns low)
      → (low : ℕ) × (fold lower (Some known) (n ∷ ns) ≡ Some low) × IsLowestFrom known (n ∷ ns) low
  go true q ih =
      let r = ih known in
      let is = r.2 in
      let least : known ≤ n = leb-true known n q in
      (r.0, rw q r.1, record { found = later is.found; below = is.below; all = (omega (arith, is.below, least), is.all) }) where
        later : {low : ℕ} → (low ≡ known) ⊎ (has ns low ≡ true) → (low ≡ known) ⊎ (has (n ∷ ns) low ≡ true)
        later (inl e) = inl e
        later {low} (inr h) = inr (has-later low n ns h)
  go false q ih =
      let r = ih n in
      let is = r.2 in
      let less : n < known = leb-false known n q in
      (r.0, rw q r.1, record { found = inr (here is.found); below = omega (arith, is.below, less); all = (is.below, is.all) }) where
        here : {low : ℕ} → (low ≡ n) ⊎ (has ns low ≡ true) → has (n ∷ ns) low ≡ true
        here {low} (inl e) = rw (eq-eqb n low (sym e)) refl
        here {low} (inr h) = has-later low n ns h

pub none_lowest : (ns : List ℕ) → lowest ns ≡ None → ns ≡ []
none_lowest [] h = refl
none_lowest (n ∷ ns) h = let r = lowest_from ns n in let k : None ≡ Some r.0 = sym h ∙ r.1 in cc

pub some_lowest : (ns : List ℕ) (low : ℕ) → lowest ns ≡ Some low → (has ns low ≡ true) × AllByRecursion (λ n. low ≤ n) ns
some_lowest [] low h = cc
some_lowest (n ∷ ns) low h =
    let r = lowest_from ns n in
    let k : Some r.0 ≡ Some low = sym r.1 ∙ h in
    let e : r.0 ≡ low = cc in
    subst (λ l. (has (n ∷ ns) l ≡ true) × AllByRecursion (λ m. l ≤ m) (n ∷ ns)) e (here r.2.found, (r.2.below, r.2.all)) where
      here : {l : ℕ} → (l ≡ n) ⊎ (has ns l ≡ true) → has (n ∷ ns) l ≡ true
      here {l} (inl e) = rw (eq-eqb n l (sym e)) refl
      here {l} (inr h) = has-later l n ns h

-- the lowest of a known number and of blocks' numbers
abbrev pub lowest_with : Option ℕ → List BlockValue → Option ℕ
lowest_with known blocks = fold (λ low block. lower low block.number) known blocks

pub lowest_of_three : (xs ys zs : List BlockValue) (x y z : Option ℕ) → x ≡ lowest_with None xs → y ≡ lowest_with x ys
    → z ≡ lowest_with y zs → z ≡ lowest (numbers_of (xs ++ ys ++ zs))
lowest_of_three xs ys zs x y z first second third =
    let step : Option ℕ → BlockValue → Option ℕ = λ low block. lower low block.number in
    third ∙ ap (λ k. lowest_with k zs) (second ∙ ap (λ k. lowest_with k ys) first ∙ sym (fold-append step None xs ys))
    ∙ sym (fold-append step None (xs ++ ys) zs) ∙ sym (fold-map lower number_of None (xs ++ ys ++ zs))
