-- Sums over the places of a list, of which some have other values.
use Rattle.std.proofs.Common.{◌≡◌, ℕ, zero, suc, ◌+◌, ◌<◌, ◌≤◌, nat_eq, Bool, true, false, List, length, take, add-one, arith, refl, ap, sym, ◌∙◌, slice_index_or, inl, inr}
use Rattle.std.specs.List.{sum_by}
use Rattle.std.proofs.lemmas.Bool.{cases_lt, eqb-false, eqb-true}
use Rattle.std.proofs.lemmas.List.Sums.{sum_by_more}
use Rattle.std.proofs.Math.Seq.{take-length}

abbrev pub sum_to : (ℕ → ℕ) → ℕ → ℕ
sum_to f zero = 0
sum_to f (suc n) = sum_to f n + f n

front_sum : {X : Type 0} (f : X → ℕ) (xs : List X) (d : X) (n : ℕ) → n ≤ length xs
    → sum_by f (take n xs) ≡ sum_to (λ k. f (slice_index_or xs k d)) n
front_sum f xs d zero le = refl
front_sum f xs d (suc n) le =
    let same : sum_by f (take (suc n) xs) ≡ sum_by f (take (n + 1) xs) = rw add-one refl in
    omega (arith, same, sum_by_more f xs n d (omega (arith, le)), front_sum f xs d n (omega (arith, le)))

pub whole_sum : {X : Type 0} (f : X → ℕ) (xs : List X) (d : X) → sum_by f xs ≡ sum_to (λ k. f (slice_index_or xs k d)) (length xs)
whole_sum f xs d = ap (sum_by f) (sym (take-length xs)) ∙ front_sum f xs d (length xs) (omega arith)

pub same_sum : (f g : ℕ → ℕ) (n : ℕ) → ((k : ℕ) → k < n → f k ≡ g k) → sum_to f n ≡ sum_to g n
same_sum f g zero h = refl
same_sum f g (suc n) h = omega (arith, same_sum f g n (λ k lt. h k (omega (arith, lt))), h n (omega arith))

-- the values change at rising places alone
record AreMoved (f g at : ℕ → ℕ) (n len : ℕ) : Type 0 where
  within : (j : ℕ) → j < n → at j < len
  rising : (i j : ℕ) → i < j → j < n → at i < at j
  others : (k : ℕ) → k < len → ((j : ℕ) → j < n → at j ≡ k → ⊥) → g k ≡ f k

abbrev SumsMove : (ℕ → ℕ) → (ℕ → ℕ) → (ℕ → ℕ) → ℕ → ℕ → Type 0
SumsMove f g at n len = sum_to g len + sum_to (λ j. f (at j)) n ≡ sum_to f len + sum_to (λ j. g (at j)) n

none_last : {f g at : ℕ → ℕ} {len : ℕ} → AreMoved f g at 0 (suc len) → AreMoved f g at 0 len
none_last h = record {
  within = λ j lt. absurd (omega (arith, lt));
  rising = λ i j lt low. absurd (omega (arith, low));
  others = λ k lt none. h.others k (omega (arith, lt)) none;
}

-- the last place is that of the last
at_last : {f g at : ℕ → ℕ} {n len : ℕ} → at n ≡ len → AreMoved f g at (suc n) (suc len) → AreMoved f g at n len
at_last {at = at} {n = n} {len = len} is h = record {
  within = λ j lt. omega (arith, h.rising j n lt (omega arith), is);
  rising = λ i j lt low. h.rising i j lt (omega (arith, low));
  others = λ k lt none.
      h.others k (omega (arith, lt)) (λ j low same. elim (cases_lt j n) [
        | inl less ↦ none j less same
        | inr ge ↦ let last : j ≡ n = omega (arith, ge, low) in omega (arith, ap at last, same, is, lt)
      ]);
}

-- or before it
before_last : {f g at : ℕ → ℕ} {n len : ℕ} → (at n ≡ len → ⊥) → AreMoved f g at (suc n) (suc len)
    → AreMoved f g at (suc n) len × (g len ≡ f len)
before_last {f = f} {g = g} {at = at} {n = n} {len = len} differ h =
    let low : at n < len = elim (cases_lt (at n) len) [
      | inl lt ↦ lt
      | inr ge ↦ absurd (differ (omega (arith, ge, h.within n (omega arith))))
    ] in
    let under : (j : ℕ) → j < suc n → at j < len = λ j lt. elim (cases_lt j n) [
      | inl less ↦ omega (arith, h.rising j n less (omega arith), low)
      | inr ge ↦ let last : j ≡ n = omega (arith, ge, lt) in omega (arith, ap at last, low)
    ] in (
      record { within = under; rising = h.rising; others = λ k lt none. h.others k (omega (arith, lt)) none },
      h.others len (omega arith) (λ j lt same. omega (arith, under j lt, same)),
    )

sums_move : (f g at : ℕ → ℕ) (n len : ℕ) → AreMoved f g at n len → SumsMove f g at n len
sums_move f g at zero zero h = refl
sums_move f g at (suc n) zero h = absurd (omega (arith, h.within n (omega arith)))
sums_move f g at zero (suc len) h =
    let same = h.others len (omega arith) (λ j lt. absurd (omega (arith, lt))) in
    omega (arith, same, sums_move f g at zero len (none_last h))
sums_move f g at (suc n) (suc len) h =
    go (nat_eq (at n) len) refl (λ m is. sums_move f g at m len is) where
      go : (b : Bool) → nat_eq (at n) len ≡ b → ((m : ℕ) → AreMoved f g at m len → SumsMove f g at m len)
          → SumsMove f g at (suc n) (suc len)
      go true q rec =
          let is : at n ≡ len = eqb-true (at n) len q in
          omega (arith, rec n (at_last is h), ap f is, ap g is)
      go false q rec =
          let r = before_last (eqb-false (at n) len q) h in
          omega (arith, rec (suc n) r.0, r.1)

pub moved : (f g at : ℕ → ℕ) (n len : ℕ) → ((j : ℕ) → j < n → at j < len) → ((i j : ℕ) → i < j → j < n → at i < at j)
    → ((k : ℕ) → k < len → ((j : ℕ) → j < n → at j ≡ k → ⊥) → g k ≡ f k) → SumsMove f g at n len
moved f g at n len within rising others = sums_move f g at n len (record { within = within; rising = rising; others = others })
