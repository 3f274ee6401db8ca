-- A rising list with the right members is the free list from scratch.
use Rattle.std.proofs.Common.{◌≡◌, ◌≢◌, ℕ, zero, suc, ◌+◌, ◌<◌, ◌≤◌, ◌==◌, ◌&&◌, inl, inr, Bool, true, false, not, nat_lt, nat_le, List, [], ◌∷◌, arith, refl, ap, sym, ◌∙◌, subst}
use Rattle.std.proofs.lemmas.Bool.{cases_Bool, eqb-true, eqb-false, leb-true, leb-false, ltb-true, ltb-false, lt-ltb, le-ltb, le-leb, lt-leb}
use Rattle.nv_alloc.specs.Numbers.{IsRising, has, unused}
use Rattle.nv_alloc.proofs.Lists.{all_above, has-below, has-first, has-other}

-- whether the number is in the range and unused
abbrev is_wanted : (ℕ → Bool) → ℕ → ℕ → ℕ → Bool
is_wanted is_used low end n = nat_le low n && nat_lt n end && not (is_used n)

wanted-first : (is_used : ℕ → Bool) (low end : ℕ) → low < end → is_wanted is_used low end low ≡ not (is_used low)
wanted-first is_used low end h = rw (le-leb low low (omega arith), lt-ltb low end h) refl

wanted-below : (is_used : ℕ → Bool) (low end n : ℕ) → n < low → is_wanted is_used low end n ≡ false
wanted-below is_used low end n h = rw (lt-leb low n h) refl

wanted-above : (is_used : ℕ → Bool) (low end n : ℕ) → end ≤ n → is_wanted is_used low end n ≡ false
wanted-above is_used low end n h = elim (cases_Bool (nat_le low n)) [ inl q ↦ rw (q, le-ltb n end h) refl | inr q ↦ rw q refl ]

wanted-later : (is_used : ℕ → Bool) (low end n : ℕ) → n ≢ low → is_wanted is_used low end n ≡ is_wanted is_used (low + 1) end n
wanted-later is_used low end n ne = ap (λ b. b && nat_lt n end && not (is_used n)) (go (nat_le low n) refl) where
  go : (b : Bool) → nat_le low n ≡ b → nat_le low n ≡ nat_le (low + 1) n
  go true q = q ∙ sym (le-leb (low + 1) n (omega (arith, ne, leb-true low n q)))
  go false q = q ∙ sym (lt-leb (low + 1) n (omega (arith, leb-false low n q)))

-- a rising list of wanted numbers begins with the lowest of them
first_wanted : (is_used : ℕ → Bool) (low end : ℕ) (n : ℕ) (ns : List ℕ) → IsRising (n ∷ ns)
    → ((k : ℕ) → has (n ∷ ns) k ≡ is_wanted is_used low end k) → is_used low ≡ false → low < end → n ≡ low
first_wanted is_used low end n ns rising members free lt = go (n == low) refl where
  own : is_wanted is_used low end n ≡ true
  own = sym (members n) ∙ has-first n ns

  low_in : has (n ∷ ns) low ≡ true
  low_in = members low ∙ wanted-first is_used low end lt ∙ ap not free

  not_below : n < low → ⊥
  not_below h = let q : false ≡ true = sym (wanted-below is_used low end n h) ∙ own in cc

  not_above : low < n → ⊥
  not_above h = let q : false ≡ true = sym (has-below low (n ∷ ns) (h, all_above low n ns (omega arith) rising.0)) ∙ low_in in cc

  go : (b : Bool) → (n == low) ≡ b → n ≡ low
  go true q = eqb-true n low q
  go false q = let ne = eqb-false n low q in absurd (omega (arith, ne, not_below, not_above))

-- the rest of such a list has the wanted numbers after the first
rest_members : (is_used : ℕ → Bool) (low end : ℕ) (ns : List ℕ) → IsRising (low ∷ ns)
    → ((k : ℕ) → has (low ∷ ns) k ≡ is_wanted is_used low end k) → (k : ℕ) → has ns k ≡ is_wanted is_used (low + 1) end k
rest_members is_used low end ns rising members k = go (k == low) refl where
  go : (b : Bool) → (k == low) ≡ b → has ns k ≡ is_wanted is_used (low + 1) end k
  go true q =
      let e : k ≡ low = eqb-true k low q in
      rw e (has-below low ns rising.0 ∙ sym (wanted-below is_used (low + 1) end low (omega arith)))
  go false q =
      let ne : k ≢ low = eqb-false k low q in
      let en : low ≢ k = omega (arith, ne) in
      sym (has-other low k ns en) ∙ members k ∙ wanted-later is_used low end k ne

-- where the lowest number is used, the wanted numbers are those after it
skip_members : (is_used : ℕ → Bool) (low end : ℕ) (ns : List ℕ) → is_used low ≡ true → low < end
    → ((k : ℕ) → has ns k ≡ is_wanted is_used low end k) → (k : ℕ) → has ns k ≡ is_wanted is_used (low + 1) end k
skip_members is_used low end ns used lt members k = go (k == low) refl where
  go : (b : Bool) → (k == low) ≡ b → has ns k ≡ is_wanted is_used (low + 1) end k
  go true q =
      let e : k ≡ low = eqb-true k low q in
      rw e (members low ∙ wanted-first is_used low end lt ∙ ap not used ∙ sym (wanted-below is_used (low + 1) end low (omega arith)))
  go false q = members k ∙ wanted-later is_used low end k (eqb-false k low q)

none_wanted : (is_used : ℕ → Bool) (low : ℕ) (ns : List ℕ) → ((k : ℕ) → has ns k ≡ is_wanted is_used low (low + 0) k) → ns ≡ []
none_wanted is_used low [] members = refl
none_wanted is_used low (n ∷ ns) members = go (nat_lt n low) refl where
  own : is_wanted is_used low (low + 0) n ≡ true
  own = sym (members n) ∙ has-first n ns

  no : is_wanted is_used low (low + 0) n ≡ false → n ∷ ns ≡ []
  no h = let q : false ≡ true = sym h ∙ own in cc

  go : (b : Bool) → nat_lt n low ≡ b → n ∷ ns ≡ []
  go true q = no (wanted-below is_used low (low + 0) n (ltb-true n low q))
  go false q = no (wanted-above is_used low (low + 0) n (omega (arith, ltb-false n low q)))

pub from_scratch : (is_used : ℕ → Bool) (low len : ℕ) (ns : List ℕ) → IsRising ns
    → ((k : ℕ) → has ns k ≡ is_wanted is_used low (low + len) k) → ns ≡ unused is_used low len
from_scratch is_used low zero ns rising members = none_wanted is_used low ns members
from_scratch is_used low (suc len) ns rising members = step ns rising members (is_used low) refl (λ ms r m. from_scratch is_used
    (low + 1) len ms r m) where
      shift : (ms : List ℕ) → ((k : ℕ) → has ms k ≡ is_wanted is_used (low + 1) (low + suc len) k) → (k : ℕ)
          → has ms k ≡ is_wanted is_used (low + 1) (low + 1 + len) k
      shift ms h k = let e : low + suc len ≡ low + 1 + len = omega arith in h k ∙ ap (λ end. is_wanted is_used (low + 1) end k) e

      step : (ns : List ℕ) → IsRising ns → ((k : ℕ) → has ns k ≡ is_wanted is_used low (low + suc len) k) → (b : Bool) → is_used low ≡ b
          → ((ms : List ℕ) → IsRising ms → ((k : ℕ) → has ms k ≡ is_wanted is_used (low + 1) (low + 1 + len) k)
          → ms ≡ unused is_used (low + 1) len) → ns ≡ unused is_used low (suc len)
      step ns r m true q ih = rw q (ih ns r (shift ns (skip_members is_used low (low + suc len) ns q (omega arith) m)))
      step [] r m false q ih = let z : false ≡ true = m low ∙ wanted-first is_used low (low + suc len) (omega arith) ∙ ap not q in cc
      step (n ∷ ns) r m false q ih =
          let e : n ≡ low = first_wanted is_used low (low + suc len) n ns r m q (omega arith) in
          let r' : IsRising (low ∷ ns) = subst (λ k. IsRising (k ∷ ns)) e r in
          let m' : (k : ℕ) → has (low ∷ ns) k ≡ is_wanted is_used low (low + suc len) k = subst (λ j. (k : ℕ)
          → has (j ∷ ns) k ≡ is_wanted is_used low (low + suc len) k) e m in
          rw (q, e) (ap (λ ms. low ∷ ms) (ih ns r'.1 (shift ns (rest_members is_used low (low + suc len) ns r' m'))))
