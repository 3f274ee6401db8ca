-- A chain cut to its first entries, on the pages that these stand on.
use Rattle.std.proofs.Common.{◌≡◌, ℕ, zero, suc, ◌+◌, ◌<◌, ◌≤◌, ◌⊎◌, inl, inr, Bool, true, false, cond, nat_lt, ltb, List, [], ◌∷◌, ◌++◌, length, take, drop, get_or, reverse, arith, refl, ap, sym, ◌∙◌, subst}
use Rattle.std.proofs.lemmas.Bool.{cases_lt, le-ltb, lt-ltb, ltb-false, ltb-true}
use Rattle.std.proofs.lemmas.List.{drop_more, get_or-take, length-take, length-take-le, reverse-append, take-take}
use Rattle.std.specs.List.{AllByRecursion}
use Rattle.std.specs.List.Sorted.{IsPartitionPoint}
use Rattle.nv_entry.specs.Log.{IsLog}
use Rattle.nv_log.specs.Chain.{AreEnds, ChainState, IsChain}
use Rattle.nv_log.specs.Image.{ChainImageValue, IsPaged, chain_of, cut_chain, cut_ends, image_of}
use Rattle.nv_log.proofs.Logs.{IsLog-take}

-- ---- ends

ends_cut : (page start n len : ℕ) (ends : List ℕ) → AreEnds page start ends len → start ≤ n
    → n ≤ len → (0 < start ⊎ (start ≡ 0))
    → AreEnds page start (cut_ends n ends) n ⊎ ((n ≡ start) × (0 < start))
ends_cut page start n len [] are le few first = inl (omega (arith, are, le, few))
ends_cut page start n len (e ∷ ends) are le few first = go (nat_lt e n) refl (nat_lt 0 n) refl
    (λ lt. ends_cut page e n len ends are.2 (omega (arith, lt)) few
    (inl (let up = are.0 in omega (arith, up)))) where
      go : (b : Bool) → nat_lt e n ≡ b → (c : Bool) → nat_lt 0 n ≡ c
          → (e < n → AreEnds page e (cut_ends n ends) n ⊎ ((n ≡ e) × (0 < e)))
          → AreEnds page start (cond b (e ∷ cut_ends n ends) (cond c (n ∷ []) [])) n
          ⊎ ((n ≡ start) × (0 < start))
      go true q c d more = on (more (ltb-true e n q)) where
        on : AreEnds page e (cut_ends n ends) n ⊎ ((n ≡ e) × (0 < e))
            → AreEnds page start (e ∷ cut_ends n ends) n ⊎ ((n ≡ start) × (0 < start))
        on (inl rest) = inl (are.0, are.1, rest)
        on (inr at) = absurd (let lt = ltb-true e n q in omega (arith, lt, at.0))
      go false q true d more = elim (cases_lt start n) [
        | inl lt ↦ inl (
          lt,
          (let past = ltb-false e n q in let most = are.1 in omega (arith, past, most)),
          refl,
        )
        | inr ge ↦ inr
            (omega (arith, ge, le), (let some = ltb-true 0 n d in omega (arith, some, ge)))
      ]
      go false q false d more = inl (let none = ltb-false 0 n d in omega (arith, none, le))

pub AreEnds-cut : (page n len : ℕ) (ends : List ℕ) → AreEnds page 0 ends len → n ≤ len → AreEnds page 0 (cut_ends n ends) n
AreEnds-cut page n len ends are few = at (ends_cut page 0 n len ends are (omega arith) few (inr refl)) where
  at : AreEnds page 0 (cut_ends n ends) n ⊎ ((n ≡ 0) × (0 < 0)) → AreEnds page 0 (cut_ends n ends) n
  at (inl is) = is
  at (inr none) = absurd (omega (arith, none.1))

pub few_ends : (n : ℕ) (ends : List ℕ) → length (cut_ends n ends) ≤ length ends
few_ends n [] = omega arith
few_ends n (e ∷ ends) = go (nat_lt e n) (nat_lt 0 n) (few_ends n ends) where
  go : (b c : Bool) → length (cut_ends n ends) ≤ length ends
      → length (cond b (e ∷ cut_ends n ends) (cond c (n ∷ []) [])) ≤ length (e ∷ ends)
  go true c le = omega (arith, le)
  go false true le = omega arith
  go false false le = omega arith

-- no entry stands on no page
pub cut_none : (n : ℕ) (ends : List ℕ) → n ≡ 0 → cut_ends n ends ≡ []
cut_none n [] e = refl
cut_none n (end ∷ ends) e = rw (le-ltb end n (omega (arith, e)), le-ltb 0 n (omega (arith, e))) refl

-- the first `k` ends are before `n`, and no other is
record IsCutAt (n k : ℕ) (ends : List ℕ) : Type 0 where
  within : k ≤ length ends
  before : (j : ℕ) → j < k → get_or ends j 0 < n
  behind : (j : ℕ) → k ≤ j → j < length ends → n ≤ get_or ends j 0

later : (n k e : ℕ) (ends : List ℕ) → IsCutAt n (suc k) (e ∷ ends) → IsCutAt n k ends
later n k e ends is = record {
  within = let le = is.within in omega (arith, le);
  before = λ j lt. is.before (suc j) (omega (arith, lt));
  behind = λ j le lt. is.behind (suc j) (omega (arith, le)) (omega (arith, lt));
}

-- all ends are before it
all_before : (n k : ℕ) (ends : List ℕ) → IsCutAt n k ends → k ≡ length ends → cut_ends n ends ≡ ends
all_before n k [] is e = refl
all_before n zero (end ∷ ends) is e = absurd (omega (arith, e))
all_before n (suc k) (end ∷ ends) is e =
    rw (lt-ltb end n (is.before 0 (omega arith))) (ap (λ es. end ∷ es) (all_before n k ends (later n k end ends is) (omega (arith, e))))

-- one is not, and is cut
one_behind : (n k : ℕ) (ends : List ℕ) → 0 < n → IsCutAt n k ends → k < length ends → cut_ends n ends ≡ take k ends ++ n ∷ []
one_behind n k [] some is lt = absurd (omega (arith, lt))
one_behind n zero (end ∷ ends) some is lt = rw (le-ltb end n (is.behind 0 (omega arith) (omega arith)), lt-ltb 0 n some) refl
one_behind n (suc k) (end ∷ ends) some is lt =
    rw (lt-ltb end n (is.before 0 (omega arith)))
    (ap (λ es. end ∷ es) (one_behind n k ends some (later n k end ends is) (omega (arith, lt))))

module _ (n k : ℕ) (ends : List ℕ) (few : k ≤ length ends)
    (parts : IsPartitionPoint (λ end. ltb end n ≡ true) (λ end. ltb end n ≡ false) ends k) where
  cut_at : IsCutAt n k ends
  cut_at = record {
    within = few;
    before = λ j lt. ltb-true (get_or ends j 0) n (parts.0 j 0 (omega arith) lt);
    behind = λ j le lt. ltb-false (get_or ends j 0) n (parts.1 j 0 le lt);
  }

  pub cut_whole : k ≡ length ends → cut_ends n ends ≡ ends
  cut_whole e = all_before n k ends cut_at e

  pub cut_last : 0 < n → k < length ends → cut_ends n ends ≡ take k ends ++ n ∷ []
  cut_last some lt = one_behind n k ends some cut_at lt

-- ---- chains

pub IsChain-cut : (n : ℕ) (chain : ChainState) → IsChain chain → n ≤ length chain.entries
    → IsChain (cut_chain chain.page n (image_of chain))
IsChain-cut n chain is few =
    let long : length (take n chain.entries) ≡ n = length-take-le n chain.entries few in
    let kept = length (cut_ends n chain.ends) in
    record {
      least = is.least;
      most = is.most;
      paged = omega (arith, length-take kept chain.blocks, few_ends n chain.ends, is.paged);
      parted = subst (AreEnds chain.page 0 (cut_ends n chain.ends)) (sym long)
          (AreEnds-cut chain.page n (length chain.entries) chain.ends is.parted few);
      rising = IsLog-take n chain.entries is.rising;
      within = omega (arith, long);
    }

-- the chain of an image whose parts fit one another is one
pub IsChain-of_image : (page : ℕ) (image : ChainImageValue) → 2 ≤ page → page ≤ 63 → IsPaged page image → IsLog image.entries
    → IsChain (chain_of page image)
IsChain-of_image page image least most paged rising = record {
  least = least;
  most = most;
  paged = paged.paged;
  parted = paged.parted;
  rising = rising;
  within = paged.within;
}

-- and a chain goes into an image whose parts do
pub IsPaged-of_chain : (chain : ChainState) → IsChain chain → IsPaged chain.page (image_of chain)
IsPaged-of_chain chain is = record { parted = is.parted; paged = is.paged; within = is.within }

-- ---- the blocks behind, one after the other from the last on

module _ {X : Type 0} (old now : List X) (n k : ℕ) (are : now ≡ take n old) (le : n ≤ length old) (one : k + 1 ≡ n) where
  pub popped : (rest : List X) → rest ≡ take k now → rest ≡ take k old
  popped rest e = e ∙ ap (take k) are ∙ take-take k n old (omega (arith, one))

  pub last_is : (x : X) → x ≡ get_or now k x → x ≡ get_or old k x
  last_is x e = e ∙ ap (λ xs. get_or xs k x) are ∙ get_or-take n old k x (omega (arith, one))

  pub one_more : (x : X) → x ≡ get_or now k x → reverse (drop k old) ≡ reverse (drop n old) ++ x ∷ []
  one_more x e =
      ap reverse (drop_more old k x (omega (arith, le, one)) ∙ ap (λ y. y ∷ drop (k + 1) old) (sym (last_is x e))
      ∙ ap (λ m. x ∷ drop m old) one)
      ∙ reverse-append (x ∷ []) (drop n old)

-- each block behind a place has what all behind it have
pub sized_last : {X : Type 0} (P : X → Type 0) (old : List X) (count n : ℕ) (x : X) → AllByRecursion P (drop count old) → count ≤ n
    → n < length old → x ≡ get_or old n x → P x
sized_last P [] count n x all le lt e = absurd (omega (arith, lt))
sized_last P (y ∷ old) zero zero x all le lt e = subst P (sym e) all.0
sized_last {X} P (y ∷ old) zero (suc n) x all le lt e = sized_last P old zero n x (rest old all.1) (omega arith) (omega (arith, lt)) e where
  rest : (zs : List X) → AllByRecursion P zs → AllByRecursion P (drop zero zs)
  rest [] k = k
  rest (z ∷ zs) k = k
sized_last P (y ∷ old) (suc count) zero x all le lt e = absurd (omega (arith, le))
sized_last P (y ∷ old) (suc count) (suc n) x all le lt e = sized_last P old count n x all (omega (arith, le)) (omega (arith, lt)) e

-- what all have, those behind a place have
pub all_behind : {X : Type 0} (P : X → Type 0) (n : ℕ) (xs : List X) → AllByRecursion P xs → AllByRecursion P (drop n xs)
all_behind P zero xs all = all
all_behind P (suc n) [] all = tt
all_behind P (suc n) (x ∷ xs) all = all_behind P n xs all.1
