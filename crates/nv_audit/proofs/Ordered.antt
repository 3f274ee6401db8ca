-- Lists in which each item may follow the one before it.
use Rattle.std.proofs.Common.{◌≡◌, ℕ, zero, suc, ◌+◌, ◌-◌, ◌<◌, ◌≤◌, ◌==◌, Bool, true, false, List, [], ◌∷◌, ◌++◌, length, take, get_or, arith, refl, ap, sym, subst, ◌∙◌}
use Rattle.std.specs.Prelude.{All}
use Rattle.std.proofs.lemmas.Bool.{eqb-false, eqb-true}
use Rattle.std.proofs.lemmas.List.{get_or-take, get_or_default, length-take-le, take_more}
use Rattle.nv_entry.specs.Log.{IsLog, MayFollow}
use Rattle.nv_entry.specs.declared.item.Entry.{Entry}
use Rattle.nv_epoch.specs.Holders.{IsRising}
use Rattle.nv_log.proofs.Logs.{IsLog-push, ordered_at}

-- ---- entries

pub log_first : (es : List Entry) → IsLog (take 1 es)
log_first [] = tt
log_first (e ∷ es) = (tt, tt)

module _ (es : List Entry) (i : ℕ) (before e : Entry) (some : 1 ≤ i) (lt : i < length es) (was : before ≡ get_or es (i - 1) before)
    (at : e ≡ get_or es i e) where
  long : length (take i es) ≡ i
  long = length-take-le i es (omega (arith, lt))

  last : get_or (take i es) (length (take i es) - 1) e ≡ before
  last =
      ap (λ (n : ℕ). get_or (take i es) (n - 1) e) long ∙ get_or-take i es (i - 1) e (omega (arith, some))
      ∙ get_or_default es (i - 1) e before (omega (arith, lt)) ∙ sym was

  pub log_more : MayFollow before e → IsLog (take i es) → IsLog (take (i + 1) es)
  log_more follows is =
      subst IsLog (sym (take_more es i e lt ∙ ap (λ (x : Entry). take i es ++ x ∷ []) (sym at)))
      (IsLog-push (take i es) e is (λ some. subst (λ (x : Entry). MayFollow x e) (sym last) follows))

  pub follows_in : IsLog es → MayFollow before e
  follows_in is =
      subst (λ (x : Entry). MayFollow x e) (get_or_default es (i - 1) e before (omega (arith, lt)) ∙ sym was)
      (subst (λ (x : Entry). MayFollow (get_or es (i - 1) e) x) (sym at) (ordered_at es (i - 1) i e is (omega (arith, some)) lt))

-- ---- numbers

rising_push : (ns : List ℕ) (n : ℕ) → IsRising ns → All (λ (m : ℕ). m < n) ns → IsRising (ns ++ n ∷ [])
rising_push [] n is all = (λ k d lt. absurd (omega (arith, lt)), tt)
rising_push (m ∷ ns) n is all = (above, rising_push ns n is.1 (λ k d lt. all (suc k) d (omega (arith, lt)))) where
  above : All (λ (t : ℕ). m < t) (ns ++ n ∷ [])
  above = more ns is.0 (all 0 m (omega arith)) where
    more : (xs : List ℕ) → All (λ (t : ℕ). m < t) xs → m < n → All (λ (t : ℕ). m < t) (xs ++ n ∷ [])
    more [] up lt zero d below = lt
    more [] up lt (suc k) d below = absurd (omega (arith, below))
    more (x ∷ xs) up lt zero d below = up 0 d (omega arith)
    more (x ∷ xs) up lt (suc k) d below = more xs (λ j e l. up (suc j) e (omega (arith, l))) lt k d (omega (arith, below))

rising_at : (ns : List ℕ) (i j d : ℕ) → IsRising ns → i < j → j < length ns → get_or ns i d < get_or ns j d
rising_at [] i j d is lt within = absurd (omega (arith, within))
rising_at (n ∷ ns) i zero d is lt within = absurd (omega (arith, lt))
rising_at (n ∷ ns) zero (suc j) d is lt within = is.0 j d (omega (arith, within))
rising_at (n ∷ ns) (suc i) (suc j) d is lt within = rising_at ns i j d is.1 (omega (arith, lt)) (omega (arith, within))

pub rising_first : (ns : List ℕ) → IsRising (take 1 ns)
rising_first [] = tt
rising_first (n ∷ ns) = (λ k d lt. absurd (omega (arith, lt)), tt)

module _ (ns : List ℕ) (i before n : ℕ) (some : 1 ≤ i) (lt : i < length ns) (was : before ≡ get_or ns (i - 1) before)
    (at : n ≡ get_or ns i n) where
  each_below : before < n → IsRising (take i ns) → All (λ (m : ℕ). m < n) (take i ns)
  each_below less is k d in_it =
      let len = length-take-le i ns (omega (arith, lt)) in
      let here : k < i = omega (arith, in_it, len) in
      let front = get_or-take i ns k d here in
      let back = get_or-take i ns (i - 1) d (omega (arith, some)) in
      let same = get_or_default ns (i - 1) d before (omega (arith, lt)) in
      go (k == i - 1) refl len front back same here
    where
      go : (b : Bool) → (k == i - 1) ≡ b → length (take i ns) ≡ i → get_or (take i ns) k d ≡ get_or ns k d
          → get_or (take i ns) (i - 1) d ≡ get_or ns (i - 1) d → get_or ns (i - 1) d ≡ get_or ns (i - 1) before → k < i
          → get_or (take i ns) k d < n
      go true e len front back same here =
          let is_last : get_or ns k d ≡ get_or ns (i - 1) d = ap (λ (m : ℕ). get_or ns m d) (eqb-true k (i - 1) e) in
          omega (arith, front, is_last, same, was, less)
      go false e len front back same here =
          let low = rising_at (take i ns) k (i - 1) d is (omega (arith, here, eqb-false k (i - 1) e)) (omega (arith, len, some)) in
          omega (arith, low, back, same, was, less)

  pub rising_more : before < n → IsRising (take i ns) → IsRising (take (i + 1) ns)
  rising_more less is =
      subst IsRising (sym (take_more ns i n lt ∙ ap (λ (m : ℕ). take i ns ++ m ∷ []) (sym at)))
      (rising_push (take i ns) n is (each_below less is))

  pub rises_there : IsRising ns → before < n
  rises_there is =
      let low = rising_at ns (i - 1) i n is (omega (arith, some)) lt in
      let same = get_or_default ns (i - 1) n before (omega (arith, lt)) in omega (arith, low, same, was, at)
