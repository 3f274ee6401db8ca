-- What holds of each item of a list holds once one more is put to its end.
use Rattle.std.proofs.Common.{◌≡◌, ℕ, ◌+◌, ◌<◌, ◌++◌, inl, inr, List, [], ◌∷◌, length, get_or, arith, ap, subst, sym, ◌∙◌}
use Rattle.std.proofs.Math.Seq.{get_or-append_seam}
use Rattle.std.proofs.lemmas.Bool.{cases_lt}
use Rattle.std.proofs.lemmas.List.{get_or_append_left}

pub each_push : {X : Type 0} (P : ℕ → X → Type 0) (old new : List X) (x : X) (count : ℕ) → new ≡ old ++ x ∷ [] → length old ≡ count
    → ((n : ℕ) (d : X) → n < count → P n (get_or old n d)) → P count x → (n : ℕ) (d : X) → n < count + 1 → P n (get_or new n d)
each_push {X} P old new x count is len before own n d lt = elim (cases_lt n count) [
  | inl low ↦
      subst (P n)
      (sym (ap (λ (xs : List X). get_or xs n d) is ∙ get_or_append_left old (x ∷ []) d n (omega (arith, low, len))))
      (before n d low)
  | inr from ↦
      let at : count ≡ n = omega (arith, from, lt) in
      let end : get_or (old ++ x ∷ []) count d ≡ x =
      subst (λ (m : ℕ). get_or (old ++ x ∷ []) m d ≡ x) len (get_or-append_seam old x [] d) in
      subst (λ (m : ℕ). P m (get_or new m d)) at (subst (P count) (sym (ap (λ (xs : List X). get_or xs count d) is ∙ end)) own)
]
