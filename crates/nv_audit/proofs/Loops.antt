-- Loops that test each item of a list.
use Rattle.std.proofs.Common.{◌≡◌, ℕ, ◌+◌, ◌<◌, inl, inr, Bool, true, false, List, length, get_or, arith, sym, subst, ◌∙◌}
use Rattle.std.specs.Prelude.{All, IsTrue}
use Rattle.std.proofs.lemmas.Bool.{cases_lt, false≢true}
use Rattle.std.proofs.lemmas.List.{get_or_read}

-- an item fails the test
pub one_fails : {X : Type 0} (P : X → Type 0) (xs : List X) (i : ℕ) (x : X) (b : Bool) → i < length xs → x ≡ get_or xs i x
    → (P x → IsTrue b) → b ≡ false → All P xs → ⊥
one_fails P xs i x b lt is passes fails all = false≢true (sym fails ∙ passes (subst P (sym is) (all i x lt)))

-- one more item passes it
pub one_more : {X : Type 0} (P : X → Type 0) (xs : List X) (i : ℕ) (x : X) (b : Bool) → i < length xs → x ≡ get_or xs i x
    → (IsTrue b → P x) → b ≡ true → ((k : ℕ) (d : X) → k < i → P (get_or xs k d)) → (k : ℕ) (d : X) → k < i + 1 → P (get_or xs k d)
one_more P xs i x b lt is holds passes before k d below =
    elim (cases_lt k i) [
      | inl less ↦ before k d less
      | inr from ↦
          let here : i ≡ k = omega arith in
          subst (λ (n : ℕ). P (get_or xs n d)) here (subst P (get_or_read xs i x lt is d) (holds passes))
    ]

-- one more item has what each is to have at its place
pub one_more_at : {X : Type 0} (P : ℕ → X → Type 0) (xs : List X) (i : ℕ) (x : X) → i < length xs → x ≡ get_or xs i x → P i x
    → ((k : ℕ) (d : X) → k < i → P k (get_or xs k d)) → (k : ℕ) (d : X) → k < i + 1 → P k (get_or xs k d)
one_more_at P xs i x lt is here before k d below =
    elim (cases_lt k i) [
      | inl less ↦ before k d less
      | inr from ↦
          let same : i ≡ k = omega arith in
          subst (λ (n : ℕ). P n (get_or xs n d)) same (subst (P i) (get_or_read xs i x lt is d) here)
    ]
