-- The bytes behind a listed name.
use Rattle.std.proofs.Common.{◌≡◌, ℕ, ◌<◌, take, replicate, ap, ◌∙◌, arith}
use Rattle.std.proofs.lemmas.List.{take-replicate}

-- the zero bytes behind a name are the first ones of eight
pub zeros-taken : (taken count : ℕ) → taken ≡ count → taken < 8 → take taken (replicate {A = ℕ} 8 0) ≡ replicate count 0
zeros-taken taken count same few =
    take-replicate {X = ℕ} taken 8 0 (omega arith) ∙ ap (λ (n : ℕ). replicate {A = ℕ} n 0) same
