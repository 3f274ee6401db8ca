use Rattle.std.proofs.Common.{◌≡◌, ℕ, zero, suc, ◌+◌, ◌∙◌, List, ◌∷◌, length, refl, ap}
use Rattle.std.specs.Prelude.{map, replicate}
use Rattle.std.specs.List.{range_with_len}
use Rattle.nv_sessions.proofs.no_text.NoTextSource.fill.Goals as goal

-- the bytes of a text of zeros
zeros : (at n : ℕ) → replicate {A = ℕ} n 0 ≡ map (λ (k : ℕ). 0) (range_with_len at n)
zeros at zero = refl
zeros at (suc n) = ap (λ (rest : List ℕ). 0 ∷ rest) (zeros (at + 1) n)

pub returns-clause-part : goal.returns-clause-part
returns-clause-part c = c.fill.ensures.after (λ y same. same) ∙ zeros c.args._at (length c.args.part.now)
