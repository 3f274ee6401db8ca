use Rattle.std.proofs.Common.{◌≡◌, ℕ, ◌-◌, ◌*◌, ◌^◌, min, arith, ap, ◌∙◌}
use Rattle.std.proofs.lemmas.Nat.Bits.{ones_shr}
use Rattle.nv_alloc.proofs.places.first_bits_in.Goals as goal

pub returns-then-count-start : goal.returns-then-count-start
returns-then-count-start c =
    let none : 0 ≡ min 64 (c.args.count - 64 * c.args.word) = omega arith in
    ap (λ (n : ℕ). 2 ^ n - 1) none

pub returns : goal.returns
returns c =
    let here : 64 - (64 - c.min-here.result) ≡ min 64 (c.args.count - 64 * c.args.word) = omega arith in
    ones_shr 64 (64 - c.min-here.result) (omega arith) ∙ ap (λ (n : ℕ). 2 ^ n - 1) here
