use Rattle.std.proofs.Common.{◌∙◌, ℕ, ap, arith, replicate, true}
use Rattle.nv_clean.proofs.Kept.{entries_all}
use Rattle.nv_clean.proofs.Walking.{log_len}
use Rattle.nv_clean.proofs.walk.are_entries_kept.Goals as goal

pub returns : goal.returns
returns c = λ kept.
    let cell = c.args.cell.now.state in
    let len = log_len cell c.holds_together.ensures in
    entries_all cell (λ k lt. c.loop-place.invariant k (omega (arith, lt, len, c.loop-place-test.false, c.tail-place-end.ensures)))
    ∙ ap (λ (n : ℕ). replicate n true) len
