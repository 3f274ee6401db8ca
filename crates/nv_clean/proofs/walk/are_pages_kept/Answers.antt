use Rattle.std.proofs.Common.{◌≡◌, ◌∙◌, ℕ, List, ap, arith, length}
use Rattle.nv_clean.proofs.Kept.{pages_all}
use Rattle.nv_log.specs.Chain.{ChainState}
use Rattle.nv_clean.proofs.walk.are_pages_kept.Goals as goal

pub returns : goal.returns
returns c = λ kept.
    let cell = c.args.cell.now.state in
    let ends : length c.ends-k-end.result.now ≡ length cell.chain.ends =
    ap (λ (l : List ℕ). length l) c.ends-k-end.ensures.value ∙ ap (λ (ch : ChainState). length ch.ends) c.log.ensures.state in
    pages_all cell (λ k lt. c.loop-k.invariant k (omega (arith, lt, ends, c.loop-k-test.false)))
