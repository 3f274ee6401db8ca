use Rattle.std.proofs.Common.{ℕ, ◌+◌, ◌<◌, List, length, ap, arith, set, take, ◌∙◌}
use Rattle.std.specs.List.{sum}
use Rattle.std.proofs.lemmas.Grind.{get_or_default_zero}
use Rattle.nv_book.proofs.Spans.{sum-set}
use Rattle.nv_book.proofs.held_spans.add_at.Goals as goal

pub returns-then-place-len-clause-sums : goal.returns-then-place-len-clause-sums
returns-then-place-len-clause-sums c n few =
    let xs : List ℕ = c.args.numbers.now.items in
    let place : ℕ = c.args.place in
    let in' : place < length xs = omega (arith, c.if-place-len.true, c.len.ensures) in
    let at = c.index_mut.ensures.value ∙ get_or_default_zero xs place _ in' in
    ap (λ m. sum (take n (set xs place (m + c.args.blocks)))) at ∙ sum-set xs place n c.args.blocks in'
