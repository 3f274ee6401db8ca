use Rattle.std.proofs.Common.{◌≡◌, ◌-◌, ◌<◌, true, length, arith, ap, ◌∙◌, slice_index_or}
use Rattle.std.proofs.lemmas.List.{get_or_default, length-take-le}
use Rattle.nv_log.specs.Chain.{log}
use Rattle.nv_cell.specs.Removal.{flags_of}
use Rattle.nv_cell.proofs.PageFlags.{flags-count}
use Rattle.nv_cell.proofs.may_go.leaves_last.Goals as goal

pub returns-else-tail-eq0 : goal.returns-else-tail-eq0
returns-else-tail-eq0 c =
    let chain = c.args.chain.now.state in
    let flags = flags_of c.args.stays chain in
    let is = c.holds_together.ensures in
    let size = length-take-le chain.tail chain.entries is.within in
    let n : c.tail-tail.result - 1 ≡ length (log chain) - 1 = omega (arith, size, c.tail-tail.ensures.value) in
    let lt : c.tail-tail.result - 1 < length flags =
    omega (arith, flags-count c.args.stays chain is c.requires, c.tail-tail.ensures.value, c.if-tail-eq0.false) in
    c.at.ensures ∙ get_or_default flags (c.tail-tail.result - 1) c.at.result true lt ∙ ap (λ k. slice_index_or flags k true) n
