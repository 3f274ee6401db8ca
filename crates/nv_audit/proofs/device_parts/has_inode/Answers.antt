use Rattle.std.proofs.Common.{◌≡◌, length, nat_lt, arith, ap, ◌∙◌}
use Rattle.nv_log.specs.Chain.{ChainState}
use Rattle.nv_audit.proofs.DeviceParts.{has_taken}
use Rattle.nv_audit.proofs.device_parts.has_inode.Goals as goal

pub returns : goal.returns
returns c =
    let chain = c.args.cell.now.state.chain in
    let tail : c.tail.result ≡ chain.tail = c.tail.ensures.value ∙ ap (λ (x : ChainState). x.tail) c.log.ensures.state in
    let all = ap (λ (x : ChainState). length x.entries) c.log.ensures.state in
    ap (nat_lt 0) tail ∙ has_taken chain.tail chain.entries (omega (arith, c.tail.ensures.within, tail, all))
