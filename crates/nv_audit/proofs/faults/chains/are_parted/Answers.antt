use Rattle.std.proofs.Common.{◌≡◌, List, ℕ, length, arith, ap, subst, ◌∙◌}
use Rattle.std.specs.Prelude.{◌↔◌, IsTrue}
use Rattle.nv_log.specs.Chain.{AreEnds}
use Rattle.nv_log.specs.Image.{ChainImageValue}
use Rattle.nv_audit.proofs.faults.chains.are_parted.Goals as goal

pub returns : goal.returns
returns c =
    let chain = c.args.chain.now in
    let ends : c.deref.result.now ≡ chain.ends = c.deref.ensures.value ∙ ap (λ (k : ChainImageValue). k.ends) c.chain.view_is in
    let len : c.len.result ≡ length chain.entries =
    omega (arith, c.len.ensures, c.chain.inside.entries.ok.0, ap (λ (k : ChainImageValue). length k.entries) c.chain.view_is) in
    subst (λ (es : List ℕ). IsTrue c.are_ends.result ↔ AreEnds c.args.page 0 es (length chain.entries)) ends
    (subst (λ (n : ℕ). IsTrue c.are_ends.result ↔ AreEnds c.args.page 0 c.deref.result.now n) len c.are_ends.ensures)
