use Rattle.std.proofs.Common.{ℕ, List, length, arith, ap, eqb-true, sym, ◌∙◌}
use Rattle.nv_log.specs.Chain.{ChainState}
use Rattle.nv_audit.proofs.whole.inode_differs.Goals as goal

-- no page has an entry
pub returns-then-is_empty-clause-ok : goal.returns-then-is_empty-clause-ok
returns-then-is_empty-clause-ok c = λ page lt.
    let none = eqb-true (length c.ends.result.now) 0 (sym c.is_empty.ensures ∙ c.if-is_empty.true) in
    let same = c.ends.ensures.value ∙ ap (λ (s : ChainState). s.ends) c.log.ensures.state in
    absurd (omega (arith, lt, ap (λ (l : List ℕ). length l) same, none))
