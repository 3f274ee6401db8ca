use Rattle.std.proofs.Common.{ℕ, ◌++◌, List, length, ap, eqb-true, sym, ◌∙◌}
use Rattle.nv_alloc.specs.Block.{BlockValue, numbers_of}
use Rattle.nv_entry.specs.Held.{retention_of}
use Rattle.nv_log.specs.Chain.{ChainState}
use Rattle.nv_audit.proofs.PartBlocks.{used_by_nothing}
use Rattle.nv_audit.proofs.lists.push_used.Goals as goal

-- no entry stands in the log
pub returns-then-is_empty-clause-ok : goal.returns-then-is_empty-clause-ok
returns-then-is_empty-clause-ok c =
    let used = c.args.used.now.items in
    let none = eqb-true (length c.log-chain.result.now.state.entries) 0 (sym c.is_empty.ensures ∙ c.if-is_empty.true) in
    let entries = ap (λ (s : ChainState). length s.entries) (sym c.log-chain.ensures.state) ∙ none in
    c.in_ok-push_pages.ensures
    ∙ ap (λ (bs : List BlockValue). used ++ numbers_of bs) (c.blocks-2.ensures ∙ ap (λ (s : ChainState). s.blocks) c.log-chain.ensures.state)
    ∙ ap (λ (ys : List ℕ). used ++ ys) (sym (used_by_nothing (retention_of c.args.retention.now) c.args.cell.now.state entries))
