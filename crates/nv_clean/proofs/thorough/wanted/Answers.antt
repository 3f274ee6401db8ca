use Rattle.std.proofs.Common.{◌∙◌, Bool, List, ap, length, sym}
use Rattle.nv_clean.proofs.Cleanings.{entries_flagged}
use Rattle.nv_log.specs.Chain.{ChainState}
use Rattle.nv_clean.proofs.thorough.wanted.Goals as goal

pub staying-entries-requires : goal.staying-entries-requires
staying-entries-requires c =
    ap (λ (stays : List Bool). length stays) (c.deref.ensures.value ∙ c.in_ok-stays.ensures)
    ∙ entries_flagged c.args.cell.now.state c.holds_together.ensures
    ∙ ap (λ (chain : ChainState). chain.tail) (sym c.log.ensures.state)
