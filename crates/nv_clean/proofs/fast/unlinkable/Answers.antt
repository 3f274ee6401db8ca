use Rattle.std.proofs.Common.{◌∙◌, Bool, List, ap, length}
use Rattle.nv_clean.proofs.Cleanings.{pages_flagged}
use Rattle.nv_clean.proofs.fast.unlinkable.Goals as goal

pub entries_going-entries-requires : goal.entries_going-entries-requires
entries_going-entries-requires c =
    ap (λ (stays : List Bool). length stays) (c.deref-2.ensures.value ∙ c.in_ok-stays.ensures)
    ∙ pages_flagged c.args.cell.now.state
