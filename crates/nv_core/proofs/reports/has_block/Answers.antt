use Rattle.std.proofs.Common.{◌∙◌, sym}
use Rattle.nv_entry.specs.Keys.{parts_of}
use Rattle.nv_core.proofs.Blocked.{page_has}
use Rattle.nv_core.proofs.Kept.{none_past}
use Rattle.nv_core.proofs.reports.has_block.Goals as goal

pub returns-in-Some : goal.returns-in-Some
returns-in-Some c = λ place at there.
    c.is_page.ensures
    ∙ sym (page_has c.args.cell.now.state place c.args.k c.args.entry.now c.in-Some.part c.holds_together.ensures.blocks at
    (sym c.part_at.ensures.value ∙ c.in-Some.is) there)

pub returns-in-None : goal.returns-in-None
returns-in-None c = λ place at there.
    absurd (none_past (parts_of c.args.entry.now.item) c.args.k c.requires (sym c.part_at.ensures.value ∙ c.in-None.is))
