use Rattle.std.proofs.Common.{◌≡◌, min, refl, ◌∙◌}
use Rattle.nv_base.specs.declared.limits.TheConstants.{FILE_PAGES}
use Rattle.nv_entry.specs.Keys.{pages_for}
use Rattle.nv_entry.specs.Node.{size_now}
use Rattle.nv_audit.specs.Sound.{AreLogPagesWithin}
use Rattle.nv_audit.proofs.SizeEnds.{flipped, within_by}
use Rattle.nv_audit.proofs.sound.are_pages_within_by.Goals as goal

pub returns : goal.returns
returns c log size are =
    let block = c.args.block in
    let least : c.min-first.result ≡ min (pages_for block (size_now block log)) FILE_PAGES =
    c.min-first.ensures ∙ rw (c.div_ceil.ensures, size, c.from.ensures) refl in
    flipped (AreLogPagesWithin block log) c.next_from.result c.is_none.result c.is_none.ensures
    (within_by block log c.args.pages.now c.min-first.result least are c.next_from.result c.next_from.ensures.next
    c.next_from.ensures.within)
