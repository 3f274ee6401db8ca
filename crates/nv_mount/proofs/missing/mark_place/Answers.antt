use Rattle.std.proofs.Common.{◌<◌, [], Option, length, arith, subst}
use Rattle.nv_alloc.specs.Block.{BlockValue}
use Rattle.nv_alloc.proofs.Lists.{has-first}
use Rattle.nv_mount.specs.Missing.{AreWithin}
use Rattle.nv_mount.proofs.Marked.{numbers_at}
use Rattle.nv_mount.proofs.missing.mark_place.Goals as goal

pub mark-requires : goal.mark-requires
mark-requires c =
    let low : c.in-Some.block.number < length c.args.marks.now.items =
    subst (λ (o : Option BlockValue). AreWithin (length c.args.marks.now.items) (numbers_at o)) c.in-Some.is c.requires
    c.in-Some.block.number (has-first c.in-Some.block.number []) in
    omega (arith, low, c.number.ensures)
