use Rattle.std.proofs.Common.{List, length, ap, subst, sym, ◌∙◌}
use Rattle.nv_alloc.specs.Block.{BlockValue, numbers_of}
use Rattle.nv_log.specs.Image.{ChainImageValue}
use Rattle.nv_mount.specs.Missing.{AreWithin}
use Rattle.nv_mount.proofs.missing.mark_chain.Goals as goal

pub mark_pages-requires : goal.mark_pages-requires
mark_pages-requires c =
    subst (λ (bs : List BlockValue). AreWithin (length c.args.marks.now.items) (numbers_of bs))
    (sym (c.deref.ensures.value ∙ ap (λ (k : ChainImageValue). k.pages) c.chain.view_is)) c.requires
