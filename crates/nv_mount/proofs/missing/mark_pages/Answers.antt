use Rattle.std.proofs.Common.{List, length, arith, subst, sym, ℕ}
use Rattle.nv_mount.specs.Missing.{AreMarkedTo}
use Rattle.nv_mount.proofs.Marked.{marked_all, number_in, number_within, numbers_flat}
use Rattle.nv_mount.proofs.missing.mark_pages.Goals as goal

pub mark-requires : goal.mark-requires
mark-requires c =
    let low = number_within (length c.args.marks.now.items) c.args.pages.now c.loop-k.k c.index-pages-k.result (omega arith) c.index-pages-k.is
    c.requires in
    omega (arith, low, c.number.ensures, c.loop-k.invariant.len)

pub returns : goal.returns
returns c =
    let old = c.args.marks.now.items in
    let new = c.loop-k.marks.items in
    subst (λ (ns : List ℕ). AreMarkedTo ns old new) (sym (numbers_flat c.args.pages.now))
    (marked_all number_in c.args.pages.now c.loop-k.k old new (omega arith) c.loop-k.invariant)
