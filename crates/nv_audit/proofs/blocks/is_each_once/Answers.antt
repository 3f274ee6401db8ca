use Rattle.std.proofs.Common.{subst, sym}
use Rattle.std.proofs.lemmas.Bool.{false≢true}
use Rattle.nv_audit.specs.Blocks.{AreAllSet, AreMarksOnce}
use Rattle.nv_audit.proofs.EachOnce.{each_if_set, each_once_below, set_if_each}
use Rattle.nv_audit.proofs.blocks.is_each_once.Goals as goal

pub returns-in-Some : goal.returns-in-Some
returns-in-Some c =
    let blocks = c.args.blocks in
    let numbers = c.args.numbers.now in
    let marks = c.in-Some.marks.items in
    let are : AreMarksOnce blocks numbers marks = rw c.in-Some.is at c.in_ok-once.ensures in (
      λ t. each_if_set blocks numbers marks are (subst AreAllSet c.deref.ensures.value (c.are_all_set.ensures.0 t)),
      λ each. c.are_all_set.ensures.1 (subst AreAllSet (sym c.deref.ensures.value) (set_if_each blocks numbers marks are each)),
    )

pub returns-in-None : goal.returns-in-None
returns-in-None c = (
  λ no. absurd (false≢true no),
  λ each. absurd ((rw c.in-None.is at c.in_ok-once.ensures) (each_once_below c.args.blocks c.args.numbers.now each)),
)
