use Rattle.std.proofs.Common.{◌<◌, ◌≤◌, length, arith, subst, sym, ◌∙◌}
use Rattle.std.proofs.lemmas.Bool.{false≢true}
use Rattle.nv_audit.specs.Tree.{AreAllMarked}
use Rattle.nv_audit.proofs.Trees.{few_reached, marked_in_tree, new_in_tree, one_further, tree_if_marked}
use Rattle.nv_audit.proofs.tree.form_a_tree.Goals as goal

pub returns-then-not-branch-clause-ok : goal.returns-then-not-branch-clause-ok
returns-then-not-branch-clause-ok c =
    let lt : c.loop-next.next < length c.loop-next.reached.items = omega (arith, c.loop-next-test.true, c.len.ensures) in (
      λ fails. absurd (false≢true fails),
      λ tree. absurd (false≢true (sym c.if-not-branch.true ∙ c.in_ok-reaches.ensures.exact.1
          (new_in_tree c.args.slots.now c.loop-next.marks.items c.loop-next.reached.items c.loop-next.next c.index-dir.result.now
          c.loop-next.invariant lt c.index-dir.ensures tree))),
    )

pub loop-next-smaller : goal.loop-next-smaller
loop-next-smaller c =
    let few = few_reached c.args.slots.now c.loop-next.marks.items c.loop-next.reached.items c.loop-next.next c.loop-next.invariant in
    omega (arith, few, c.loop-next-test.true, c.len.ensures)

pub loop-next-preserved : goal.loop-next-preserved
loop-next-preserved c =
    let lt : c.loop-next.next < length c.loop-next.reached.items = omega (arith, c.loop-next-test.true, c.len.ensures) in
    one_further c.args.slots.now c.loop-next.marks.items c.loop-next.reached.items c.loop-next.next c.index-dir.result.now
    c.loop-next.invariant lt c.index-dir.ensures c.reaches.new.marks.items c.reaches.new.reached.items
    (c.in_ok-reaches.ensures.exact.0 c.if-not-branch.false) (c.in_ok-reaches.ensures.put c.if-not-branch.false)
    (c.in_ok-reaches.ensures.marked c.if-not-branch.false)

pub returns-clause-ok : goal.returns-clause-ok
returns-clause-ok c =
    let slots = c.args.slots.now in
    let marks = c.loop-next.marks.items in
    let ended : length c.loop-next.reached.items ≤ c.loop-next.next = omega (arith, c.loop-next-test.false, c.len.ensures) in (
      λ t. tree_if_marked slots marks c.loop-next.reached.items c.loop-next.next c.loop-next.invariant ended
          (subst (AreAllMarked slots) c.deref.ensures.value (c.are_all_marked.ensures.0 t)),
      λ tree. c.are_all_marked.ensures.1 (subst (AreAllMarked slots) (sym c.deref.ensures.value)
          (marked_in_tree slots marks c.loop-next.reached.items c.loop-next.next c.loop-next.invariant ended tree)),
    )
