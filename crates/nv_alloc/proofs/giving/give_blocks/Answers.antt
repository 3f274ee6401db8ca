use Rattle.std.proofs.Common.{◌<◌, length, sym, ◌∙◌, arith}
use Rattle.std.proofs.lemmas.List.{append-nil}
use Rattle.nv_alloc.proofs.GivingLemmas.{underway}
use Rattle.nv_alloc.proofs.giving.give_blocks.Goals as goal
use Rattle.nv_alloc.proofs.giving.give_blocks.Goals.{then-takes, else-takes}

pub loop-preserved : goal.loop-preserved
loop-preserved c =
    let lt : c.loop.counter < length c.args.blocks.now.items = omega arith in
    let moved = underway c.args.blocks.now.items c.args.list.now c.loop.list c.loop.blocks.items c.pop_front.new.self.items c.loop.counter
    c.in-Some.block lt c.loop.invariant.moved c.in-Some.ensures.items in
    elim c.if-takes.branch [
      | then-takes w ↦ record {
        moved = rw (w.blocks-is, w.list-is, w.give.ensures) (simp (sym c.takes.ensures ∙ w.if-takes.true, append-nil) at moved);
        capacity = rw w.blocks-is (omega arith);
        left = rw w.blocks-is (omega (arith, c.in-Some.ensures.cases));
      }
      | else-takes w ↦ record {
        moved = rw (w.blocks-is, w.list-is, w.push_back_reserved.ensures.items) (simp (sym c.takes.ensures ∙ w.if-takes.false) at moved);
        capacity = rw w.blocks-is (omega arith);
        left = rw w.blocks-is (omega (arith, c.in-Some.ensures.cases));
      }
    ]
