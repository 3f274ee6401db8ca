use Rattle.std.proofs.Common.{◌≡◌, ◌∷◌, [], List, Some, length, drop, ap, arith, subst, sym, ◌∙◌}
use Rattle.std.specs.List.{slice_get}
use Rattle.nv_alloc.specs.Block.{BlockValue}
use Rattle.nv_alloc.specs.Queue.{QueueValue}
use Rattle.nv_mount.proofs.GoingHome.{IsGoing, going_next, not_home}
use Rattle.nv_mount.proofs.homes.give_queue.Goals as goal
use Rattle.nv_mount.proofs.homes.give_queue.Goals.{In-Some}

-- a list begins with its first block
begins : (b : BlockValue) (bs : List BlockValue) → Some b ≡ slice_get bs 0 → bs ≡ b ∷ drop 1 bs
begins b [] is = cc
begins b (x ∷ bs) is = cc

module _ (c : In-Some) where
  blocks : c.loop-block.blocks.blocks ≡ c.in-Some.block ∷ c.take_next.new.self.blocks
  blocks =
      begins c.in-Some.block c.loop-block.blocks.blocks c.in-Some.ensures.block
      ∙ ap (λ (bs : List BlockValue). c.in-Some.block ∷ bs) (sym (ap (λ (q : QueueValue). q.blocks) c.in-Some.ensures.rest))

  next : IsGoing c.args.geometry.now.numbers c.args.blocks.now.blocks (c.in-Some.block ∷ c.take_next.new.self.blocks) c.args.lists.now.items
      c.loop-block.lists.items
  next =
      subst (λ (bs : List BlockValue). IsGoing c.args.geometry.now.numbers c.args.blocks.now.blocks bs c.args.lists.now.items c.loop-block.lists.items)
      blocks c.loop-block.invariant.going

pub give_home-requires-clause-absent : goal.give_home-requires-clause-absent
give_home-requires-clause-absent c =
    not_home c.args.geometry.now.numbers c.in-Some.block c.take_next.new.self.blocks c.loop-block.lists.items
    (next (goal.at.give_home-requires-clause-absent c).In-Some).can

pub loop-block-preserved : goal.loop-block-preserved
loop-block-preserved c =
    let here = (goal.at.loop-block-preserved c).In-Some in
    record {
      going =
          going_next c.args.geometry.now.numbers c.args.blocks.now.blocks c.in-Some.block c.take_next.new.self.blocks c.args.lists.now.items
          c.loop-block.lists.items c.give_home.new.lists.items (omega (arith, c.args.geometry.now.limits.some_cpus)) (next here)
          c.give_home.ensures.lists c.give_home.ensures.still;
      size = ap (λ (q : QueueValue). q.size) c.in-Some.ensures.rest ∙ c.loop-block.invariant.size;
      room = omega (
        arith,
        ap (λ (q : QueueValue). q.room) c.in-Some.ensures.rest,
        ap length (blocks here),
        c.loop-block.invariant.room,
      );
    }
