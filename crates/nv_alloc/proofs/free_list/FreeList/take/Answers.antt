use Rattle.std.proofs.Common.{◌≡◌, ◌+◌, ◌-◌, ◌∷◌, [], take, drop, arith, sym, ap, ◌∙◌, append_assoc}
use Rattle.nv_alloc.specs.FreeList.{FreeBlocks}
use Rattle.nv_alloc.proofs.GivingLemmas.{cut_more}
use Rattle.nv_alloc.proofs.free_list.FreeList.take.Goals as goal

pub loop-preserved : goal.loop-preserved
loop-preserved c =
    let first : drop c.loop.counter c.args.self.now.blocks ≡ c.take_lowest-block.result ∷ c.take_lowest-block.new.self.blocks = sym (ap
    (λ (list : FreeBlocks). list.blocks) c.loop.invariant.list) ∙ c.take_lowest-block.ensures.lowest in
    let more = cut_more c.loop.counter c.args.self.now.blocks c.take_lowest-block.result c.take_lowest-block.new.self.blocks first in
    let room : c.args.queue.now.room - c.loop.counter - 1 ≡ c.args.queue.now.room - (c.loop.counter + 1) = omega arith in
    let items = append_assoc c.args.queue.now.blocks (take c.loop.counter c.args.self.now.blocks) (c.take_lowest-block.result ∷ []) in
    record {
      list = rw more.0 (c.take_lowest-block.ensures.rest
          ∙ ap (λ (list : FreeBlocks). record list { blocks = c.take_lowest-block.new.self.blocks }) c.loop.invariant.list);
      queue = rw (more.1, c.put.ensures, c.loop.invariant.queue)
          (λ i. record { blocks = items i; size = c.args.queue.now.size; room = room i });
    }
