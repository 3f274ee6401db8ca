use Rattle.nv_alloc.proofs.GivingLemmas.{AreSized-kept}
use Rattle.nv_alloc.proofs.queue.BlockQueue.give_blocks.Goals as goal

pub invariant_of-self : goal.invariant_of-self
invariant_of-self c = rw c.give_blocks.ensures.kept
    (AreSized-kept c.self.inside.size c.args.list.now c.self.inside.blocks.items c.self.invariant)
