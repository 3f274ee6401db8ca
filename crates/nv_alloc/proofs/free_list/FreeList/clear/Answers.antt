use Rattle.std.proofs.Common.{refl}
use Rattle.std.proofs.lemmas.List.{length-map}
use Rattle.nv_alloc.proofs.ZeroBlocks.{present-cleared, shelf_cleared}
use Rattle.nv_alloc.proofs.free_list.FreeList.clear.Goals as goal

pub invariant_of-self : goal.invariant_of-self
invariant_of-self c = rw c.clear_slots.ensures (shelf_cleared c.self.invariant)

pub returns : goal.returns
returns c =
    rw (← c.self.view_is, c.clear_slots.ensures, length-map, present-cleared) refl
