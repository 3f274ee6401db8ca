use Rattle.std.proofs.Common.{◌≡◌, map, take}
use Rattle.nv_alloc.specs.Block.{numbers_of}
use Rattle.nv_alloc.specs.FreeList.{FreeBlocks}
use Rattle.nv_alloc.specs.Runs.{free_runs_of}
use Rattle.nv_core.proofs.world.World.lists.Given as goal

abbrev pub invariant-loop-list : goal.invariant-loop-list
invariant-loop-list l =
    l.lists.items ≡ map (λ (list : FreeBlocks). free_runs_of (numbers_of list.blocks)) (take l.list-index l.self.shared.lists.items)
