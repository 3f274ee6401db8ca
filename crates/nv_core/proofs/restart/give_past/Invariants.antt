use Rattle.std.proofs.Common.{◌≡◌, length, map, take}
use Rattle.nv_alloc.specs.Block.{zeroed}
use Rattle.nv_mount.proofs.GoingHome.{IsGoing}
use Rattle.nv_core.specs.Restarts.{blocks_past}
use Rattle.nv_core.proofs.restart.give_past.Given as goal

abbrev pub invariant-loop-places : goal.invariant-loop-places
invariant-loop-places l = record {
  going : IsGoing l.geometry.numbers (map zeroed (blocks_past l.count l.initial.places.items)) (map zeroed (blocks_past l.count l.places.items))
      l.initial.lists.items l.lists.items;
  first : take l.count l.places.items ≡ take l.count l.initial.places.items;
}

abbrev pub decreases-loop-places : goal.decreases-loop-places
decreases-loop-places l = length l.places.items
