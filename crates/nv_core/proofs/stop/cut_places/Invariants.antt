use Rattle.std.proofs.Common.{◌≡◌, length, take}
use Rattle.nv_core.proofs.stop.cut_places.Given as goal

abbrev pub invariant-loop-places : goal.invariant-loop-places
invariant-loop-places l = take l.count l.places.items ≡ take l.count l.initial.places.items

abbrev pub decreases-loop-places : goal.decreases-loop-places
decreases-loop-places l = length l.places.items
