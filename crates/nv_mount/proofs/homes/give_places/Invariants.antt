use Rattle.std.proofs.Common.{length, flat_map}
use Rattle.std.specs.Prelude.{option_to_list}
use Rattle.nv_mount.proofs.GoingHome.{IsGoing}
use Rattle.nv_mount.proofs.homes.give_places.Given as goal

abbrev pub invariant-loop-place : goal.invariant-loop-place
invariant-loop-place l = IsGoing l.geometry.numbers (flat_map option_to_list l.initial.places.items)
    (flat_map option_to_list l.places.items) l.initial.lists.items l.lists.items

abbrev pub decreases-loop-place : goal.decreases-loop-place
decreases-loop-place l = length l.places.items
