use Rattle.std.proofs.Common.{◌≡◌, ◌++◌, drop}
use Rattle.std.specs.List.{flat_map}
use Rattle.nv_cell.specs.Cell.{of_part}
use Rattle.nv_audit.proofs.blocks.push_places.Given as goal

abbrev pub invariant-loop-place : goal.invariant-loop-place
invariant-loop-place l =
    l.numbers.items ++ flat_map of_part (drop l.place-index l.places) ≡ l.initial.numbers.items ++ flat_map of_part l.places
