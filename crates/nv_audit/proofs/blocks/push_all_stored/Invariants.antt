use Rattle.std.proofs.Common.{◌≡◌, ◌++◌, drop}
use Rattle.std.specs.List.{flat_map}
use Rattle.nv_cell.specs.Cell.{stored_in}
use Rattle.nv_audit.specs.Records.{states_of}
use Rattle.nv_audit.proofs.blocks.push_all_stored.Given as goal

abbrev pub invariant-loop-cell : goal.invariant-loop-cell
invariant-loop-cell l =
    l.numbers.items ++ flat_map stored_in (drop l.cell-index (states_of l.cells))
    ≡ l.initial.numbers.items ++ flat_map stored_in (states_of l.cells)
