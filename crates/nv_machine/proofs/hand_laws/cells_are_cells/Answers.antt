use Rattle.nv_machine.proofs.WorldFacts.{are_cells, have_bytes}
use Rattle.nv_machine.proofs.hand_laws.cells_are_cells.Goals as goal

pub returns-clause-is : goal.returns-clause-is
returns-clause-is c = are_cells

pub returns-clause-own : goal.returns-clause-own
returns-clause-own c = have_bytes
