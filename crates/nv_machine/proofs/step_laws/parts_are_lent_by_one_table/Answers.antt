use Rattle.nv_machine.proofs.Lenders.{by_table}
use Rattle.nv_machine.proofs.step_laws.parts_are_lent_by_one_table.Goals as goal

pub returns : goal.returns
returns c = by_table
