use Rattle.nv_machine.proofs.NoNumberFree.{found_none}
use Rattle.nv_machine.proofs.plain_laws.calls_without_a_number_found_none.Goals as goal

pub returns : goal.returns
returns c = found_none
