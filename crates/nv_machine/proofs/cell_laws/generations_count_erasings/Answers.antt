use Rattle.nv_machine.proofs.ErasingsCounted.{generation_counted, made_counted, new_counted}
use Rattle.nv_machine.proofs.cell_laws.generations_count_erasings.Goals as goal

pub returns-clause-counted : goal.returns-clause-counted
returns-clause-counted c = generation_counted

pub returns-clause-new : goal.returns-clause-new
returns-clause-new c = new_counted

pub returns-clause-made : goal.returns-clause-made
returns-clause-made c = made_counted
