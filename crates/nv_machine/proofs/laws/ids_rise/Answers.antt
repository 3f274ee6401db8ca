use Rattle.nv_machine.proofs.LogsInOrder.{events_order, new_order}
use Rattle.nv_machine.proofs.StartParts.{first_order}
use Rattle.nv_machine.proofs.laws.ids_rise.Goals as goal

pub returns-clause-new : goal.returns-clause-new
returns-clause-new c = new_order

pub returns-clause-start : goal.returns-clause-start
returns-clause-start c = first_order

pub returns-clause-stays : goal.returns-clause-stays
returns-clause-stays c = events_order
