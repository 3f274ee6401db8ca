use Rattle.nv_machine.proofs.CheckOrder.{refused_anew, refused_in_order}
use Rattle.nv_machine.proofs.step_laws.checks_refuse_in_order.Goals as goal

pub returns-clause-anew : goal.returns-clause-anew
returns-clause-anew c = refused_anew

pub returns-clause-found : goal.returns-clause-found
returns-clause-found c = refused_in_order
