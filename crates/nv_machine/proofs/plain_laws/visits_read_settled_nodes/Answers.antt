use Rattle.nv_machine.proofs.VisitsRead.{visit_answers, visit_same}
use Rattle.nv_machine.proofs.plain_laws.visits_read_settled_nodes.Goals as goal

pub returns-clause-reads : goal.returns-clause-reads
returns-clause-reads c = λ w taken call logs. visit_same w logs taken call

pub returns-clause-answers : goal.returns-clause-answers
returns-clause-answers c = visit_answers
