use Rattle.nv_machine.proofs.RefusedCalls.{all_refused, refused_books}
use Rattle.nv_machine.proofs.plain_laws.refused_calls_leave_books_and_cells.Goals as goal

pub returns-clause-kept : goal.returns-clause-kept
returns-clause-kept c = refused_books

pub returns-clause-reached : goal.returns-clause-reached
returns-clause-reached c = all_refused
