use Rattle.nv_machine.proofs.LowestTaken.{data_taken, fresh_taken, number_taken, pages_taken}
use Rattle.nv_machine.proofs.laws.the_lowest_are_taken.Goals as goal

pub returns-clause-blocks : goal.returns-clause-blocks
returns-clause-blocks c = data_taken

pub returns-clause-fresh : goal.returns-clause-fresh
returns-clause-fresh c = fresh_taken

pub returns-clause-number : goal.returns-clause-number
returns-clause-number c = number_taken

pub returns-clause-pages : goal.returns-clause-pages
returns-clause-pages c = pages_taken
