use Rattle.nv_machine.proofs.OpenJournals.{journal_open, journals_closed}
use Rattle.nv_machine.proofs.book_laws.open_journals_are_the_actors.Goals as goal

pub returns-clause-open : goal.returns-clause-open
returns-clause-open c = journal_open

pub returns-clause-closed : goal.returns-clause-closed
returns-clause-closed c = journals_closed
