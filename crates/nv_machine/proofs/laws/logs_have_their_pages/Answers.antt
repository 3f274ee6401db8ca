use Rattle.nv_machine.proofs.WorldFacts.{hands_paged, logs_paged}
use Rattle.nv_machine.proofs.laws.logs_have_their_pages.Goals as goal

pub returns-clause-pages : goal.returns-clause-pages
returns-clause-pages c = logs_paged

pub returns-clause-hands : goal.returns-clause-hands
returns-clause-hands c = hands_paged
