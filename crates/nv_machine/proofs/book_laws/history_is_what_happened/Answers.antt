use Rattle.nv_machine.proofs.Histories.{history_told}
use Rattle.nv_machine.proofs.book_laws.history_is_what_happened.Goals as goal

pub returns : goal.returns
returns c = history_told
