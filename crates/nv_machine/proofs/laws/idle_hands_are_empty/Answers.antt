use Rattle.nv_machine.proofs.WorldFacts.{idle_nothing}
use Rattle.nv_machine.proofs.laws.idle_hands_are_empty.Goals as goal

pub returns : goal.returns
returns c = idle_nothing
