use Rattle.nv_machine.proofs.WorldFacts.{sorted}
use Rattle.nv_machine.proofs.laws.lists_are_sorted.Goals as goal

pub returns : goal.returns
returns c = sorted
