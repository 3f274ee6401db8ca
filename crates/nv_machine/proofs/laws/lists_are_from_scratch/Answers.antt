use Rattle.nv_machine.proofs.WorldFacts.{scanned}
use Rattle.nv_machine.proofs.laws.lists_are_from_scratch.Goals as goal

pub returns : goal.returns
returns c = scanned
