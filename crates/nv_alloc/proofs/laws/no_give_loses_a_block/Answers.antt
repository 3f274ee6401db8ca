use Rattle.nv_alloc.proofs.Counts.{given_count, hand_count}
use Rattle.nv_alloc.proofs.laws.no_give_loses_a_block.Goals as goal

pub returns-clause-queue : goal.returns-clause-queue
returns-clause-queue c = given_count

pub returns-clause-hand : goal.returns-clause-hand
returns-clause-hand c = hand_count
