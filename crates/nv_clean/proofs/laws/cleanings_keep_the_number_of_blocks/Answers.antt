use Rattle.nv_clean.proofs.BlockCounts.{fast_count, thorough_count}
use Rattle.nv_clean.proofs.laws.cleanings_keep_the_number_of_blocks.Goals as goal

pub returns-clause-fast : goal.returns-clause-fast
returns-clause-fast c = fast_count

pub returns-clause-thorough : goal.returns-clause-thorough
returns-clause-thorough c = thorough_count
