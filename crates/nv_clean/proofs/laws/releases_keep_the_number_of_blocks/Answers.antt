use Rattle.nv_clean.proofs.BlockCounts.{release_count}
use Rattle.nv_clean.proofs.laws.releases_keep_the_number_of_blocks.Goals as goal

pub returns : goal.returns
returns c = release_count
