use Rattle.nv_cell.specs.Cell.{IsCell}
use Rattle.nv_calls.specs.Cells.{no_cell}
use Rattle.nv_calls.proofs.BlockCounts.{commit_count}
use Rattle.nv_calls.proofs.CellCommits.{all_at}
use Rattle.nv_calls.proofs.laws.commits_keep_the_number_of_blocks.Goals as goal

pub returns : goal.returns
returns c cells now book cpu ready living can are changes =
    commit_count cells book cpu ready can living (λ k lt. all_at (λ c. IsCell c.1.state) cells no_cell k are lt) now changes
