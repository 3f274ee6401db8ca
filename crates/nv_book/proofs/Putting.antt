-- Lemmas that the check tries by itself, at functions that name them.
use Rattle.nv_book.proofs.Ends.{put-apart, put-length}
use Rattle.nv_book.proofs.Series.{count-runs, put-runs}

-- for a list that gets a run
pub ruleset put_laws = (put-apart, put-length, put-runs)

-- for how many runs records are stored as
pub ruleset count_laws = (count-runs)
