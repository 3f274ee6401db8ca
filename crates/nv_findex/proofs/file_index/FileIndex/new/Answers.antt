use Rattle.std.proofs.Common.{refl, arith}
use Rattle.nv_findex.specs.Runs.{AreRunsFrom, EmptyFollow}
use Rattle.nv_findex.proofs.file_index.FileIndex.new.Goals as goal

pub invariant_of-result : goal.invariant_of-result
unfolding AreRunsFrom EmptyFollow
invariant_of-result c = rw c.new.ensures (record { runs = tt; empty = tt }, omega arith, refl)
