use Rattle.std.proofs.Common.{slice_range}
use Rattle.nv_findex.specs.Runs.{IsEmptyCount}
use Rattle.nv_findex.proofs.empty_places.empty_in.Given as goal

abbrev pub invariant-loop-at : goal.invariant-loop-at
invariant-loop-at l = IsEmptyCount l.count (slice_range l.runs.items l.fn.from l.at)
