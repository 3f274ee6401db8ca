use Rattle.std.proofs.Common.{rules}
use Rattle.nv_findex.specs.Rows.{AreStarts, in_rows}
use Rattle.nv_findex.proofs.run_rows.RunRows.new.Goals as goal

pub invariant_of-result : goal.invariant_of-result
unfolding AreStarts
invariant_of-result c = search rules

pub returns : goal.returns
unfolding in_rows
returns c = search rules
