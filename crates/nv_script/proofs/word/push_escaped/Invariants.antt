use Rattle.std.proofs.Common.{◌≡◌, ◌++◌, length}
use Rattle.nv_script.specs.Words.{escaped}
use Rattle.nv_script.proofs.word.push_escaped.Given as goal

abbrev pub invariant-loop-rest : goal.invariant-loop-rest
invariant-loop-rest l = l.out.items ++ escaped l.rest ≡ l.fn.out.items ++ escaped l.bytes

abbrev pub decreases-loop-rest : goal.decreases-loop-rest
decreases-loop-rest l = length l.rest
