use Rattle.std.proofs.Common.{◌≡◌, ℕ, ◌<◌, not}
use Rattle.nv_alloc.specs.Numbers.{has}
use Rattle.nv_audit.specs.Pool.{is_used}
use Rattle.nv_audit.specs.Records.{states_of}
use Rattle.nv_audit.proofs.pool.are_unused.Given as goal

abbrev pub invariant-loop-number : goal.invariant-loop-number
invariant-loop-number l = (n : ℕ) → n < l.number → has l.pool.numbers n ≡ not (is_used (states_of l.cells) n)
