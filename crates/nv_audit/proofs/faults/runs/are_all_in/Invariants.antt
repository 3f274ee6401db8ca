use Rattle.std.proofs.Common.{◌≡◌, ℕ, ◌<◌, true, get_or}
use Rattle.nv_alloc.specs.Numbers.{has}
use Rattle.nv_audit.proofs.faults.runs.are_all_in.Given as goal

abbrev pub invariant-loop-number : goal.invariant-loop-number
invariant-loop-number l = (k d : ℕ) → k < l.number-index → has l.present (get_or l.numbers k d) ≡ true
