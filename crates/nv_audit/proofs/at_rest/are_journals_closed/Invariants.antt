use Rattle.std.proofs.Common.{◌≡◌, ℕ, ◌<◌, [], slice_index_or}
use Rattle.nv_audit.proofs.at_rest.are_journals_closed.Given as goal

abbrev pub invariant-loop-cpu : goal.invariant-loop-cpu
invariant-loop-cpu l = (cpu : ℕ) → cpu < l.cpu → slice_index_or l.book.state.journals cpu [] ≡ []
