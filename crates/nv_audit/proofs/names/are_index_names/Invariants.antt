use Rattle.std.proofs.Common.{ℕ, ◌<◌, List, get_or}
use Rattle.nv_nindex.specs.declared.binding.Binding.{Binding}
use Rattle.nv_audit.specs.Names.{IsNameOf}
use Rattle.nv_audit.proofs.names.are_index_names.Given as goal

abbrev pub invariant-loop-place : goal.invariant-loop-place
invariant-loop-place l = (k : ℕ) (d : List ℕ × Binding) → k < l.place → IsNameOf l.bound.entries l.index.names (get_or l.index.names k d).0
