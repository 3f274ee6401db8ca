use Rattle.std.proofs.Common.{◌≡◌, ℕ, ◌<◌, false, slice_index_or}
use Rattle.nv_audit.proofs.kept_parts.are_none_left.Given as goal

abbrev pub invariant-loop-kept : goal.invariant-loop-kept
invariant-loop-kept l = (n : ℕ) → n < l.kept-index → slice_index_or l.left n false ≡ false
