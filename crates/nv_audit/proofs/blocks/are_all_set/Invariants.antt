use Rattle.std.proofs.Common.{◌≡◌, true, ℕ, ◌<◌}
use Rattle.nv_audit.specs.Lists.{mark_at}
use Rattle.nv_audit.proofs.blocks.are_all_set.Given as goal

abbrev pub invariant-loop-place : goal.invariant-loop-place
invariant-loop-place l = (n : ℕ) → n < l.place → mark_at l.marks n ≡ true
