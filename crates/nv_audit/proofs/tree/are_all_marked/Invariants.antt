use Rattle.std.proofs.Common.{◌≡◌, true, ℕ, ◌<◌}
use Rattle.nv_audit.specs.Lists.{mark_at}
use Rattle.nv_audit.specs.Tree.{is_used, slot_at}
use Rattle.nv_audit.proofs.tree.are_all_marked.Given as goal

abbrev pub invariant-loop-slot : goal.invariant-loop-slot
invariant-loop-slot l = (n : ℕ) → n < l.slot → is_used (slot_at l.slots n) ≡ true → mark_at l.marks n ≡ true
