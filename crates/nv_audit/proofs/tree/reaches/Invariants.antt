use Rattle.std.proofs.Common.{◌≡◌, ◌++◌, true, ℕ, ◌<◌, length, take, get_or}
use Rattle.nv_entry.specs.declared.names.BoundName.{BoundName}
use Rattle.nv_audit.specs.Lists.{AreMarked}
use Rattle.nv_audit.specs.Tree.{IsOnce, is_node, slots_named}
use Rattle.nv_audit.proofs.tree.reaches.Given as goal

abbrev pub invariant-loop-bound : goal.invariant-loop-bound
invariant-loop-bound l = record {
  put : l.reached.items ≡ l.initial.reached.items ++ slots_named (take l.bound-index l.names);
  marked : AreMarked (length l.slots) l.reached.items l.marks.items;
  once : IsOnce l.reached.items;
  lead : (k : ℕ) (d : BoundName) → k < l.bound-index → is_node l.slots (get_or l.names k d).to ≡ true;
}
