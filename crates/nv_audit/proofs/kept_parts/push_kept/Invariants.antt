use Rattle.std.proofs.Common.{◌≡◌, ◌++◌, drop, map}
use Rattle.nv_audit.specs.KeptParts.{is_marked_as_kept}
use Rattle.nv_audit.proofs.kept_parts.push_kept.Given as goal

abbrev pub invariant-loop-mark : goal.invariant-loop-mark
invariant-loop-mark l = l.left.items ++ map is_marked_as_kept (drop l.mark-index l.marks) ≡ l.initial.left.items ++ map is_marked_as_kept l.marks
