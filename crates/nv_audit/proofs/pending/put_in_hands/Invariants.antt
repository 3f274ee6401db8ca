use Rattle.std.proofs.Common.{ℕ, take}
use Rattle.nv_audit.specs.Pending.{HaveMore, of_inode}
use Rattle.nv_audit.proofs.pending.put_in_hands.Given as goal

abbrev pub invariant-loop-part : goal.invariant-loop-part
invariant-loop-part l = HaveMore (λ (ino : ℕ). of_inode ino (take l.part-index l.parts)) l.initial.lists.items l.lists.items
