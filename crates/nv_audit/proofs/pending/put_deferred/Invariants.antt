use Rattle.std.proofs.Common.{ℕ, take}
use Rattle.nv_audit.specs.Pending.{HaveMore, deferred_of}
use Rattle.nv_audit.proofs.pending.put_deferred.Given as goal

abbrev pub invariant-loop-gone : goal.invariant-loop-gone
invariant-loop-gone l = HaveMore (λ (ino : ℕ). deferred_of ino (take l.gone-index l.deferred)) l.initial.lists.items l.lists.items
