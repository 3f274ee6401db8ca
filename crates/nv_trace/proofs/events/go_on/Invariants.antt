use Rattle.std.proofs.Common.{◌-◌, ◌≤◌}
use Rattle.nv_core.specs.Worlds.{Leads}
use Rattle.nv_trace.specs.Traced.{Adds, HasMovedTraced}
use Rattle.nv_trace.proofs.events.go_on.Given as goal

abbrev pub invariant-loop-reply : goal.invariant-loop-reply
invariant-loop-reply l = record {
  few : l.left ≤ l.more;
  moved : Leads (λ m n. Adds l.fn.out.items l.out.items (λ events. HasMovedTraced l.trace l.number (l.more - l.left) l.actor events m n))
      l.fn.world l.world;
}

abbrev pub decreases-loop-reply : goal.decreases-loop-reply
decreases-loop-reply l = l.left
