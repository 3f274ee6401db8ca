use Rattle.std.proofs.Common.{◌≡◌, ◌++◌}
use Rattle.nv_reader.specs.Walk.{to_come, visits_to_come}
use Rattle.nv_core.specs.Settled.{settled_copies, tree_at}
use Rattle.nv_core.specs.Shown.{shared_of}
use Rattle.nv_core.proofs.shared.Shared.tree_at.Given as goal

abbrev pub invariant-loop-handle : goal.invariant-loop-handle
invariant-loop-handle l =
    l.shown.items ++ to_come (settled_copies (shared_of l.self) l.epoch) l.walk ≡ tree_at l.epoch (shared_of l.self)

abbrev pub decreases-loop-handle : goal.decreases-loop-handle
decreases-loop-handle l = visits_to_come (settled_copies (shared_of l.self) l.epoch) l.walk
