use Rattle.nv_reader.specs.Walk.{to_come, visits_to_come}
use Rattle.nv_core.specs.Settled.{settled_copies, tree_at}
use Rattle.nv_core.specs.Shown.{shared_of}
use Rattle.nv_core.proofs.Sinks.{HasTaken}
use Rattle.nv_core.proofs.shared.Shared.tree_at_to.Given as goal

abbrev pub invariant-loop-handle : goal.invariant-loop-handle
invariant-loop-handle g l =
    HasTaken g.S.Sink.failed g.S.Sink.Takes g.S.Sink.Fails l.fn.sink (tree_at l.epoch (shared_of l.self)) l.sink
    (to_come (settled_copies (shared_of l.self) l.epoch) l.walk)

abbrev pub decreases-loop-handle : goal.decreases-loop-handle
decreases-loop-handle g l = visits_to_come (settled_copies (shared_of l.self) l.epoch) l.walk
