use Rattle.nv_calls.specs.Plain.{node_in}
use Rattle.nv_reader.specs.Walk.{to_come, visits_to_come}
use Rattle.nv_core.specs.Settled.{settled_nodes, tree_in}
use Rattle.nv_core.specs.Shown.{shared_of}
use Rattle.nv_core.proofs.Sinks.{HasTaken}
use Rattle.nv_core.proofs.shared.Shared.tree_to.Given as goal

abbrev pub invariant-loop-handle : goal.invariant-loop-handle
invariant-loop-handle g l =
    HasTaken g.S.Sink.failed g.S.Sink.Takes g.S.Sink.Fails l.fn.sink (tree_in (shared_of l.self)) l.sink
    (to_come (node_in (settled_nodes (shared_of l.self))) l.walk)

abbrev pub decreases-loop-handle : goal.decreases-loop-handle
decreases-loop-handle g l = visits_to_come (node_in (settled_nodes (shared_of l.self))) l.walk
