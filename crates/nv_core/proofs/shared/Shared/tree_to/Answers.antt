use Rattle.std.proofs.Common.{arith, refl}
use Rattle.std.proofs.lemmas.Result.{err_from_is_err_and}
use Rattle.nv_calls.specs.Plain.{node_in}
use Rattle.nv_reader.specs.Walk.{given_for, visits_after}
use Rattle.nv_core.specs.Settled.{settled_nodes, tree_in}
use Rattle.nv_core.specs.Shown.{shared_of}
use Rattle.nv_core.proofs.Sinks.{stops_next, takes_next, visits_next}
use Rattle.nv_core.proofs.shared.Shared.tree_to.Goals as goal

pub loop-handle-smaller : goal.loop-handle-smaller
loop-handle-smaller g c =
    let next = visits_next (node_in (settled_nodes (shared_of c.args.self.now))) c.loop-handle.walk c.hand_on.new.walk
    c.wanted.result c.in-Some.handle c.in_ok-node.node c.wanted.ensures c.in-Some.is c.in_ok-node.ensures.ok
    c.in_ok-hand_on.ensures.left in
    omega (arith, next.fewer)

pub loop-handle-preserved : goal.loop-handle-preserved
loop-handle-preserved g c =
    let next = visits_next (node_in (settled_nodes (shared_of c.args.self.now))) c.loop-handle.walk c.hand_on.new.walk
    c.wanted.result c.in-Some.handle c.in_ok-node.node c.wanted.ensures c.in-Some.is c.in_ok-node.ensures.ok
    c.in_ok-hand_on.ensures.left in
    takes_next g.S.Sink.failed g.S.Sink.Takes g.S.Sink.Fails (node_in (settled_nodes (shared_of c.args.self.now))) c.loop-handle.walk
    c.hand_on.new.walk (given_for c.loop-handle.walk c.in_ok-node.node) next c.args.sink.now c.loop-handle.sink
    c.hand_on.new.sink (tree_in (shared_of c.args.self.now)) c.loop-handle.invariant c.in_ok-hand_on.ensures.given

pub returns-in_err-hand_on : goal.returns-in_err-hand_on
returns-in_err-hand_on g c =
    let left = visits_after c.loop-handle.walk c.in_ok-node.node in
    let next = visits_next (node_in (settled_nodes (shared_of c.args.self.now))) c.loop-handle.walk left
    c.wanted.result c.in-Some.handle c.in_ok-node.node c.wanted.ensures c.in-Some.is c.in_ok-node.ensures.ok refl in
    let p = err_from_is_err_and c.from_residual-in_err-hand_on.result c.from_residual-in_err-hand_on.ensures.1 in
    rw (p.1, p.2) (stops_next g.S.Sink.failed g.S.Sink.Takes g.S.Sink.Fails (node_in (settled_nodes (shared_of c.args.self.now)))
    c.loop-handle.walk left (given_for c.loop-handle.walk c.in_ok-node.node) next c.args.sink.now c.loop-handle.sink
    c.hand_on.new.sink (tree_in (shared_of c.args.self.now)) c.loop-handle.invariant _ c.in_err-hand_on.ensures.given)
