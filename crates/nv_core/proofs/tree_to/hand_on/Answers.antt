use Rattle.nv_core.proofs.Sinks.{breaks_at, given_one, hands_one}
use Rattle.nv_core.proofs.tree_to.hand_on.Goals as goal

pub returns-in_default-node-clause-given : goal.returns-in_default-node-clause-given
returns-in_default-node-clause-given g c =
    breaks_at g.S.Sink.failed g.S.Sink.Takes g.S.Sink.Fails c.args.sink.now c.node.new.self _ _
    (given_one c.args.walk.now c.args.node c.path.result.now c.in-Some.node c.requires.next c.in-Some.is c.path.ensures)
    c.in_default-node.ensures.fails c.in_default-node.ensures.err

pub returns-clause-given : goal.returns-clause-given
returns-clause-given g c =
    hands_one g.S.Sink.failed g.S.Sink.Takes g.S.Sink.Fails c.enter.result c.args.sink.now c.node.new.self _ _
    (given_one c.args.walk.now c.args.node c.path.result.now c.in-Some.node c.requires.next c.in-Some.is c.path.ensures)
    c.in-Ok.ensures.takes c.in-Ok.ensures.ok c.enter.ensures.err
