use Rattle.nv_core.proofs.shared.Shared.snapshot_node.Goals as goal

pub returns-clause-ok : goal.returns-clause-ok
returns-clause-ok c = rw (← c.requires.settled c.args.handle.now) c.node_at.ensures.ok
