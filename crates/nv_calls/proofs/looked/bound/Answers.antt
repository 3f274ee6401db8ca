use Rattle.std.proofs.Common.{◌∙◌}
use Rattle.nv_calls.proofs.Looking.{finds}
use Rattle.nv_calls.proofs.looked.bound.Goals as goal

pub returns : goal.returns
returns g c = c.lookup.ensures ∙ finds (g.N.Nodes.nodes_of c.args.nodes.now) c.args.dir.now c.args.name.now c.requires
