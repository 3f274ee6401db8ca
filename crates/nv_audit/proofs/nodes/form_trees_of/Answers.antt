use Rattle.nv_audit.proofs.UsedSlots.{told_of_all}
use Rattle.nv_audit.proofs.nodes.form_trees_of.Goals as goal

pub returns-clause-ok : goal.returns-clause-ok
returns-clause-ok c =
    told_of_all c.args.logs.now c.slots_in_use-used.result c.args.snapshots.now c.form_trees_of_used.result
    c.slots_in_use-used.ensures.unused c.form_trees_of_used.ensures.ok
