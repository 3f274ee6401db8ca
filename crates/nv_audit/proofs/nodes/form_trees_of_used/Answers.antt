use Rattle.std.proofs.Common.{ℕ}
use Rattle.nv_entry.specs.declared.value.When.TheVariants.{At}
use Rattle.nv_audit.specs.Logged.{slots_of}
use Rattle.nv_audit.specs.Tree.{IsTree}
use Rattle.nv_audit.proofs.Loops.{one_more}
use Rattle.nv_audit.proofs.nodes.form_trees_of_used.Goals as goal

pub loop-snapshot-preserved : goal.loop-snapshot-preserved
loop-snapshot-preserved c =
    one_more (λ (s : ℕ). IsTree (slots_of (At s) c.args.logs.now)) c.args.snapshots.now c.loop-snapshot.snapshot-index
    c.snapshot-item.result c.in_ok-at.at c.loop-snapshot-test.true c.snapshot-item.is
    c.in_ok-at.ensures.ok.0 c.if-not-at.false c.loop-snapshot.invariant
