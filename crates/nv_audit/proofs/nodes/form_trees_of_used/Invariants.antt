use Rattle.std.proofs.Common.{ℕ, ◌<◌, get_or}
use Rattle.nv_entry.specs.declared.value.When.TheVariants.{At}
use Rattle.nv_audit.specs.Logged.{slots_of}
use Rattle.nv_audit.specs.Tree.{IsTree}
use Rattle.nv_audit.proofs.nodes.form_trees_of_used.Given as goal

abbrev pub invariant-loop-snapshot : goal.invariant-loop-snapshot
invariant-loop-snapshot l = (k : ℕ) (d : ℕ) → k < l.snapshot-index → IsTree (slots_of (At (get_or l.snapshots k d)) l.logs)
