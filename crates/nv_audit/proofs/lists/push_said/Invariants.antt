use Rattle.std.proofs.Common.{◌≡◌, ◌++◌, drop}
use Rattle.nv_audit.specs.Lists.{blocks_said}
use Rattle.nv_audit.proofs.lists.push_said.Given as goal

abbrev pub invariant-loop-entry : goal.invariant-loop-entry
invariant-loop-entry l = l.used.items ++ blocks_said l.block (drop l.entry-index l.entries) ≡ l.initial.used.items ++ blocks_said l.block
    l.entries
