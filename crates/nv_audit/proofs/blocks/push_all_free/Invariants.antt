use Rattle.std.proofs.Common.{◌≡◌, ◌++◌, drop}
use Rattle.nv_audit.specs.Blocks.{blocks_free}
use Rattle.nv_audit.proofs.blocks.push_all_free.Given as goal

abbrev pub invariant-loop-list : goal.invariant-loop-list
invariant-loop-list l = l.numbers.items ++ blocks_free (drop l.list-index l.lists) ≡ l.initial.numbers.items ++ blocks_free l.lists
