use Rattle.std.proofs.Common.{◌≡◌, length}
use Rattle.nv_alloc.proofs.ZeroBlocks.{changed}
use Rattle.nv_core.specs.Restarts.{cleared}
use Rattle.nv_core.proofs.restart.clear_lists.Given as goal

abbrev pub invariant-loop-cpu : goal.invariant-loop-cpu
invariant-loop-cpu l = record {
  items : l.lists.items ≡ changed cleared l.cpu l.initial.lists.items;
  len : length l.lists.items ≡ length l.initial.lists.items;
}
