use Rattle.std.proofs.Common.{◌≡◌, map, take}
use Rattle.nv_calls.specs.Ready.{old_tail}
use Rattle.nv_calls.proofs.journal.tails_of.Given as goal

abbrev pub invariant-loop-plan : goal.invariant-loop-plan
invariant-loop-plan g l = record {
  items : l.tails.items ≡ map (old_tail (g.C.Cells.cells l.cells)) (take l.plan-index l.plans);
  capacity : l.tails.capacity ≡ 4;
}
