use Rattle.std.proofs.Common.{◌≡◌, ◌++◌, drop, flat_map, replicate}
use Rattle.nv_mount.proofs.GoingHome.{IsGoing}
use Rattle.nv_core.specs.Formats.{idle_actor}
use Rattle.nv_core.specs.Restarts.{held}
use Rattle.nv_core.proofs.restart.empty_hands.Given as goal

abbrev pub invariant-loop-k : goal.invariant-loop-k
invariant-loop-k l = record {
  actors : l.actors.items ≡ replicate l.k (idle_actor l.geometry.numbers) ++ drop l.k l.initial.actors.items;
  going : IsGoing l.geometry.numbers (flat_map held l.initial.actors.items) (flat_map held (drop l.k l.initial.actors.items))
      l.initial.lists.items l.lists.items;
}
