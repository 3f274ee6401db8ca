use Rattle.std.proofs.Common.{◌≡◌, ◌≤◌, take}
use Rattle.std.specs.List.{sum_by}
use Rattle.nv_core.specs.Picked.{picked_of}
use Rattle.nv_core.proofs.reports.picked_blocks.Given as goal

abbrev pub invariant-loop-actor : goal.invariant-loop-actor
invariant-loop-actor l = (l.count ≡ sum_by picked_of (take l.actor-index l.actors)) × (l.count ≤ l.actor-index)
