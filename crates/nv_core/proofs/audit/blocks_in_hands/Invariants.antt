use Rattle.std.proofs.Common.{◌≡◌, ◌++◌, drop}
use Rattle.std.specs.List.{flat_map}
use Rattle.nv_core.specs.Audited.{blocks_by}
use Rattle.nv_core.proofs.audit.blocks_in_hands.Given as goal

abbrev pub invariant-loop-actor : goal.invariant-loop-actor
invariant-loop-actor l = l.blocks.items ++ flat_map blocks_by (drop l.actor-index l.actors) ≡ flat_map blocks_by l.actors
