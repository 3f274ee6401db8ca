use Rattle.std.proofs.Common.{◌≡◌, ◌++◌, drop}
use Rattle.std.specs.List.{flat_map}
use Rattle.nv_core.specs.Audited.{parts_by}
use Rattle.nv_core.proofs.audit.parts_in_hands.Given as goal

abbrev pub invariant-loop-actor : goal.invariant-loop-actor
invariant-loop-actor l = l.parts.items ++ flat_map parts_by (drop l.actor-index l.actors) ≡ flat_map parts_by l.actors
