use Rattle.nv_effects.proofs.Drained.{calls_drop, calls_snap}
use Rattle.nv_effects.proofs.laws.makings_and_drops_change_snapshots_alone.Goals as goal

pub returns-clause-made : goal.returns-clause-made
returns-clause-made c = calls_snap

pub returns-clause-dropped : goal.returns-clause-dropped
returns-clause-dropped c = calls_drop
