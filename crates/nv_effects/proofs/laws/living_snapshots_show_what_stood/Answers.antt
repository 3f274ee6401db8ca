use Rattle.nv_effects.proofs.LivingSnapshots.{calls_show, show_tells, show_told, snap_told}
use Rattle.nv_effects.proofs.laws.living_snapshots_show_what_stood.Goals as goal

pub returns-clause-new : goal.returns-clause-new
returns-clause-new c = snap_told

pub returns-clause-later : goal.returns-clause-later
returns-clause-later c = calls_show

pub returns-clause-shown : goal.returns-clause-shown
returns-clause-shown c = show_told

pub returns-clause-tells : goal.returns-clause-tells
returns-clause-tells c = show_tells
