-- What each kind of step is lent is what the table of parts says.
use Rattle.std.proofs.Common.{ℕ, refl}
use Rattle.nv_machine.specs.Frame.{lent, lent_on}
use Rattle.nv_machine.specs.Lenders.{IsLentByTable}
use Rattle.nv_machine.specs.World.{Make, Next, Running, SnapshotOrCleanerStep, SnapshotOrCleaner}

by_step : (step : SnapshotOrCleanerStep) (cpus actor : ℕ) → IsLentByTable (SnapshotOrCleaner step) (lent_on step cpus actor)
by_step Make cpus actor = record { list = refl; pool = refl; cell = refl; lock = refl; book = refl; commit_lock = refl }
by_step other cpus actor = record { list = refl; pool = refl; cell = refl; lock = refl; book = refl; commit_lock = refl }

pub by_table : (next : Next) (cpus actor : ℕ) (r : Running) → IsLentByTable next (lent next cpus actor r)
by_table (SnapshotOrCleaner step) cpus actor r = by_step step cpus actor
by_table other cpus actor r = record { list = refl; pool = refl; cell = refl; lock = refl; book = refl; commit_lock = refl }
