use Rattle.nv_machine.proofs.StepRows.{changes_made, cleaners_made, on_snapshots_made, readers_made}
use Rattle.nv_machine.proofs.row_laws.calls_make_these_steps.Goals as goal

pub returns-clause-changes : goal.returns-clause-changes
returns-clause-changes c = changes_made

pub returns-clause-readers : goal.returns-clause-readers
returns-clause-readers c = readers_made

pub returns-clause-snapshots : goal.returns-clause-snapshots
returns-clause-snapshots c = on_snapshots_made

pub returns-clause-cleaners : goal.returns-clause-cleaners
returns-clause-cleaners c = cleaners_made
