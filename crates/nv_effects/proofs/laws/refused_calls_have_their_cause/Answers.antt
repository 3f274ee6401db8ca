use Rattle.nv_effects.proofs.Causes.{refused_cause, refused_cause_on, roomy_told}
use Rattle.nv_effects.proofs.laws.refused_calls_have_their_cause.Goals as goal

pub returns-clause-refused : goal.returns-clause-refused
returns-clause-refused c = refused_cause

pub returns-clause-snapshots : goal.returns-clause-snapshots
returns-clause-snapshots c = refused_cause_on

pub returns-clause-roomy : goal.returns-clause-roomy
returns-clause-roomy c = roomy_told
