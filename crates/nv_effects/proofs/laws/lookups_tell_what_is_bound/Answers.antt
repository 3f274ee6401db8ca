use Rattle.nv_effects.proofs.Visits.{lookup_found, lookup_missing}
use Rattle.nv_effects.proofs.laws.lookups_tell_what_is_bound.Goals as goal

pub returns-clause-found : goal.returns-clause-found
returns-clause-found c = lookup_found

pub returns-clause-missing : goal.returns-clause-missing
returns-clause-missing c = lookup_missing
