use Rattle.nv_effects.proofs.Visits.{created_found, directory_found}
use Rattle.nv_effects.proofs.laws.what_was_made_is_found.Goals as goal

pub returns-clause-file : goal.returns-clause-file
returns-clause-file c = created_found

pub returns-clause-directory : goal.returns-clause-directory
returns-clause-directory c = directory_found
