use Rattle.nv_example_store.proofs.StoreLaws.{backup_made, backup_older}
use Rattle.nv_example_store.proofs.laws.a_backup_has_what_stood.Goals as goal

pub returns-clause-made : goal.returns-clause-made
returns-clause-made c = backup_made

pub returns-clause-older : goal.returns-clause-older
returns-clause-older c = backup_older
