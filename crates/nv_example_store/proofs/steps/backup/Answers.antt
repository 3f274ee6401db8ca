use Rattle.nv_example_store.proofs.Backups.{backup_step}
use Rattle.nv_example_store.proofs.steps.backup.Goals as goal

pub returns : goal.returns
returns c =
    backup_step c.snap.result c.args.files.now c.snap.new.self c.snap.ensures
