use Rattle.nv_example_store.proofs.Backups.{forget_step}
use Rattle.nv_example_store.proofs.steps.forget.Goals as goal

pub returns : goal.returns
returns c =
    forget_step c.args.backup c.drop_snap.result c.args.files.now c.drop_snap.new.self c.drop_snap.ensures
