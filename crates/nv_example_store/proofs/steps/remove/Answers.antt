use Rattle.nv_example_store.proofs.StoreSteps.{remove_step}
use Rattle.nv_example_store.proofs.Told.{key_is}
use Rattle.nv_example_store.proofs.steps.remove.Goals as goal

pub returns : goal.returns
returns c =
    let key = key_is c.args.key.now c.requires in
    remove_step c.args.key.now c.unlink.result c.args.files.now c.unlink.new.self key.0 key.1 (rw c.root.ensures at c.unlink.ensures)
