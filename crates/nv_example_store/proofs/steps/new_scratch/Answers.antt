use Rattle.std.proofs.Common.{◌≡◌}
use Rattle.nv_example_store.proofs.StoreSteps.{made_step}
use Rattle.nv_example_store.proofs.steps.new_scratch.Goals as goal

pub returns : goal.returns
returns c =
    let mode : c.unwrap-mode.result ≡ 384 = (rw c.unwrap-mode.ensures at c.checked.ensures).1 in
    made_step c.create.result c.args.files.now c.create.new.self (rw (c.root.ensures, mode) at c.create.ensures)
