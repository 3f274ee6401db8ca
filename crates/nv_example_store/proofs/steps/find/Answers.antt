use Rattle.nv_example_store.proofs.ReadSteps.{found_step, missed_step, unfound_step}
use Rattle.nv_example_store.proofs.steps.find.Goals as goal

pub returns-in-Ok : goal.returns-in-Ok
returns-in-Ok c =
    found_step c.args.name.now c.in-Ok.file c.args.files.now c.lookup.new.self (rw c.root.ensures at c.in-Ok.ensures)

pub returns-in-Missing : goal.returns-in-Missing
returns-in-Missing c =
    missed_step c.args.name.now c.args.files.now c.lookup.new.self (rw (c.root.ensures, c.in-Missing.is) at c.in-Err.ensures)

pub returns-in_default : goal.returns-in_default
returns-in_default c =
    unfound_step c.args.name.now c.in-Err.fault c.args.files.now c.lookup.new.self c.requires c.in_default.not-Missing
    (rw c.root.ensures at c.in-Err.ensures)
