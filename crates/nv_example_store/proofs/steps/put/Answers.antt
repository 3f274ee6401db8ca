use Rattle.std.proofs.lemmas.Result.{err_from_is_err_and}
use Rattle.nv_example_store.proofs.StoreSteps.{emptying_refused, put_refused, put_step}
use Rattle.nv_example_store.proofs.Told.{key_is}
use Rattle.nv_example_store.proofs.steps.put.Goals as goal

pub returns-in_err-file : goal.returns-in_err-file
returns-in_err-file c =
    let p = err_from_is_err_and c.from_residual.result c.from_residual.ensures.1 in
    rw (p.1, p.2) (emptying_refused c.args.key.now c.args.value.now _ c.args.files.now c.empty_scratch.new.files c.in_err-file.ensures)

pub returns-in_err-write : goal.returns-in_err-write
returns-in_err-write c =
    let p = err_from_is_err_and c.from_residual-in_err-write.result c.from_residual-in_err-write.ensures.1 in
    rw (p.1, p.2) (put_refused c.args.key.now c.args.value.now c.in_ok-file.file _ c.args.files.now
    c.empty_scratch.new.files c.write.new.self c.in_ok-file.ensures c.in_err-write.ensures)

pub returns : goal.returns
returns c =
    let key = key_is c.args.key.now c.requires in
    put_step c.args.key.now c.args.value.now c.in_ok-file.file c.rename.result c.args.files.now c.empty_scratch.new.files
    c.write.new.self c.rename.new.self key.0 key.1 c.in_ok-file.ensures c.in_ok-write.ensures
    (rw (c.root.ensures, c.root-2.ensures) at c.rename.ensures)
