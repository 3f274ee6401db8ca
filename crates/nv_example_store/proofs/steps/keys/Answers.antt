use Rattle.std.proofs.lemmas.Result.{err_from_is_err_and}
use Rattle.nv_example_store.proofs.ReadSteps.{keys_result, list_refused}
use Rattle.nv_example_store.proofs.steps.keys.Goals as goal

pub returns-in_err-names : goal.returns-in_err-names
returns-in_err-names c =
    let p = err_from_is_err_and c.from_residual.result c.from_residual.ensures.1 in
    rw (p.1, p.2) (list_refused _ c.args.files.now c.list.new.self (rw c.root.ensures at c.in_err-names.ensures))

pub returns : goal.returns
returns c =
    keys_result c.in_ok-names.names c.keys_among.result c.args.files.now c.list.new.self (rw c.root.ensures at c.in_ok-names.ensures)
    (rw c.as_slice.ensures at c.keys_among.ensures.ok) c.keys_among.ensures.err
