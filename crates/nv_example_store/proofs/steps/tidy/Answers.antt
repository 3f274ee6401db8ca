use Rattle.std.proofs.lemmas.Result.{err_from_is_err_and}
use Rattle.nv_example_store.proofs.Tidies.{clean_refused, drain_refused, tidy_step}
use Rattle.nv_example_store.proofs.steps.tidy.Goals as goal

pub returns-in_err-drain : goal.returns-in_err-drain
returns-in_err-drain c =
    let p = err_from_is_err_and c.from_residual.result c.from_residual.ensures.1 in
    rw (p.1, p.2) (drain_refused _ c.args.files.now c.drain.new.self c.in_err-drain.ensures)

pub returns-in_err-clean_auto : goal.returns-in_err-clean_auto
returns-in_err-clean_auto c =
    let p = err_from_is_err_and c.from_residual-in_err-clean_auto.result c.from_residual-in_err-clean_auto.ensures.1 in
    rw (p.1, p.2) (clean_refused _ _ c.args.files.now c.drain.new.self c.clean_auto.new.self c.in_ok-drain.ensures
    (rw c.root.ensures at c.in_err-clean_auto.ensures))

pub returns : goal.returns
returns c =
    tidy_step _ _ c.args.files.now c.drain.new.self c.clean_auto.new.self c.in_ok-drain.ensures
    (rw c.root.ensures at c.in_ok-clean_auto.ensures)
