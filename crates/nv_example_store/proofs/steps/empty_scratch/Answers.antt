use Rattle.std.proofs.Common.{Option, Some, None, Ok, subst}
use Rattle.std.proofs.lemmas.Result.{err_from_is_err_and}
use Rattle.nv_base.specs.declared.numbers.Handle.{Handle}
use Rattle.nv_example_store.specs.Held.{FindsBy}
use Rattle.nv_example_store.specs.Keys.{scratch}
use Rattle.nv_example_store.specs.Stored.{Steps}
use Rattle.nv_example_store.proofs.ReadSteps.{Found, Starved}
use Rattle.nv_example_store.proofs.StoreSteps.{cut_refused, cut_step, find_put_refused, scratch_after}
use Rattle.nv_example_store.proofs.steps.empty_scratch.Goals as goal

pub returns-in_err-file : goal.returns-in_err-file
returns-in_err-file c =
    let p = err_from_is_err_and c.from_residual.result c.from_residual.ensures.1 in
    rw (p.1, p.2) (find_put_refused _ c.args.files.now c.find.new.files c.in_err-file.ensures)

pub returns-in_err-size-in-Some : goal.returns-in_err-size-in-Some
returns-in_err-size-in-Some c =
    let p = err_from_is_err_and c.from_residual-in_err-size-in-Some.result c.from_residual-in_err-size-in-Some.ensures.1 in
    let found : Steps (FindsBy (Found scratch) Starved (Ok (Some c.in-Some.file))) c.args.files.now c.find.new.files =
    subst (λ (to : Option Handle). Steps (FindsBy (Found scratch) Starved (Ok to)) c.args.files.now c.find.new.files)
    c.in-Some.is c.in_ok-file.ensures in
    rw (p.1, p.2) (cut_refused c.in-Some.file _ c.args.files.now c.find.new.files c.size.new.self found
    (rw c.same.ensures at c.in_err-size-in-Some.ensures))

pub returns-in_ok-size-in-Some : goal.returns-in_ok-size-in-Some
returns-in_ok-size-in-Some c =
    let found : Steps (FindsBy (Found scratch) Starved (Ok (Some c.in-Some.file))) c.args.files.now c.find.new.files =
    subst (λ (to : Option Handle). Steps (FindsBy (Found scratch) Starved (Ok to)) c.args.files.now c.find.new.files)
    c.in-Some.is c.in_ok-file.ensures in
    cut_step c.in-Some.file c.args.files.now c.find.new.files c.size.new.self found (rw c.same.ensures at c.in_ok-size-in-Some.ensures)

pub returns-in-None : goal.returns-in-None
returns-in-None c =
    let found : Steps (FindsBy (Found scratch) Starved (Ok None)) c.args.files.now c.find.new.files =
    subst (λ (to : Option Handle). Steps (FindsBy (Found scratch) Starved (Ok to)) c.args.files.now c.find.new.files)
    c.in-None.is c.in_ok-file.ensures in
    scratch_after c.new_scratch.result c.args.files.now c.find.new.files c.new_scratch.new.files found c.new_scratch.ensures
