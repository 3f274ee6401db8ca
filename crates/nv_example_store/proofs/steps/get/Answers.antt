use Rattle.std.proofs.Common.{List, Option, Some, None, Ok, subst, ℕ}
use Rattle.std.proofs.lemmas.Result.{err_from_is_err_and}
use Rattle.nv_base.specs.declared.numbers.Handle.{Handle}
use Rattle.nv_example_store.specs.Held.{FindsBy}
use Rattle.nv_example_store.specs.Stored.{Steps}
use Rattle.nv_example_store.proofs.ReadSteps.{Found, Starved, ValueIs, find_refused, got_refused, got_step, none_step}
use Rattle.nv_example_store.proofs.Told.{key_is}
use Rattle.nv_example_store.proofs.steps.get.Goals as goal

pub find-requires : goal.find-requires
find-requires c =
    (key_is c.args.key.now c.requires).0

pub returns-in_err-file : goal.returns-in_err-file
returns-in_err-file c =
    let p = err_from_is_err_and c.from_residual.result c.from_residual.ensures.1 in
    rw (p.1, p.2) (find_refused c.args.key.now _ (Option (List ℕ)) (ValueIs c.args.key.now) c.args.files.now c.find.new.files
    c.in_err-file.ensures)

pub returns-in_err-value-in-Some : goal.returns-in_err-value-in-Some
returns-in_err-value-in-Some c =
    let p = err_from_is_err_and c.from_residual-in_err-value-in-Some.result c.from_residual-in_err-value-in-Some.ensures.1 in
    let found : Steps (FindsBy (Found c.args.key.now) Starved (Ok (Some c.in-Some.file))) c.args.files.now c.find.new.files =
    subst (λ (to : Option Handle). Steps (FindsBy (Found c.args.key.now) Starved (Ok to)) c.args.files.now c.find.new.files)
    c.in-Some.is c.in_ok-file.ensures in
    rw (p.1, p.2) (got_refused c.args.key.now c.in-Some.file _ c.args.files.now c.find.new.files c.whole_file.new.files found
    c.in_err-value-in-Some.ensures)

pub returns-in_ok-value-in-Some : goal.returns-in_ok-value-in-Some
returns-in_ok-value-in-Some c =
    let found : Steps (FindsBy (Found c.args.key.now) Starved (Ok (Some c.in-Some.file))) c.args.files.now c.find.new.files =
    subst (λ (to : Option Handle). Steps (FindsBy (Found c.args.key.now) Starved (Ok to)) c.args.files.now c.find.new.files)
    c.in-Some.is c.in_ok-file.ensures in
    got_step c.args.key.now c.in-Some.file c.in_ok-value-in-Some.value c.args.files.now c.find.new.files c.whole_file.new.files
    (key_is c.args.key.now c.requires).1 found c.in_ok-value-in-Some.ensures

pub returns-in-None : goal.returns-in-None
returns-in-None c =
    let found : Steps (FindsBy (Found c.args.key.now) Starved (Ok None)) c.args.files.now c.find.new.files =
    subst (λ (to : Option Handle). Steps (FindsBy (Found c.args.key.now) Starved (Ok to)) c.args.files.now c.find.new.files)
    c.in-None.is c.in_ok-file.ensures in
    none_step c.args.key.now c.args.files.now c.find.new.files (key_is c.args.key.now c.requires).1 found
