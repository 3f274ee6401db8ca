use Rattle.std.proofs.Common.{List, ℕ, subst}
use Rattle.std.proofs.lemmas.Result.{err_from_is_err_and}
use Rattle.nv_calls.specs.declared.answer.Answer.TheVariants as answers
use Rattle.nv_calls.specs.declared.call.Call.TheVariants as call
use Rattle.nv_files.specs.Stands.{Leads}
use Rattle.nv_files.specs.Told.{IsToldOrStarved}
use Rattle.nv_files.proofs.Methods.{starved}
use Rattle.nv_files.proofs.files.Files.rename.Goals as goal

pub returns-in_err-old : goal.returns-in_err-old
returns-in_err-old c =
    let p = err_from_is_err_and c.from_residual.result c.from_residual.ensures.1 in
    rw (p.1, p.2, c.in_err-old.ensures.err) (starved (call.Rename c.args.from c.args.name.now c.args.to c.args.new_name.now) c.args.self.now)

pub returns-in_err-new : goal.returns-in_err-new
returns-in_err-new c =
    let p = err_from_is_err_and c.from_residual-in_err-new.result c.from_residual-in_err-new.ensures.1 in
    rw (p.1, p.2, c.in_err-new.ensures.err) (starved (call.Rename c.args.from c.args.name.now c.args.to c.args.new_name.now) c.args.self.now)

pub returns : goal.returns
returns c =
    subst (λ (bytes : List ℕ). Leads (IsToldOrStarved (call.Rename c.args.from c.args.name.now c.args.to bytes) c.change.result (λ (done : Unit {0}). answers.Nothing))
    c.args.self.now c.change.new.self) c.in_ok-new.ensures.ok (subst (λ (bytes : List ℕ). Leads (IsToldOrStarved (call.Rename c.args.from bytes c.args.to c.in_ok-new.new) c.change.result (λ (done : Unit {0}). answers.Nothing))
    c.args.self.now c.change.new.self) c.in_ok-old.ensures.ok c.change.ensures)
