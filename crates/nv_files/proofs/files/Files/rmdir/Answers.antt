use Rattle.std.proofs.Common.{List, ℕ, subst}
use Rattle.std.proofs.lemmas.Result.{err_from_is_err_and}
use Rattle.nv_calls.specs.declared.answer.Answer.TheVariants as answers
use Rattle.nv_calls.specs.declared.call.Call.TheVariants as call
use Rattle.nv_files.specs.Stands.{Leads}
use Rattle.nv_files.specs.Told.{IsToldOrStarved}
use Rattle.nv_files.proofs.Methods.{starved}
use Rattle.nv_files.proofs.files.Files.rmdir.Goals as goal

pub returns-in_err-name : goal.returns-in_err-name
returns-in_err-name c =
    let p = err_from_is_err_and c.from_residual.result c.from_residual.ensures.1 in
    rw (p.1, p.2, c.in_err-name.ensures.err) (starved (call.Rmdir c.args.dir c.args.name.now) c.args.self.now)

pub returns : goal.returns
returns c =
    subst (λ (bytes : List ℕ). Leads (IsToldOrStarved (call.Rmdir c.args.dir bytes) c.change.result (λ (done : Unit {0}). answers.Nothing))
    c.args.self.now c.change.new.self) c.in_ok-name.ensures.ok c.change.ensures
