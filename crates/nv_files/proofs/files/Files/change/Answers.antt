use Rattle.std.proofs.lemmas.Result.{err_from_is_err_and}
use Rattle.nv_calls.specs.declared.answer.Answer.TheVariants as answers
use Rattle.nv_files.proofs.Methods.{method_err, method_ok, tells_nothing}
use Rattle.nv_files.proofs.files.Files.change.Goals as goal

pub check_nothing-requires : goal.check_nothing-requires
check_nothing-requires c =
    tells_nothing c.args.call c.in_ok-answer.answer c.requires c.in_ok-answer.ensures.suits

pub returns-in_err-answer : goal.returns-in_err-answer
returns-in_err-answer c =
    let p = err_from_is_err_and c.from_residual.result c.from_residual.ensures.1 in
    rw (p.1, p.2) (method_err c.args.call _ c.args.self.now c.call.new.self c.in_err-answer.ensures.told)

pub returns : goal.returns
returns c =
    method_ok c.args.call c.in_ok-answer.answer tt (λ (done : Unit {0}). answers.Nothing) c.args.self.now c.call.new.self
    c.check_nothing.ensures c.in_ok-answer.ensures.told
