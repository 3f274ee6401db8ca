use Rattle.std.proofs.lemmas.Result.{err_from_is_err_and}
use Rattle.nv_base.specs.declared.numbers.Handle.{Handle}
use Rattle.nv_calls.specs.declared.answer.Answer.TheVariants as answers
use Rattle.nv_files.proofs.Methods.{finds, method_err, method_ok}
use Rattle.nv_files.proofs.files.Files.find.Goals as goal

pub handle_of-requires : goal.handle_of-requires
handle_of-requires c =
    finds c.args.call c.in_ok-answer.answer c.requires c.in_ok-answer.ensures.suits

pub returns-in_err-answer : goal.returns-in_err-answer
returns-in_err-answer c =
    let p = err_from_is_err_and c.from_residual.result c.from_residual.ensures.1 in
    rw (p.1, p.2) (method_err c.args.call _ c.args.self.now c.call.new.self c.in_err-answer.ensures.told)

pub returns : goal.returns
returns c =
    method_ok c.args.call c.in_ok-answer.answer c.handle_of.result (λ (handle : Handle). answers.Made handle) c.args.self.now c.call.new.self
    c.handle_of.ensures c.in_ok-answer.ensures.told
