use Rattle.std.proofs.lemmas.Result.{err_from_is_err_and}
use Rattle.std.proofs.Common.{List}
use Rattle.nv_entry.specs.declared.names.BoundName.{BoundName}
use Rattle.nv_calls.specs.declared.answer.Answer.TheVariants as answers
use Rattle.nv_calls.specs.declared.call.Call.TheVariants as call
use Rattle.nv_files.proofs.Methods.{method_err, method_ok}
use Rattle.nv_files.proofs.files.Files.list.Goals as goal

pub names_of-requires : goal.names_of-requires
names_of-requires c =
    c.in_ok-answer.ensures.suits

pub returns-in_err-answer : goal.returns-in_err-answer
returns-in_err-answer c =
    let p = err_from_is_err_and c.from_residual.result c.from_residual.ensures.1 in
    rw (p.1, p.2) (method_err (call.List c.args.dir) _ c.args.self.now c.call.new.self c.in_err-answer.ensures.told)

pub returns : goal.returns
returns c =
    method_ok (call.List c.args.dir) c.in_ok-answer.answer c.names_of.result (λ (names : List BoundName). answers.Names names) c.args.self.now c.call.new.self
    c.names_of.ensures c.in_ok-answer.ensures.told
