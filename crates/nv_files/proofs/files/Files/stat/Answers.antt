use Rattle.std.proofs.lemmas.Result.{err_from_is_err_and}
use Rattle.std.proofs.Common.{refl}
use Rattle.nv_files.specs.declared.answers.Stat.{Stat}
use Rattle.nv_calls.specs.declared.answer.Answer.TheVariants as answers
use Rattle.nv_calls.specs.declared.call.Call.TheVariants as call
use Rattle.nv_files.proofs.Methods.{small_err, method_ok}
use Rattle.nv_files.proofs.files.Files.stat.Goals as goal

pub stat_of-requires : goal.stat_of-requires
stat_of-requires c =
    c.in_ok-answer.ensures.suits

pub returns-in_err-answer : goal.returns-in_err-answer
returns-in_err-answer c =
    let p = err_from_is_err_and c.from_residual.result c.from_residual.ensures.1 in
    rw (p.1, p.2) (small_err (call.Stat c.args.handle) _ c.args.self.now c.call.new.self refl c.in_err-answer.ensures.told)

pub returns : goal.returns
returns c =
    method_ok (call.Stat c.args.handle) c.in_ok-answer.answer c.stat_of.result (λ (stat : Stat). answers.Stat stat.kind stat.mode stat.size stat.commit) c.args.self.now c.call.new.self
    c.stat_of.ensures c.in_ok-answer.ensures.told
