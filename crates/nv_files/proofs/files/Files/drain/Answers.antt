use Rattle.std.proofs.lemmas.Result.{err_from_is_err_and}
use Rattle.std.proofs.Common.{ℕ}
use Rattle.nv_calls.specs.declared.answer.Answer.TheVariants as answers
use Rattle.nv_calls.specs.declared.call.Call.TheVariants as call
use Rattle.nv_calls.specs.declared.snapshot_or_cleaner_call.SnapshotOrCleanerCall.TheVariants as on
use Rattle.nv_files.proofs.Methods.{method_err, method_ok}
use Rattle.nv_files.proofs.files.Files.drain.Goals as goal

pub count_of-requires : goal.count_of-requires
count_of-requires c =
    c.in_ok-answer.ensures.suits

pub returns-in_err-answer : goal.returns-in_err-answer
returns-in_err-answer c =
    let p = err_from_is_err_and c.from_residual.result c.from_residual.ensures.1 in
    rw (p.1, p.2) (method_err (call.SnapshotOrCleaner (on.Drain c.args.most)) _ c.args.self.now c.call.new.self c.in_err-answer.ensures.told)

pub returns : goal.returns
returns c =
    method_ok (call.SnapshotOrCleaner (on.Drain c.args.most)) c.in_ok-answer.answer c.count_of.result (λ (count : ℕ). answers.Count count) c.args.self.now c.call.new.self
    c.count_of.ensures c.in_ok-answer.ensures.told
