use Rattle.std.proofs.lemmas.Result.{err_from_is_err_and}
use Rattle.std.proofs.Common.{refl, ℕ}
use Rattle.nv_calls.specs.declared.answer.Answer.TheVariants as answers
use Rattle.nv_calls.specs.declared.call.Call.TheVariants as call
use Rattle.nv_calls.specs.declared.snapshot_or_cleaner_call.SnapshotOrCleanerCall.TheVariants as on
use Rattle.nv_files.proofs.Methods.{small_err, method_ok}
use Rattle.nv_files.proofs.files.Files.snap.Goals as goal

pub snapshot_of-requires : goal.snapshot_of-requires
snapshot_of-requires c =
    c.in_ok-answer.ensures.suits

pub returns-in_err-answer : goal.returns-in_err-answer
returns-in_err-answer c =
    let p = err_from_is_err_and c.from_residual.result c.from_residual.ensures.1 in
    rw (p.1, p.2) (small_err (call.SnapshotOrCleaner on.Snap) _ c.args.self.now c.call.new.self refl c.in_err-answer.ensures.told)

pub returns : goal.returns
returns c =
    method_ok (call.SnapshotOrCleaner on.Snap) c.in_ok-answer.answer c.snapshot_of.result (λ (snapshot : ℕ). answers.Snapshot snapshot) c.args.self.now c.call.new.self
    c.snapshot_of.ensures c.in_ok-answer.ensures.told
