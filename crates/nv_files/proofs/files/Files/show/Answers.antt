use Rattle.std.proofs.lemmas.Result.{err_from_is_err_and}
use Rattle.std.proofs.Common.{List}
use Rattle.nv_entry.specs.declared.tree.TreeNode.{TreeNode}
use Rattle.nv_calls.specs.declared.answer.Answer.TheVariants as answers
use Rattle.nv_calls.specs.declared.call.Call.TheVariants as call
use Rattle.nv_calls.specs.declared.snapshot_or_cleaner_call.SnapshotOrCleanerCall.TheVariants as on
use Rattle.nv_files.proofs.Methods.{method_err, method_ok}
use Rattle.nv_files.proofs.files.Files.show.Goals as goal

pub tree_of-requires : goal.tree_of-requires
tree_of-requires c =
    c.in_ok-answer.ensures.suits

pub returns-in_err-answer : goal.returns-in_err-answer
returns-in_err-answer c =
    let p = err_from_is_err_and c.from_residual.result c.from_residual.ensures.1 in
    rw (p.1, p.2) (method_err (call.SnapshotOrCleaner (on.Show c.args.snapshot)) _ c.args.self.now c.call.new.self c.in_err-answer.ensures.told)

pub returns : goal.returns
returns c =
    method_ok (call.SnapshotOrCleaner (on.Show c.args.snapshot)) c.in_ok-answer.answer c.tree_of.result (λ (tree : List TreeNode). answers.Tree tree) c.args.self.now c.call.new.self
    c.tree_of.ensures c.in_ok-answer.ensures.told
