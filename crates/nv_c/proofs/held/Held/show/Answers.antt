use Rattle.std.proofs.Common.{ℕ, List, arith, refl, subst}
use Rattle.nv_calls.specs.declared.answer.Answer.TheVariants as answers
use Rattle.nv_calls.specs.declared.call.Call.TheVariants as call
use Rattle.nv_calls.specs.declared.snapshot_or_cleaner_call.SnapshotOrCleanerCall.TheVariants as on
use Rattle.nv_entry.specs.declared.tree.TreeNode.{TreeNode}
use Rattle.nv_files.specs.Stands.{Leads}
use Rattle.nv_files.specs.Told.{IsToldOrStarved}
use Rattle.nv_c.proofs.Statuses.{starved_err, starved_ok}
use Rattle.nv_c.proofs.held.Held.show.Goals as goal

pub returns-in-Ok-clause-told : goal.returns-in-Ok-clause-told
returns-in-Ok-clause-told c = record {
  told = starved_ok c.show.result (call.SnapshotOrCleaner (on.Show c.args.snapshot)) (λ (v : List TreeNode). answers.Tree v) _ c.args.self.now.files c.show.new.self c.in-Ok.tree c.in-Ok.is refl
      (subst (λ (n : ℕ). Leads (IsToldOrStarved (call.SnapshotOrCleaner (on.Show n)) c.show.result (λ (v : List TreeNode). answers.Tree v)) c.args.self.now.files c.show.new.self)
      c.new.ensures c.show.ensures);
  count = λ _. c.len.ensures;
  kept = λ refused. absurd (omega (arith, refused));
  listed = refl;
}

pub returns-in-Err-clause-told : goal.returns-in-Err-clause-told
returns-in-Err-clause-told c = let some = c.number_of.ensures.some in record {
  told = starved_err c.show.result (call.SnapshotOrCleaner (on.Show c.args.snapshot)) (λ (v : List TreeNode). answers.Tree v) _ c.args.self.now.files c.show.new.self c.in-Err.fault c.number_of.result c.in-Err.is c.number_of.ensures.number
      (subst (λ (n : ℕ). Leads (IsToldOrStarved (call.SnapshotOrCleaner (on.Show n)) c.show.result (λ (v : List TreeNode). answers.Tree v)) c.args.self.now.files c.show.new.self)
      c.new.ensures c.show.ensures);
  count = λ is. absurd (omega (arith, some, is));
  kept = λ _. refl;
  listed = refl;
}
