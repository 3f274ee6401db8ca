use Rattle.std.proofs.Common.{ℕ, refl, subst}
use Rattle.nv_calls.specs.declared.answer.Answer.TheVariants as answers
use Rattle.nv_calls.specs.declared.call.Call.TheVariants as call
use Rattle.nv_calls.specs.declared.snapshot_or_cleaner_call.SnapshotOrCleanerCall.TheVariants as on
use Rattle.nv_files.specs.Stands.{Leads}
use Rattle.nv_files.specs.Told.{IsTold}
use Rattle.nv_c.proofs.held.Held.drop_snap.Goals as goal

pub returns : goal.returns
returns c = record {
  told = (
    c.tell_done.ensures.told (call.SnapshotOrCleaner (on.Drop c.args.snapshot)) (answers.Nothing) c.args.self.now.files c.drop_snap.new.self
        (subst (λ (n : ℕ). Leads (IsTold (call.SnapshotOrCleaner (on.Drop n)) c.drop_snap.result (λ (v : Unit {0}). answers.Nothing)) c.args.self.now.files c.drop_snap.new.self)
        c.new.ensures c.drop_snap.ensures),
    (refl, refl),
  );
}
