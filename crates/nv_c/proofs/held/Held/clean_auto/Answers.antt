use Rattle.std.proofs.Common.{ℕ, refl, subst}
use Rattle.nv_calls.specs.declared.answer.Answer.TheVariants as answers
use Rattle.nv_calls.specs.declared.call.Call.TheVariants as call
use Rattle.nv_calls.specs.declared.snapshot_or_cleaner_call.SnapshotOrCleanerCall.TheVariants as on
use Rattle.nv_clean.specs.declared.cleaned.Cleaned.{Cleaned}
use Rattle.nv_files.specs.Stands.{Leads}
use Rattle.nv_files.specs.Told.{IsToldOrStarved}
use Rattle.nv_c.proofs.held.Held.clean_auto.Goals as goal

pub returns-clause-told : goal.returns-clause-told
returns-clause-told c = (
  c.tell_cleaned.ensures.told (call.SnapshotOrCleaner (on.Auto c.args.ino)) c.args.self.now.files c.clean_auto.new.self
      (subst (λ (n : ℕ). Leads (IsToldOrStarved (call.SnapshotOrCleaner (on.Auto n)) c.clean_auto.result (λ (v : Cleaned). answers.Cleaned v.thorough v.entries v.pages)) c.args.self.now.files c.clean_auto.new.self)
      c.new.ensures c.clean_auto.ensures),
  (refl, refl),
)
