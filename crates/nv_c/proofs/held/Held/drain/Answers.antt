use Rattle.std.proofs.Common.{refl}
use Rattle.nv_calls.specs.declared.call.Call.TheVariants as call
use Rattle.nv_calls.specs.declared.snapshot_or_cleaner_call.SnapshotOrCleanerCall.TheVariants as on
use Rattle.nv_c.proofs.held.Held.drain.Goals as goal

pub returns-clause-told : goal.returns-clause-told
returns-clause-told c = (
  c.tell_count.ensures.told (call.SnapshotOrCleaner (on.Drain c.args.most)) c.args.self.now.files c.drain.new.self
      c.drain.ensures,
  (refl, refl),
)
