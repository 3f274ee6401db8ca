use Rattle.std.proofs.Common.{subst, sym}
use Rattle.nv_entry.specs.Log.{IsLog}
use Rattle.nv_log.proofs.Logs.{IsLog-take}
use Rattle.nv_mount.proofs.logs.front_of.Goals as goal

pub new-requires-clause-rising : goal.new-requires-clause-rising
new-requires-clause-rising c =
    IsLog-take c.args.tail c.entries-entries.result.now (subst IsLog (sym c.entries-entries.ensures.value) c.entries-entries.ensures.chain.rising)
