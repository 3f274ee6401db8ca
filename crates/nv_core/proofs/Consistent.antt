-- Whatever events came, a world is consistent.
use Rattle.std.proofs.Common.{List, refl, subst}
use Rattle.nv_base.specs.declared.geometry.GeometryNumbers.{GeometryNumbers}
use Rattle.nv_book.specs.declared.record.Record.{Record}
use Rattle.nv_machine.proofs.CommitNumbers.{events_counted}
use Rattle.nv_machine.proofs.CopiesAll.{all_copied}
use Rattle.nv_machine.proofs.CopyTrees.{trees_are_copied, trees_are_plain}
use Rattle.nv_machine.proofs.FitsPlain.{plain_nodes}
use Rattle.nv_machine.proofs.HeldLaw.{scanned_by_logs}
use Rattle.nv_machine.proofs.WorldFacts.{are_deferred, idle_nothing, pool_scanned}
use Rattle.nv_machine.proofs.SnapRuns.{in_step}
use Rattle.nv_machine.specs.PlainRun.{plain_of}
use Rattle.nv_machine.specs.Starts.{IsStart}
use Rattle.nv_machine.specs.World.{Event, World}
use Rattle.nv_core.proofs.AuditLaw.{agree}
use Rattle.nv_core.specs.Consistent.{IsConsistentAfter, IsConsistentWorld}
use Rattle.nv_core.specs.Worlds.{IsWorld, EventRun, Shows, WorldState}

consistent_after : (g : GeometryNumbers) (start : World) (records : List Record) (events : List Event) → IsStart g start records
    → IsConsistentAfter g (record { start = start; records = records; events = events })
consistent_after g start records events is_start = record {
  scan = agree g start records events is_start;
  free = λ cpu inside. scanned_by_logs g start records events cpu is_start inside;
  pool = pool_scanned g start records events is_start;
  idle = idle_nothing g start records events is_start;
  deferred = are_deferred g start records events is_start;
  nodes = plain_nodes g start records events is_start;
  tree = trees_are_plain g start records events is_start;
  commit = events_counted events start (plain_of start) refl;
  epoch = (in_step g start records events is_start).epoch;
  snapshots = all_copied g start records is_start events;
  snapshot_trees = λ snapshot lives. trees_are_copied g start records events snapshot is_start lives;
}

pub consistent : (g : GeometryNumbers) (run : EventRun) → IsStart g run.start run.records → IsConsistentAfter g run
consistent g run is_start = consistent_after g run.start run.records run.events is_start

pub consistent_world : (w : WorldState) → IsWorld w → IsConsistentWorld w
consistent_world w is =
    let run = is.1 in (
      run,
      is.2.is_start,
      subst (Shows w) is.2.reached is.2.shows,
      consistent w.shared.geometry.numbers run is.2.is_start,
    )
