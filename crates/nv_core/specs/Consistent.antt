-- What holds of a world whatever events led to it.
use Rattle.std.specs.Prelude.{◌≡◌, ℕ, ◌<◌, Contains, List, Some, length}
use Rattle.nv_audit.specs.Whole.{Agrees}
use Rattle.nv_base.specs.declared.geometry.GeometryNumbers.{GeometryNumbers}
use Rattle.nv_base.specs.declared.numbers.Handle.{Handle}
use Rattle.nv_book.specs.Listed.{unheld}
use Rattle.nv_book.specs.declared.record.Record.{Record}
use Rattle.nv_epoch.specs.SnapList.{ids}
use Rattle.nv_machine.specs.Held.{free_by_logs}
use Rattle.nv_machine.specs.Numbers.{IdleHaveNothing, free_of}
use Rattle.nv_machine.specs.PlainRun.{Plain, plain_after, plain_of}
use Rattle.nv_machine.specs.PoolScan.{pool_from_scratch}
use Rattle.nv_machine.specs.Reading.{AreCopied, copied_tree, plain_tree}
use Rattle.nv_machine.specs.Recorded.{records_after}
use Rattle.nv_machine.specs.Settled.{settled_nodes, snapshot_tree, tree_of}
use Rattle.nv_machine.specs.Starts.{IsStart}
use Rattle.nv_machine.specs.Step.{after}
use Rattle.nv_machine.specs.World as machine
use Rattle.nv_machine.specs.World.{list_at}
use Rattle.nv_core.specs.Audited.{device_of}
use Rattle.nv_core.specs.Worlds.{EventRun, Shows, WorldState}

-- A CONSISTENT WORLD, beside the plain world and the list of its records
pub record IsConsistent (g : GeometryNumbers) (w : machine.World) (plain : Plain) (records : List Record) : Type 0 where
  -- each log's counts, the records and the free lists are what one scan of all logs gives
  pub scan : Agrees (device_of g w)
  -- each free list is what logs, chains and hands leave, number by number
  pub free : (cpu : ℕ) → cpu < g.cpus → free_of (list_at w.shared cpu) ≡ free_by_logs g w cpu
  -- the pool of inode numbers is what logs and hands leave, in rising order
  pub pool : w.shared.pool.numbers ≡ pool_from_scratch g w
  -- an actor without a call has an empty hand and no lock
  pub idle : IdleHaveNothing w
  -- deferred are the records that no living snapshot holds
  pub deferred : w.shared.book.deferred ≡ unheld (ids w.shared.book.snaps) records
  -- the settled logs give the plain world's nodes
  pub nodes : (handle : Handle) → settled_nodes w.shared handle ≡ plain.nodes handle
  -- the settled logs give the plain world's tree
  pub tree : tree_of w ≡ plain_tree (length w.shared.cells) plain
  -- the number of the last commit is the plain world's
  pub commit : w.shared.book.commit ≡ plain.commit
  -- the epoch is the plain world's
  pub epoch : w.shared.book.snaps.epoch ≡ plain.epoch
  -- each living snapshot reads as the plain world's copy, node by node
  pub snapshots : AreCopied w.shared w.shared.book.snaps.living plain.copies
  -- each living snapshot reads as the plain world's copy, as a tree
  pub snapshot_trees : (snapshot : ℕ) → Contains (ids w.shared.book.snaps) snapshot
      → copied_tree (length w.shared.cells) plain.copies snapshot ≡ Some (snapshot_tree w snapshot)

-- A RUN LEADS TO A CONSISTENT WORLD, beside the plain world and the record list to which its
-- events lead from those of its start
abbrev pub IsConsistentAfter : GeometryNumbers → EventRun → Type 0
IsConsistentAfter g run =
    IsConsistent g (after run.start run.events) (plain_after run.start run.events (plain_of run.start))
    (records_after run.start run.events run.records)

-- A WORLD IN MEMORY IS CONSISTENT: events lead from some start to what it shows, which is
-- consistent. Example: a file has its page in block 2, snapshot 1 is made, and the page is written
-- again. Snapshot 1 reads as the file with the bytes of block 2, whatever is written later.
abbrev pub IsConsistentWorld : WorldState → Type 0
IsConsistentWorld w =
    let g = w.shared.geometry.numbers in
    (run : EventRun) × IsStart g run.start run.records × Shows w (after run.start run.events) × IsConsistentAfter g run
