-- Where a run may start: a whole world at rest.
use Rattle.std.specs.Prelude.{◌≡◌, ℕ, ◌<◌, ◌≤◌, true, false, All, List, None, Some, length, slice_get}
use Rattle.std.specs.List.{AllByRecursion, Contains}
use Rattle.nv_base.specs.Limits.{IsWithinLimits}
use Rattle.nv_base.specs.declared.geometry.GeometryNumbers.{GeometryNumbers}
use Rattle.nv_base.specs.declared.limits.TheConstants.{NUMBER}
use Rattle.nv_book.specs.Listed.{IsRecordList}
use Rattle.nv_book.specs.declared.record.Record.{Record}
use Rattle.nv_calls.specs.Plain.{node_in}
use Rattle.nv_cell.specs.Readers.{is_erased, has_inode}
use Rattle.nv_cell.specs.Cell.{IsCell, log_of}
use Rattle.nv_cell.specs.Marks.{is_killed, mark_at}
use Rattle.nv_cell.specs.declared.mark.Mark.TheVariants.{Out}
use Rattle.nv_entry.specs.Held.{is_held}
use Rattle.nv_entry.specs.Log.{pairs}
use Rattle.nv_entry.specs.declared.held.Pair.{Pair}
use Rattle.nv_epoch.specs.Holders.{IsRising}
use Rattle.nv_epoch.specs.SnapList.{ids, pins_of}
use Rattle.nv_machine.specs.Directories.{AreTree}
use Rattle.nv_machine.specs.Effects.{AreSound}
use Rattle.nv_machine.specs.Hands.{AreLists}
use Rattle.nv_machine.specs.Kept.{AreClosed}
use Rattle.nv_machine.specs.Numbers.{all_blocks}
use Rattle.nv_machine.specs.Order.{AreLogsOrdered}
use Rattle.nv_machine.specs.Pages.{AreOnPages}
use Rattle.nv_machine.specs.PoolScan.{pool_from_scratch}
use Rattle.nv_machine.specs.Reading.{ArePins}
use Rattle.nv_machine.specs.Recorded.{AreRecordedOnce, IsOfPair}
use Rattle.nv_machine.specs.Settled.{settled_copies, settled_nodes}
use Rattle.nv_machine.specs.Shapes.{AreShaped}
use Rattle.nv_machine.specs.Versions.{AreVersions}
use Rattle.nv_alloc.specs.Numbers.{IsEachOnce}
use Rattle.nv_machine.specs.World.{World, actor_at, cell_at, idle, owner_at}

-- no call runs, and every hand is empty
abbrev pub AreIdle : World → Type 0
AreIdle w = (actor : ℕ) → actor_at w actor ≡ idle

-- WHERE A RUN MAY START: a world at rest, in which no call runs and nothing is held, and the list
-- of its records. Each line names the law by which the field holds of every world that events lead
-- to, or of every such world at rest. Example: a new world with no records is a start. So is one
-- in which a file was written, snapshot 1 was made, the file was written again, and all calls have
-- ended: its records are the Size and the page of the first write. While the second write holds
-- the commit lock it is none.
pub record IsStart (g : GeometryNumbers) (w : World) (records : List Record) : Type 0 where
  -- the device's numbers are within their limits; of every world: by definition
  pub limits : IsWithinLimits g
  -- the world has the device's numbers; of every world: by definition
  pub numbers : w.numbers ≡ g
  -- there are as many actors as the device says; of every world: `one_step`
  pub actors : length w.actors ≡ g.actors
  -- each inode slot has its cell; of every world: `one_step`
  pub slots : length w.shared.cells ≡ g.inodes
  -- each inode slot has its lock; of every world: `one_step`
  pub owners : length w.shared.owners ≡ g.inodes
  -- the pool is of as many numbers as slots; at rest: `runs_may_start_where_nothing_runs`
  pub inodes : w.shared.pool.inodes ≡ g.inodes
  -- each CPU has its journal; at rest: `runs_may_start_where_nothing_runs`
  pub journals : length w.shared.book.journals ≡ g.cpus
  -- the device says how many snapshots may live; at rest: `runs_may_start_where_nothing_runs`
  pub most : w.shared.book.snaps.most ≡ g.snaps
  -- no call runs, and every hand is empty; of every world: `idle_hands_are_empty`
  pub idle_all : AreIdle w
  -- no inode slot is locked; of every world: `who_holds_what`
  pub unlocked : (ino : ℕ) → owner_at w.shared ino ≡ None
  -- the commit lock is free; of every world: `who_holds_what`
  pub uncommitted : w.shared.holder ≡ None
  -- no journal notes anything; of every world: `only_commits_change_nodes`
  pub closed : AreClosed w.shared.book.journals
  -- no snapshot is pinned; of every world: `pins_are_of_shows`
  pub unpinned : (snapshot : ℕ) → ArePins 0 (pins_of w.shared.book.snaps snapshot)
  -- each block number of the device stands once; of every world: `blocks_stand_once`
  pub once : IsEachOnce g.blocks (all_blocks w)
  -- free lists rise, and have blocks of their home ranges; of every world: `lists_are_sorted`
  pub lists : AreLists g w.shared
  -- the pool is what one scan leaves; of every world: `pool_is_from_scratch`
  pub pool : w.shared.pool.numbers ≡ pool_from_scratch g w
  -- each cell has its chain, its marks and its blocks; of every world: `cells_are_cells`
  pub cells : (ino : ℕ) → ino < g.inodes → IsCell (cell_at w.shared ino)
  -- each cell has the device's block size; of every world: `cells_are_cells`
  pub sizes : (ino : ℕ) → ino < g.inodes → (cell_at w.shared ino).block ≡ g.block
  -- each entry stands on a log page; of every world: `logs_have_their_pages`
  pub pages : (ino : ℕ) → ino < g.inodes → AreOnPages g.page (cell_at w.shared ino).chain
  -- each log ends at its tail; of every world: `a_commit_settles_its_entries`
  pub tails : (ino : ℕ) → (cell_at w.shared ino).chain.tail ≡ length (cell_at w.shared ino).chain.entries
  -- ids rise and epochs never fall, up to the book's; of every world: `ids_rise`
  pub order : AreLogsOrdered w.shared
  -- no cell has seen more commits than there were; of every world: `versions_are_left`
  pub versions : AreVersions w.shared
  -- no slot with an inode is of the last generation; of every world: `generations_are_left`
  pub early : (ino : ℕ) → has_inode (cell_at w.shared ino) ≡ true → (cell_at w.shared ino).generation < NUMBER
  -- an inode that is gone keeps something; of every world: `gone_inodes_are_erased`
  pub erased : (ino : ℕ) → is_erased (cell_at w.shared ino) ≡ false
  -- living snapshots rise; of every world: by their list, `IsSound` of `nv_epoch`
  pub rising : IsRising (ids w.shared.book.snaps)
  -- each is of an earlier epoch; of every world: by their list, `IsSound` of `nv_epoch`
  pub before : All (λ snapshot. snapshot < w.shared.book.snaps.epoch) (ids w.shared.book.snaps)
  -- each record is filed with its youngest living holder, or deferred: `records_are_filed`
  pub list : IsRecordList (ids w.shared.book.snaps) w.shared.book.manifests w.shared.book.deferred records
  -- each record died by now; of every world: `records_are_filed`
  pub dead : AllByRecursion (λ (d : Record). d.death ≤ w.shared.book.snaps.epoch) records
  -- each is of a pair of a log, held by the same living snapshots: `records_are_filed`
  pub paired : AllByRecursion (IsOfPair w) records
  -- a part is kept exactly where it has one record; of every world: `records_are_filed`
  pub recorded : AreRecordedOnce w
  -- no part is killed and not yet retired; of every world: `records_are_filed`
  pub alive : (ino n : ℕ) → is_killed (mark_at (cell_at w.shared ino).marks n) ≡ false
  -- no living snapshot holds a part that is out: `snapshots_hold_what_logs_tell`
  pub out : (ino n : ℕ) (pair : Pair)
      → slice_get (pairs (cell_at w.shared ino).block (log_of (cell_at w.shared ino))) n ≡ Some pair
      → mark_at (cell_at w.shared ino).marks n ≡ Out → is_held (ids w.shared.book.snaps) pair ≡ false
  -- each log is of its shape; of every world: `logs_have_their_shape`
  pub shaped : AreShaped g.block w.shared
  -- each log is sound; of every world: `settled_logs_stay_sound`
  pub sound : AreSound w.shared
  -- directories form a tree now; of every world: `directories_form_a_tree`
  pub tree : AreTree (node_in (settled_nodes w.shared))
  -- directories form a tree at each living snapshot: `directories_form_a_tree`
  pub copies : (snapshot : ℕ) → Contains (ids w.shared.book.snaps) snapshot → AreTree (settled_copies w.shared snapshot)
