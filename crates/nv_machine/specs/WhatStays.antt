-- What a cleaner leaves of the log of its slot, by what keeps the pairs of the slot: the snapshot
-- list, the deferred list, and the records that drains have picked. Marks are not asked.
use Rattle.std.specs.Prelude.{◌≡◌, ℕ, [], length}
use Rattle.std.specs.Int.{div_ceil}
use Rattle.nv_cell.specs.Cell.{log_of}
use Rattle.nv_entry.specs.Clean.{thorough_leaves, pages_left, pages_stay}
use Rattle.nv_entry.specs.Laws.{NoneDroppable}
use Rattle.nv_log.specs.Chain.{left_of, log_pages}
use Rattle.nv_machine.specs.Held.{retention_at}
use Rattle.nv_machine.specs.World.{World, cell_at}

-- WHAT A `compact` STEP LEAVES. Example: a file's page is written, snapshot 1 is made, and the
-- page is written twice more. A `compact` step takes the second of these three entries out: its
-- page is not current, and no snapshot has held it. Snapshot 1 holds that of the first.
pub record IsCompacted (ino : ℕ) (w v : World) : Type 0 where
  -- the log is what a walk entry by entry leaves, by what keeps its pairs
  pub log : log_of (cell_at v.shared ino) ≡ thorough_leaves (retention_at w ino) (log_of (cell_at w.shared ino))
  -- its log pages are as many as its entries fill
  pub pages : length (cell_at v.shared ino).chain.blocks
      ≡ div_ceil (length (log_of (cell_at v.shared ino))) (cell_at w.shared ino).chain.page
  -- by what keeps its pairs afterwards no entry of it may go
  pub none : NoneDroppable (retention_at v ino) [] (log_of (cell_at v.shared ino))

-- WHAT AN `unlink` STEP LEAVES
pub record IsUnlinked (ino : ℕ) (w v : World) : Type 0 where
  -- the log pages with entries are those that a walk by whole pages leaves
  pub pages : log_pages (cell_at v.shared ino).chain
      ≡ pages_left (retention_at w ino) (log_pages (cell_at w.shared ino).chain)
  -- the log pages that stay keep their blocks, and those without entries stand behind them
  pub blocks : (cell_at v.shared ino).chain.blocks
      ≡ left_of (pages_stay (retention_at w ino) [] (log_pages (cell_at w.shared ino).chain)) (cell_at w.shared ino).chain.blocks
