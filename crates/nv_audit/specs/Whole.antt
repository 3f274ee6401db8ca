-- A device between two steps, and the first part of it that differs from one scan of all logs.
use Rattle.std.specs.Prelude.{◌≡◌, ℕ, ◌+◌, ◌-◌, ◌<◌, List, length, slice_index_or}
use Rattle.std.specs.Global.{Vec}
use Rattle.nv_base.specs.declared.fault.Fault.{Fault}
use Rattle.nv_base.specs.declared.fault.Fault.TheVariants.{Mismatch}
use Rattle.nv_base.specs.declared.fault.MismatchPart.{MismatchPart}
use Rattle.nv_base.specs.declared.fault.MismatchPart.TheVariants.{Index, Names, Counts, Records, Lists}
use Rattle.nv_base.specs.declared.geometry.GeometryNumbers.{GeometryNumbers}
use Rattle.nv_alloc.specs.Block.{numbers_of}
use Rattle.nv_alloc.specs.FreeList.{FreeBlocks}
use Rattle.nv_alloc.specs.Numbers.{has, unused}
use Rattle.nv_base.specs.Homes.{home_start}
use Rattle.nv_book.specs.Book.{BookState}
use Rattle.nv_book.specs.declared.record.Record.{Record}
use Rattle.nv_cell.specs.Cell.{CellState, CellValue, IsCell}
use Rattle.nv_cell.specs.Retained.{AreMarksOf}
use Rattle.nv_entry.specs.declared.part.PartId.{PartId}
use Rattle.nv_epoch.specs.SnapList.{ids}
use Rattle.nv_audit.specs.Counts.{AreCounted}
use Rattle.nv_audit.specs.Lists.{AreFree, no_list, used_of}
use Rattle.nv_audit.specs.Pending.{parts_at, retention_by}
use Rattle.nv_audit.specs.Records.{AreRecorded, states_of}
use Rattle.nv_audit.specs.declared.part_list.InodePart.{InodePart}
use Rattle.nv_audit.specs.declared.pending.InHands.{InHands}

-- a device between two steps: what an audit compares.
-- Room and reserves are not in it.
pub record Device : Type 0 where
  -- the numbers of its geometry
  pub numbers : GeometryNumbers
  -- the cell of each inode
  pub cells : List CellState
  -- the free list of each CPU
  pub lists : List FreeBlocks
  -- the book
  pub book : BookState
  -- the parts that calls have killed or picked
  pub in_hands : List InodePart
  -- the numbers of the blocks in hands
  pub blocks : List ℕ

-- the device of these parts: what an audit is handed, without room and reserves.
-- An `Audited` is seen as the device that was judged.
-- Example: a file of block 2 on a log page in block 1 is overwritten by block 3 under snapshot 1.
-- Snapshot 1 holds the Size and the page of the first Write. They are two records of its manifest.
-- Used are 0, 1, 2 and 3. With one record gone the audit answers `records`. With block 2 in a free
-- list too it would answer `lists`.
abbrev pub device_with : GeometryNumbers → List CellValue → List FreeBlocks → BookState → InHands → Device
device_with numbers cells lists book hands = record {
  numbers = numbers;
  cells = states_of cells;
  lists = lists;
  book = book;
  in_hands = hands.parts.items;
  blocks = hands.blocks.items;
}

-- the counts of an inode are those of its log, where these snapshots live, and these parts of it are pending
abbrev pub IsCountedWith : List ℕ → List PartId → CellState → Type 0
IsCountedWith snapshots pending cell = AreCounted (record { block = cell.block; snapshots = snapshots; pending = pending }) cell

-- the counts of each inode are those of its log, where these lists have the pending parts of each slot
abbrev pub CountsAgreeWith : List ℕ → List (Vec PartId) → List CellState → Type 0
CountsAgreeWith snapshots pending cells =
    (ino : ℕ) (default : CellState) → ino < length cells
    → IsCountedWith snapshots (parts_at pending ino) (slice_index_or cells ino default)

-- the counts of an inode are those of its log, with what is deferred and what is in hands
abbrev pub IsCountedBy : List ℕ → List Record → List InodePart → ℕ → CellState → Type 0
IsCountedBy snapshots deferred in_hands ino cell = AreCounted (retention_by snapshots deferred in_hands ino cell) cell

-- the counts of each inode are those of its log, with what is deferred and what is in hands
abbrev pub CountsAgreeBy : List ℕ → List Record → List InodePart → List CellState → Type 0
CountsAgreeBy snapshots deferred in_hands cells =
    (ino : ℕ) (default : CellState) → ino < length cells → IsCountedBy snapshots deferred in_hands ino (slice_index_or cells ino default)

-- the counts of all inodes are those of the scan
abbrev pub CountsAgree : BookState → List InodePart → List CellState → Type 0
CountsAgree book in_hands cells = CountsAgreeBy (ids book.snaps) book.deferred in_hands cells

-- the counts of the device's inodes are those of the scan
abbrev pub HasCounts : Device → Type 0
HasCounts d = CountsAgree d.book d.in_hands d.cells

-- the records of the device are those that its logs owe
abbrev pub HasRecords : Device → Type 0
HasRecords d = AreRecorded d.cells d.book d.in_hands

-- the free lists of the device have exactly what is not used
abbrev pub HasLists : Device → Type 0
HasLists d = AreFree d.numbers d.lists (used_of d.cells d.book d.in_hands d.blocks)

-- EACH PART IS THAT OF THE SCAN.
-- The index and the names of a cell are so at all times.
pub record Agrees (d : Device) : Type 0 where
  -- each inode's counts are those of its log
  pub counts : HasCounts d
  -- each living snapshot has the records that the logs owe it
  pub records : HasRecords d
  -- the free lists have exactly what is not used
  pub lists : HasLists d

-- the first part that differs
abbrev pub IsFirst : MismatchPart → Device → Type 0
IsFirst Index d = ⊥
IsFirst Names d = ⊥
IsFirst Counts d = ¬ HasCounts d
IsFirst Records d = HasCounts d × (¬ HasRecords d)
IsFirst Lists d = HasCounts d × HasRecords d × (¬ HasLists d)

-- the fault tells it
abbrev pub IsMismatch : Device → Fault → Type 0
IsMismatch d (Mismatch part) = IsFirst part d
IsMismatch d fault = ⊥

-- ---- what a world keeps, from which counts and lists follow

-- the marks of a cell are those of its log
abbrev pub IsMarkedCell : List ℕ → List Record → List InodePart → ℕ → CellState → Type 0
IsMarkedCell snapshots deferred in_hands ino cell = IsCell cell × AreMarksOf (retention_by snapshots deferred in_hands ino cell) cell

-- the marks of each cell are those of its log
abbrev pub HasMarkedCells : Device → Type 0
HasMarkedCells d =
    (ino : ℕ) (default : CellState) → ino < length d.cells
    → IsMarkedCell (ids d.book.snaps) d.book.deferred d.in_hands ino (slice_index_or d.cells ino default)

-- each CPU's list has the numbers of its home range that are not used
abbrev pub AreFromScratch : GeometryNumbers → List FreeBlocks → List ℕ → Type 0
AreFromScratch g lists used =
    (cpu : ℕ) → cpu < g.cpus
    → numbers_of (slice_index_or lists cpu no_list).blocks ≡ unused (has used) (home_start g.blocks g.cpus cpu)
    (home_start g.blocks g.cpus (cpu + 1) - home_start g.blocks g.cpus cpu)
