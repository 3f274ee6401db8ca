-- The parts of a device at rest, and the first of them that differs.
use Rattle.std.specs.Prelude.{◌≡◌, ℕ, ◌<◌, ◌⊎◌, All, List, [], length, slice_index_or}
use Rattle.std.specs.Global.{Vec}
use Rattle.nv_alloc.specs.FreeList.{FreeBlocks}
use Rattle.nv_alloc.specs.InodePool.{FreeInodes}
use Rattle.nv_alloc.specs.Numbers.{IsEachOnce}
use Rattle.nv_base.specs.declared.fault.MismatchPart.{MismatchPart}
use Rattle.nv_base.specs.declared.fault.MismatchPart.TheVariants.{Index, Names, Counts, Records, Lists}
use Rattle.nv_base.specs.declared.geometry.GeometryNumbers.{GeometryNumbers}
use Rattle.nv_book.specs.Book.{BookState, IsBookOf}
use Rattle.nv_cell.specs.Cell.{CellState, IsCell, log_of}
use Rattle.nv_cell.specs.Shape.{IsLeftShaped}
use Rattle.nv_entry.specs.declared.part.PartId.{PartId}
use Rattle.nv_epoch.specs.SnapList.{ids}
use Rattle.nv_audit.specs.AtRest.{HasNoneKilled, IsAtRest, IsOneBook, IsUpTo}
use Rattle.nv_audit.specs.Blocks.{all_blocks}
use Rattle.nv_audit.specs.DeviceParts.{AreListsOf, AreSlotsOf}
use Rattle.nv_audit.specs.KeptParts.{AreAllRecordsOf, cell_in}
use Rattle.nv_audit.specs.Lists.{blocks_had}
use Rattle.nv_audit.specs.LogShape.{IsHeldLawful}
use Rattle.nv_audit.specs.Nodes.{AreTrees}
use Rattle.nv_audit.specs.Pending.{ArePendingOf}
use Rattle.nv_audit.specs.Pool.{IsPoolOf}
use Rattle.nv_audit.specs.Records.{AreRecorded}
use Rattle.nv_audit.specs.Sound.{EndsAtSize}
use Rattle.nv_audit.specs.Tree.{IsOnce}
use Rattle.nv_audit.specs.Whole.{IsCountedBy}

-- ---- inode by inode

-- `index`: what is asked of a cell at rest, beside names and counts
pub record HasIndex (cell : CellState) : Type 0 where
  -- the cell is whole, as each cell is at all times
  pub whole : IsCell cell
  -- no entry stands past the tail
  pub tail : cell.chain.tail ≡ length cell.chain.entries
  -- no two parts have one block
  pub apart : IsOnce (blocks_had cell)
  -- the file ends at its size
  pub ends : EndsAtSize cell

-- `names`: the log of a cell is of its shape
pub record HasShape (living : List ℕ) (cell : CellState) : Type 0 where
  -- the log is of the shape that cleaners leave
  pub shape : IsLeftShaped cell.block (log_of cell)
  -- a log of which a living snapshot holds a pair is lawful from nothing on
  pub held : IsHeldLawful cell.block living (log_of cell)

-- `counts`: the counts of an inode's log pages are those of its log, where hands are empty
abbrev pub HasCounts : BookState → ℕ → CellState → Type 0
HasCounts book ino cell = IsCountedBy (ids book.snaps) book.deferred [] ino cell

-- an inode at rest
pub record IsInodeAtRest (book : BookState) (ino : ℕ) (cell : CellState) : Type 0 where
  -- the cell is at rest, and its file ends at its size
  pub index : HasIndex cell
  -- the log is of its shape
  pub names : HasShape (ids book.snaps) cell
  -- the counts of log pages are those of the log
  pub counts : HasCounts book ino cell

-- each inode is at rest
abbrev pub AreInodesAtRest : BookState → List CellState → Type 0
AreInodesAtRest book cells =
    (ino : ℕ) (default : CellState) → ino < length cells → IsInodeAtRest book ino (slice_index_or cells ino default)

-- what a book says beside each inode
pub record IsBookWith (snapshots : List ℕ) (lists : List (Vec PartId)) (book : BookState) : Type 0 where
  -- these are the living snapshots of the book
  pub living : snapshots ≡ ids book.snaps
  -- the lists name the deferred parts of each slot, and nothing is in hands
  pub pending : ArePendingOf (length lists) book.deferred [] lists

-- the first part of an inode that differs
abbrev pub IsFirstOfInode : MismatchPart → BookState → ℕ → CellState → Type 0
IsFirstOfInode Index book ino cell = ¬ HasIndex cell
IsFirstOfInode Names book ino cell = HasIndex cell × (¬ HasShape (ids book.snaps) cell)
IsFirstOfInode Counts book ino cell = HasIndex cell × HasShape (ids book.snaps) cell × (¬ HasCounts book ino cell)
IsFirstOfInode Records book ino cell = ⊥
IsFirstOfInode Lists book ino cell = ⊥

-- the first inode that differs does so in this part
pub record IsFirstOfInodes (part : MismatchPart) (book : BookState) (cells : List CellState) : Type 0 where
  -- the first inode that differs
  pub ino : ℕ
  -- it has a cell
  pub within : ino < length cells
  -- each inode before it is at rest
  pub before : (k : ℕ) → k < ino → IsInodeAtRest book k (cell_in cells k)
  -- the part is the first of this inode that differs
  pub differs : IsFirstOfInode part book ino (cell_in cells ino)

-- ---- records and lists

-- a cell beside a book at rest
pub record IsOfPast (book : BookState) (cell : CellState) : Type 0 where
  -- no part is marked killed
  pub alive : HasNoneKilled cell
  -- the version is at most the book's commit number, and no entry is later than the book
  pub past : IsUpTo book.commit book.snaps.epoch cell

-- `records`: THE RECORDS AT REST, in a book and for all cells
pub record HaveRecords (cells : List CellState) (book : BookState) : Type 0 where
  -- the book is one, as each is at all times
  pub whole : IsOneBook book
  -- no snapshot is pinned, and no journal is open
  pub rest : IsAtRest book
  -- no cell has a killed part, or anything later than the book
  pub past : All (IsOfPast book) cells
  -- each part that is marked kept has its one record, and no other part has a record
  pub kept : AreAllRecordsOf book cells
  -- each living snapshot holds by the records just what the logs owe it
  pub scan : AreRecorded cells book []

-- `lists`: THE LISTS AT REST, with all that is made for the device
pub record HaveLists (g : GeometryNumbers) (cells : List CellState) (lists : List FreeBlocks) (pool : FreeInodes) (book : BookState)
    : Type 0 where
  -- the book has a journal for each CPU, and the device's limit of snapshots
  pub made : IsBookOf g book
  -- each CPU has a free list of its home range
  pub homes : AreListsOf g lists
  -- each inode slot has a cell that fits the device
  pub slots : AreSlotsOf g cells
  -- the pool has the numbers of slots that are not in use
  pub numbers : IsPoolOf g cells pool
  -- each block number of the device stands once in free lists and cells
  pub once : IsEachOnce g.blocks (all_blocks lists cells)

-- ---- the whole

-- PARTS AT REST
pub record AreAtRest (g : GeometryNumbers) (cells : List CellState) (lists : List FreeBlocks) (pool : FreeInodes) (book : BookState)
    : Type 0 where
  -- each inode is at rest: its index, its names and its counts
  pub inodes : AreInodesAtRest book cells
  -- directories form a tree, now and at each living snapshot
  pub trees : AreTrees (ids book.snaps) cells
  -- the records are those of a book at rest
  pub records : HaveRecords cells book
  -- the parts are made for the device, and each block stands once
  pub device : HaveLists g cells lists pool book

-- the FIRST PART that differs: inode by inode, then `names` for the trees, `records` and `lists`.
-- Example: it is `counts` where slot 3 has a wrong count, and slot 5 an entry past its tail.
abbrev pub IsFirstAtRest : MismatchPart → GeometryNumbers → List CellState → List FreeBlocks → FreeInodes → BookState → Type 0
IsFirstAtRest Index g cells lists pool book = IsFirstOfInodes Index book cells
IsFirstAtRest Names g cells lists pool book =
    IsFirstOfInodes Names book cells ⊎ (AreInodesAtRest book cells × (¬ AreTrees (ids book.snaps) cells))
IsFirstAtRest Counts g cells lists pool book = IsFirstOfInodes Counts book cells
IsFirstAtRest Records g cells lists pool book =
    AreInodesAtRest book cells × AreTrees (ids book.snaps) cells × (¬ HaveRecords cells book)
IsFirstAtRest Lists g cells lists pool book =
    AreInodesAtRest book cells × AreTrees (ids book.snaps) cells × HaveRecords cells book × (¬ HaveLists g cells lists pool book)
