-- PARTS of what actors share, and the shared states that have them.
use Rattle.std.specs.Prelude.{◌≡◌, ◌≢◌, ℕ, ◌+◌, ◌<◌, List, [], ◌∷◌, length, Option}
use Rattle.std.specs.List.{AllByRecursion}
use Rattle.nv_alloc.specs.FreeList.{FreeBlocks}
use Rattle.nv_alloc.specs.InodePool.{FreeInodes}
use Rattle.nv_base.specs.Homes.{home_start}
use Rattle.nv_base.specs.declared.geometry.GeometryNumbers.{GeometryNumbers}
use Rattle.nv_book.specs.Book.{BookState}
use Rattle.nv_cell.specs.Cell.{CellState}
use Rattle.nv_machine.specs.World.{Shared, cell_at, list_at, owner_at, with_book, with_cell, with_list, with_owner}

-- a part of what actors share, and what it is
pub data Part : Type 0 where
  -- the free list of a CPU
  ListIs : (cpu : ℕ) (list : FreeBlocks) → Part
  -- the pool of free inode numbers
  PoolIs : (pool : FreeInodes) → Part
  -- the cell of a slot
  CellIs : (ino : ℕ) (cell : CellState) → Part
  -- the actor that has the lock of a slot
  OwnerIs : (ino : ℕ) (owner : Option ℕ) → Part
  -- the book
  BookIs : (book : BookState) → Part
  -- the actor that has the commit lock
  HolderIs : (holder : Option ℕ) → Part

-- ---- states that have parts

-- a shared state has that part, at a place that is there
abbrev pub HasPart : Shared → Part → Type 0
HasPart s (ListIs cpu list) = (cpu < length s.lists) × (list_at s cpu ≡ list)
HasPart s (PoolIs pool) = s.pool ≡ pool
HasPart s (CellIs ino cell) = (ino < length s.cells) × (cell_at s ino ≡ cell)
HasPart s (OwnerIs ino owner) = (ino < length s.owners) × (owner_at s ino ≡ owner)
HasPart s (BookIs book) = s.book ≡ book
HasPart s (HolderIs holder) = s.holder ≡ holder

-- it has all of these
abbrev pub Has : Shared → List Part → Type 0
Has s parts = AllByRecursion (HasPart s) parts

-- a shared state with that part in place of its own
abbrev pub with_part : Part → Shared → Shared
with_part (ListIs cpu list) s = with_list cpu list s
with_part (PoolIs pool) s = record s { pool = pool }
with_part (CellIs ino cell) s = with_cell ino cell s
with_part (OwnerIs ino owner) s = with_owner ino owner s
with_part (BookIs book) s = with_book book s
with_part (HolderIs holder) s = record s { holder = holder }

-- with all of these
abbrev pub with_parts : List Part → Shared → Shared
with_parts [] s = s
with_parts (part ∷ parts) s = with_parts parts (with_part part s)

-- ---- states of a device

-- the home range of a list is that of a CPU
pub record IsAtHome (numbers : GeometryNumbers) (cpu : ℕ) (list : FreeBlocks) : Type 0 where
  -- it begins where the CPU's home range begins
  pub start : list.start ≡ home_start numbers.blocks numbers.cpus cpu
  -- it ends where the next CPU's begins
  pub end : list.end ≡ home_start numbers.blocks numbers.cpus (cpu + 1)

-- a shared state has as many lists, cells and locks of slots as these numbers say, and each list is at home on its CPU
pub record IsOf (numbers : GeometryNumbers) (s : Shared) : Type 0 where
  -- each CPU has a free list
  pub lists : length s.lists ≡ numbers.cpus
  -- it is at home there
  pub homes : (cpu : ℕ) → cpu < numbers.cpus → IsAtHome numbers cpu (list_at s cpu)
  -- each slot has a cell
  pub cells : length s.cells ≡ numbers.inodes
  -- each slot has a lock
  pub owners : length s.owners ≡ numbers.inodes

-- SOME SHARED STATE of these numbers has these parts.
-- A turn that found a part twice, and otherwise, is found by no state: what is said of all states that have it says nothing.
pub record IsThere (numbers : GeometryNumbers) (parts : List Part) : Type 0 where
  -- the state
  pub shared : Shared
  -- it is of these numbers
  pub is_of : IsOf numbers shared
  -- it has these parts
  pub has : Has shared parts

-- ---- parts at places apart

-- where a part stands
pub data Place : Type 0 where
  -- among the free lists, that of a CPU
  ListAt : (cpu : ℕ) → Place
  -- the pool has one place
  ThePool : Place
  -- among the cells, that of a slot
  CellAt : (ino : ℕ) → Place
  -- among the locks of slots, that of a slot
  OwnerAt : (ino : ℕ) → Place
  -- the book has one place
  TheBook : Place
  -- the commit lock has one place
  TheHolder : Place

-- the place of a part
abbrev pub place_of : Part → Place
place_of (ListIs cpu list) = ListAt cpu
place_of (PoolIs pool) = ThePool
place_of (CellIs ino cell) = CellAt ino
place_of (OwnerIs ino owner) = OwnerAt ino
place_of (BookIs book) = TheBook
place_of (HolderIs holder) = TheHolder

-- no two of these parts have one place
abbrev pub AreApart : List Part → Type 0
AreApart [] = Unit {0}
AreApart (part ∷ parts) = AllByRecursion (λ other. place_of other ≢ place_of part) parts × AreApart parts

-- the place of a part is one that these numbers tell, and a list is at home there
abbrev pub IsPartOf : GeometryNumbers → Part → Type 0
IsPartOf numbers (ListIs cpu list) = (cpu < numbers.cpus) × IsAtHome numbers cpu list
IsPartOf numbers (CellIs ino cell) = ino < numbers.inodes
IsPartOf numbers (OwnerIs ino owner) = ino < numbers.inodes
IsPartOf numbers other = Unit {0}
