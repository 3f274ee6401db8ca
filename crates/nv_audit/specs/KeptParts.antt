-- Records that are those of the parts that are marked kept.
use Rattle.std.specs.Prelude.{◌≡◌, ℕ, ◌<◌, ◌==◌, ◌++◌, Bool, true, false, All, List, Option, Some, None, filter, length, map, [], option_and_then, slice_get, slice_index_or, slice_set}
use Rattle.std.specs.Global.{Vec}
use Rattle.nv_book.specs.Book.{BookState}
use Rattle.nv_book.specs.Listed.{all_records}
use Rattle.nv_book.specs.Records.{is_held_by}
use Rattle.nv_book.specs.declared.record.Record.{Record}
use Rattle.nv_cell.specs.Cell.{CellState, log_of}
use Rattle.nv_cell.specs.Marks.{bit, mark_at}
use Rattle.nv_cell.specs.Named.{number_named}
use Rattle.nv_cell.specs.Numbers.{is_number, part_base}
use Rattle.nv_cell.specs.declared.mark.Mark.{Mark}
use Rattle.nv_cell.specs.declared.mark.Mark.TheVariants.{Current, Killed, Kept, Out}
use Rattle.nv_entry.specs.Held.{holds, is_current, pair_name}
use Rattle.nv_entry.specs.Log.{pairs}
use Rattle.nv_entry.specs.declared.held.Pair.{Pair}
use Rattle.nv_entry.specs.declared.item.Entry.{Entry}
use Rattle.nv_entry.specs.declared.part.PartId.{PartId}
use Rattle.nv_epoch.specs.SnapList.{ids}
use Rattle.nv_audit.specs.Pending.{part_of}
use Rattle.nv_audit.specs.Pool.{no_cell}
use Rattle.nv_audit.specs.declared.kept_parts.KeptParts.{KeptParts}

-- the mark is kept, so that the part has a record
abbrev pub is_marked_as_kept : Mark → Bool
is_marked_as_kept Current = false
is_marked_as_kept Killed = false
is_marked_as_kept Kept = true
is_marked_as_kept Out = false

-- ---- one record

-- the pair of a cell's log that has a name
abbrev pub pair_named : CellState → PartId → Option Pair
pair_named cell id = option_and_then (λ n. slice_get (pairs cell.block (log_of cell)) n) (number_named (log_of cell) id)

-- what a record tells of a pair is so, as far as these snapshots ask
pub record TellsOf (snapshots : List ℕ) (d : Record) (pair : Pair) : Type 0 where
  -- the record has the birth of the pair
  pub birth : pair.birth ≡ d.birth
  -- the pair is current no more
  pub died : is_current pair ≡ false
  -- each of these snapshots holds by the record exactly what it holds by the pair
  pub holders : All (λ (s : ℕ). is_held_by s d ≡ holds s pair) snapshots

-- A RECORD IS OF A PART of a cell's log
pub record IsRecordOf (snapshots : List ℕ) (cell : CellState) (d : Record) : Type 0 where
  -- the number of the part
  pub n : ℕ
  -- the pair of the part
  pub pair : Pair
  -- the pair stands in the cell's log, by this number
  pub is : slice_get (pairs cell.block (log_of cell)) n ≡ Some pair
  -- the record names the pair, by entry and part
  pub name : pair_name pair ≡ part_of d
  -- the record tells the birth of the pair, and which of these snapshots hold it
  pub tells : TellsOf snapshots d pair

-- ---- the records of one cell

-- the record is of the part n of a log
abbrev pub is_record_at : List Entry → ℕ → Record → Bool
is_record_at log n d = is_number (number_named log (part_of d)) n

-- how many records are of the part with this number
abbrev pub times_recorded : List Entry → ℕ → List Record → ℕ
times_recorded log n records = length (filter (is_record_at log n) records)

-- each part that is marked kept is recorded once, and no other part is
abbrev pub AreOnceRecorded : CellState → List Record → Type 0
AreOnceRecorded cell records = (n : ℕ) → times_recorded (log_of cell) n records ≡ bit (is_marked_as_kept (mark_at cell.marks n))

-- THESE ARE THE RECORDS OF A CELL.
-- Example: where the snapshot 2 alone lives, a pair of birth 1 and death 4 may be recorded with
-- the death 3, and not with the death 2.
pub record AreRecordsOf (snapshots : List ℕ) (cell : CellState) (records : List Record) : Type 0 where
  -- each record is of a part of the cell's log
  pub each : All (IsRecordOf snapshots cell) records
  -- a part that is marked kept has one of the records, and any other part has none
  pub once : AreOnceRecorded cell records

-- ---- how they are taken away one by one

-- the number of each entry's first part
pub record AreFirsts (log : List Entry) (firsts : List ℕ) : Type 0 where
  -- there is a number for each entry
  pub len : length firsts ≡ length log
  -- the i-th number is that of the i-th entry's first part
  pub each : (i : ℕ) → i < length log → slice_index_or firsts i 0 ≡ part_base log i

-- a table of the parts of a cell, by number
pub record ArePartsOf (cell : CellState) (parts : KeptParts) : Type 0 where
  -- it has the number of each entry's first part
  pub firsts : AreFirsts (log_of cell) parts.firsts.items
  -- it has a flag for each published part
  pub len : length parts.left.items ≡ length cell.marks

-- the flag of a part is set; where no number is given, it counts as set
abbrev pub is_left : Option ℕ → List Bool → Bool
is_left None left = true
is_left (Some n) left = slice_index_or left n false

-- the flags without that of one part, where its number is given
abbrev pub taken_from : Option ℕ → List Bool → List Bool
taken_from None left = left
taken_from (Some n) left = slice_set left n false

-- ---- all records

-- all records of a book: those of the manifests, oldest snapshot first, and then the deferred ones
abbrev pub records_in : BookState → List Record
records_in book = all_records book.manifests ++ book.deferred

-- the record is of a part of this inode
abbrev pub is_of_slot : ℕ → Record → Bool
is_of_slot ino d = d.ino == ino

-- the records of an inode, in order
abbrev pub records_of : ℕ → List Record → List Record
records_of ino records = filter (is_of_slot ino) records

-- the records in the list of a slot
abbrev pub list_at : List (Vec Record) → ℕ → List Record
list_at lists ino = slice_index_or (map (λ (v : Vec Record). v.items) lists) ino []

-- records in lists, by slot
pub record AreBySlot (slots : ℕ) (records : List Record) (lists : List (Vec Record)) : Type 0 where
  -- there is a list for each slot
  pub len : length lists ≡ slots
  -- the list of a slot has the records of its inode, in order
  pub each : (ino : ℕ) → ino < slots → list_at lists ino ≡ records_of ino records

-- the cell of an inode, or an empty one
abbrev pub cell_in : List CellState → ℕ → CellState
cell_in cells ino = slice_index_or cells ino no_cell

-- THE RECORDS OF A BOOK ARE THOSE OF ALL CELLS
pub record AreAllRecordsOf (book : BookState) (cells : List CellState) : Type 0 where
  -- each record is of a slot
  pub slots : All (λ (d : Record). d.ino < length cells) (records_in book)
  -- the records of a slot are those of its cell
  pub each : (ino : ℕ) → ino < length cells
      → AreRecordsOf (ids book.snaps) (cell_in cells ino) (records_of ino (records_in book))
