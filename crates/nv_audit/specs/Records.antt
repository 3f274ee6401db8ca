-- Records that are those of a scan of all logs.
use Rattle.std.specs.Prelude.{ℕ, ◌+◌, ◌&&◌, All, Bool, not, if◌then◌else◌, List, [], ◌∷◌, ◌++◌, filter, map}
use Rattle.std.specs.List.{flat_map}
use Rattle.nv_entry.specs.declared.held.Pair.{Pair}
use Rattle.nv_entry.specs.declared.item.Entry.{Entry}
use Rattle.nv_entry.specs.declared.part.PartId.{PartId}
use Rattle.nv_entry.specs.Held.{holds, is_current, is_named, pair_name}
use Rattle.nv_entry.specs.Log.{pairs}
use Rattle.nv_epoch.specs.SnapList.{ids}
use Rattle.nv_cell.specs.Cell.{CellState, CellValue, log_of}
use Rattle.nv_book.specs.Book.{BookState}
use Rattle.nv_book.specs.Records.{is_held_by}
use Rattle.nv_book.specs.declared.manifest.Manifest.{Manifest}
use Rattle.nv_book.specs.declared.record.Record.{Record}
use Rattle.nv_audit.specs.PartLists.{HaveSameParts}
use Rattle.nv_audit.specs.Pending.{of_inode, part_of}
use Rattle.nv_audit.specs.declared.part_list.InodePart.{InodePart}

-- the states of cells, in order
abbrev pub states_of : List CellValue → List CellState
states_of cells = map (λ (c : CellValue). c.state) cells

-- ---- by the records

-- the part of a record, with its inode
abbrev pub inode_part : Record → InodePart
inode_part r = record { ino = r.ino; part = part_of r }

-- the parts that a snapshot holds by some records
abbrev pub recorded_in : ℕ → List Record → List InodePart
recorded_in s records = map inode_part (filter (is_held_by s) records)

-- the parts that a snapshot holds by the records of a book, filed and deferred
abbrev pub recorded_as : ℕ → BookState → List InodePart
recorded_as s book = flat_map (λ (m : Manifest). recorded_in s m.records) book.manifests ++ recorded_in s book.deferred

-- ---- by the logs

-- a snapshot holds a pair that is neither current nor named
abbrev pub is_owed : ℕ → List PartId → Pair → Bool
is_owed s named pair = holds s pair && (not (is_current pair) && not (is_named named pair))

-- the name of a pair's part, with its inode
abbrev pub part_in : ℕ → Pair → InodePart
part_in ino pair = record { ino = ino; part = pair_name pair }

-- the part of a pair, where the snapshot is owed a record of it
abbrev pub owed_pair : ℕ → List PartId → ℕ → Pair → List InodePart
owed_pair s named ino pair = if is_owed s named pair then part_in ino pair ∷ [] else []

-- the parts of an inode's log that a snapshot is owed records of
abbrev pub owed_in : ℕ → List PartId → ℕ → ℕ → List Entry → List InodePart
owed_in s named ino block log = flat_map (owed_pair s named ino) (pairs block log)

-- the parts of a cell that a snapshot is owed records of
abbrev pub owed_by : ℕ → List PartId → ℕ → CellState → List InodePart
owed_by s named ino cell = owed_in s named ino cell.block (log_of cell)

-- the parts of all inodes from one on that a snapshot is owed records of, where calls have some
-- parts in their hands
abbrev pub owed_from : ℕ → List InodePart → ℕ → List CellState → List InodePart
owed_from s in_hands ino [] = []
owed_from s in_hands ino (cell ∷ cells) = owed_by s (of_inode ino in_hands) ino cell ++ owed_from s in_hands (ino + 1) cells

-- a snapshot holds by the records just what the logs owe it
abbrev pub IsRecorded : List CellState → BookState → List InodePart → ℕ → Type 0
IsRecorded cells book in_hands s = HaveSameParts (recorded_as s book) (owed_from s in_hands 0 cells)

-- each living snapshot holds by the records just what the logs owe it.
-- Manifests and the deferred list count together. A part is owed once if the snapshot holds its
-- pair and the pair is neither current nor in a hand. Else it is not owed.
abbrev pub AreRecorded : List CellState → BookState → List InodePart → Type 0
AreRecorded cells book in_hands = All (IsRecorded cells book in_hands) (ids book.snaps)
