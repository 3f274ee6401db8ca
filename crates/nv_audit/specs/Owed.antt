-- The records that logs owe to the living snapshots.
use Rattle.std.specs.Prelude.{ℕ, ◌+◌, ◌&&◌, Bool, not, if◌then◌else◌, List, [], ◌∷◌, ◌++◌, Option, None, Some, is_some, map, option_and_then}
use Rattle.std.specs.List.{flat_map}
use Rattle.std.specs.Option.{option_to_list}
use Rattle.nv_book.specs.declared.record.Record.{Record}
use Rattle.nv_cell.specs.Cell.{CellState, log_of}
use Rattle.nv_entry.specs.Held.{is_named}
use Rattle.nv_entry.specs.Log.{pairs}
use Rattle.nv_entry.specs.declared.held.Pair.{Pair}
use Rattle.nv_entry.specs.declared.part.PartId.{PartId}
use Rattle.nv_epoch.specs.Holders.{youngest_holder}
use Rattle.nv_audit.specs.Pending.{of_inode}
use Rattle.nv_audit.specs.declared.part_list.InodePart.{InodePart}

-- when pairs died
abbrev pub died : List Pair → List (Option ℕ)
died ps = map (λ (p : Pair). p.death) ps

-- the record of a pair that died then
abbrev pub record_of : ℕ → Pair → ℕ → Record
record_of ino pair death = record { ino = ino; entry = pair.entry; part = pair.part; birth = pair.birth; death = death }

-- one of these snapshots holds a pair that died then, and it is not named
abbrev pub has_owner : List ℕ → List PartId → Pair → ℕ → Bool
has_owner living named pair death = is_some (youngest_holder living pair.birth death) && not (is_named named pair)

-- the record that a pair is to have for these snapshots, if any
abbrev pub owed_record : List ℕ → List PartId → ℕ → Pair → Option Record
owed_record living named ino pair =
    option_and_then (λ (death : ℕ). if has_owner living named pair death then Some (record_of ino pair death) else None) pair.death

-- the records that several pairs are to have for these snapshots, in order
abbrev pub owed_records : List ℕ → List PartId → ℕ → List Pair → List Record
owed_records living named ino ps = flat_map (λ (p : Pair). option_to_list (owed_record living named ino p)) ps

-- the records that an inode owes, by the pairs of its log
abbrev pub owed_records_by : List ℕ → List PartId → ℕ → CellState → List Record
owed_records_by living named ino cell = owed_records living named ino (pairs cell.block (log_of cell))

-- the records that all inodes from one on owe, where calls have some parts in their hands.
-- Each dead pair has one that a living snapshot holds and no hand has, with the death that the log
-- tells.
abbrev pub owed_records_from : List ℕ → List InodePart → ℕ → List CellState → List Record
owed_records_from living in_hands ino [] = []
owed_records_from living in_hands ino (cell ∷ cells) =
    owed_records_by living (of_inode ino in_hands) ino cell ++ owed_records_from living in_hands (ino + 1) cells
