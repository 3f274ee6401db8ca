-- What a stop leaves of a world with numbers in which no call runs.
use Rattle.std.specs.Prelude.{ℕ, ◌+◌, Bool, if◌then◌else◌, List, [], filter, length, map}
use Rattle.std.specs.List.{flat_map, range_with_len}
use Rattle.nv_audit.specs.Mounted.{is_over, log_records}
use Rattle.nv_book.specs.declared.record.Record.{Record}
use Rattle.nv_cell.specs.Readers.{has_entry}
use Rattle.nv_serial.specs.LogPages.{Page, entries_in}
use Rattle.nv_serial.specs.Serial.{NumberedSlot, Serial, living, log_in}

-- a log page stays at a stop: it has an entry
abbrev pub stays : Page → Bool
stays p = has_entry p.entries

-- a slot after a stop.
-- It is emptied, and of the next generation, where its inode is over.
abbrev pub slot_stopped : (snapshots : List ℕ) → (block : ℕ) → NumberedSlot → NumberedSlot
slot_stopped snapshots block slot =
    if is_over snapshots block (entries_in slot.pages)
    then record { generation = slot.generation + 1; pages = [] }
    else record slot { pages = filter stays slot.pages }

-- the records of a slot after a stop: of each pair that is not current and that a living snapshot
-- holds, in log order.
-- Example: a file is removed under the only snapshot, which is then dropped. Its pairs are
-- deferred, and keep its log. A stop erases it at once: its log pages and its blocks are free,
-- without a drain, and its number may be taken again, of the next generation.
abbrev pub records_stopped : Serial → ℕ → List Record
records_stopped s ino = log_records s.numbers.block (living s) ino (log_in s ino)

-- THE WORLD AFTER A STOP, with the records by rising slot.
-- The plain world stays: no `show` runs, so no snapshot is pinned.
abbrev pub serial_stopped : Serial → Serial
serial_stopped s = record s {
  slots = map (slot_stopped (living s) s.numbers.block) s.slots;
  records = flat_map (records_stopped s) (range_with_len 0 (length s.slots));
}
