-- Which blocks are held once nothing waits to be drained.
use Rattle.std.specs.Prelude.{ℕ, ◌++◌, List, [], length, map}
use Rattle.std.specs.List.{flat_map, range_with_len}
use Rattle.nv_entry.specs.Held.{Retention}
use Rattle.nv_serial.specs.Free.{blocks_kept}
use Rattle.nv_serial.specs.LogPages.{Page}
use Rattle.nv_serial.specs.Serial.{Serial, living, log_in, slot_of}

-- what keeps pairs then: the living snapshots alone
abbrev pub living_alone : Serial → Retention
living_alone s = record { block = s.numbers.block; snapshots = living s; pending = [] }

-- the blocks of a slot that its tree and the living snapshots need: its log pages, and the data of pairs that are current or
-- held by a living snapshot
abbrev pub needed_by : Serial → ℕ → List ℕ
needed_by s ino = map (λ (p : Page). p.number) (slot_of s ino).pages ++ blocks_kept (living_alone s) (log_in s ino)

-- the blocks that the tree and the living snapshots need
abbrev pub needed_in : Serial → List ℕ
needed_in s = flat_map (needed_by s) (range_with_len 0 (length s.slots))
