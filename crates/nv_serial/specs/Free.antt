-- Which numbers are free, by the logs of a world with numbers: blocks in the order in which an actor takes them, and slots.
use Rattle.std.specs.Prelude.{ℕ, ◌+◌, ◌-◌, ◌%◌, ◌||◌, ◌++◌, Bool, if◌then◌else◌, nat_le, List, length, map, Option, None, option_to_list, slice_get}
use Rattle.std.specs.List.{flat_map, range_with_len}
use Rattle.nv_alloc.specs.Numbers.{has, unused}
use Rattle.nv_base.specs.Homes.{home_start}
use Rattle.nv_base.specs.declared.limits.TheConstants.{NUMBER}
use Rattle.nv_cell.specs.Cell.{page_block}
use Rattle.nv_cell.specs.Readers.{has_entry}
use Rattle.nv_entry.specs.Covered.{part_total}
use Rattle.nv_entry.specs.Held.{Retention}
use Rattle.nv_entry.specs.Log.{pairs}
use Rattle.nv_entry.specs.declared.item.Entry.{Entry}
use Rattle.nv_machine.specs.Held.{in_use_by}
use Rattle.nv_serial.specs.LogPages.{Page}
use Rattle.nv_serial.specs.Serial.{Serial, keepers, log_in, slot_of}

-- ---- blocks

-- the block of the part n of a log, where its pair is kept
abbrev pub block_kept : Retention → List Entry → ℕ → Option ℕ
block_kept r log n = if in_use_by r (slice_get (pairs r.block log) n) then page_block r.block log n else None

-- the blocks of a log that are kept
abbrev pub blocks_kept : Retention → List Entry → List ℕ
blocks_kept r log = flat_map (λ n. option_to_list (block_kept r log n)) (range_with_len 0 (part_total log))

-- the blocks of a slot: its log pages, and the data of pairs that are kept
abbrev pub used_by : Serial → ℕ → List ℕ
used_by s ino = map (λ (p : Page). p.number) (slot_of s ino).pages ++ blocks_kept (keepers s ino) (log_in s ino)

-- the blocks in use: log pages, and data blocks of pairs that are kept.
-- A pair is kept by being current, by a living snapshot, or by a deferred record.
abbrev pub used_in : Serial → List ℕ
used_in s = flat_map (used_by s) (range_with_len 0 (length s.slots))

-- the free blocks of a CPU: the other numbers of its home range, lowest first
abbrev pub free_on : Serial → ℕ → List ℕ
free_on s cpu =
    unused (has (used_in s)) (home_start s.numbers.blocks s.numbers.cpus cpu)
    (home_start s.numbers.blocks s.numbers.cpus (cpu + 1) - home_start s.numbers.blocks s.numbers.cpus cpu)

-- THE ROW of an actor: all free blocks in the order in which it takes them.
-- Those of its own CPU come first, which is its number modulo the CPUs, and then those of the next
-- CPUs, in a circle. Example: where 4 to 7 are free on CPU 0 and 8 to 15 on CPU 1, the row of
-- actor 1 is 8 to 15 and then 4 to 7.
abbrev pub row_of : Serial → ℕ → List ℕ
row_of s actor = flat_map (λ k. free_on s ((actor + k) % s.numbers.cpus)) (range_with_len 0 s.numbers.cpus)

-- ---- slots

-- a slot that has an inode, or is of the last generation
abbrev pub is_taken : Serial → ℕ → Bool
is_taken s ino = has_entry (log_in s ino) || nat_le NUMBER (slot_of s ino).generation

-- the free inode numbers, lowest first: of slots without an entry, and not of the last generation
abbrev pub pool_of : Serial → List ℕ
pool_of s = unused (is_taken s) 0 (length s.slots)
