-- The free lists by the logs: which blocks are used, said by logs, chains and hands, and not by the
-- blocks that cells have.
use Rattle.std.specs.Prelude.{ℕ, ◌+◌, ◌-◌, ◌==◌, Bool, true, if◌then◌else◌, List, [], ◌∷◌, ◌++◌, drop, filter, length, map, take, Option, Some, None, option_to_list, slice_get}
use Rattle.std.specs.List.{flat_map, range_with_len}
use Rattle.nv_alloc.specs.Block.{numbers_of}
use Rattle.nv_alloc.specs.Numbers.{has, unused}
use Rattle.nv_base.specs.Homes.{home_start}
use Rattle.nv_base.specs.declared.geometry.GeometryNumbers.{GeometryNumbers}
use Rattle.nv_book.specs.declared.record.Record.{Record}
use Rattle.nv_cell.specs.Cell.{CellState, log_of, page_block}
use Rattle.nv_cell.specs.declared.killed.KilledPart.{KilledPart}
use Rattle.nv_calls.specs.Retiring.{name_of}
use Rattle.nv_entry.specs.Covered.{part_total}
use Rattle.nv_entry.specs.declared.held.Pair.{Pair}
use Rattle.nv_entry.specs.declared.part.PartId.{PartId}
use Rattle.nv_entry.specs.Held.{Retention, keeps}
use Rattle.nv_entry.specs.Log.{pairs}
use Rattle.nv_epoch.specs.SnapList.{ids}
use Rattle.nv_machine.specs.Numbers.{held_by_actor}
use Rattle.nv_machine.specs.Reads.{written_slots}
use Rattle.nv_machine.specs.World.{Actor, Close, HandState, LockPicked, Next, Publish, Release, Retire, Running, SnapshotOrCleanerStep, SnapshotOrCleaner, World, cell_at}

-- ---- what is killed: published over, and not yet retired

-- the slots whose killed parts a hand has, list by list
abbrev pub killed_slots : Next → List ℕ → List ℕ
killed_slots (Publish place) written = take place written
killed_slots Close written = written
killed_slots (Retire place) written = drop place written
killed_slots other written = []

-- of lists of killed parts that belong to these slots one by one, the list of one slot
abbrev pub parts_for : List ℕ → List (List KilledPart) → ℕ → List KilledPart
parts_for [] killed ino = []
parts_for (slot ∷ slots) [] ino = []
parts_for (slot ∷ slots) (parts ∷ rest) ino = if slot == ino then parts else parts_for slots rest ino

-- the parts of an inode that a call has killed and not yet retired
abbrev pub killed_by_call : Option Running → HandState → ℕ → List KilledPart
killed_by_call None h ino = []
killed_by_call (Some r) h ino = parts_for (killed_slots r.next (written_slots r)) h.killed ino

-- the parts of an inode that an actor's call has killed and not yet retired
abbrev pub killed_by_actor : ℕ → Actor → List KilledPart
killed_by_actor ino actor = killed_by_call actor.running actor.hand ino

-- the parts of a slot that calls have killed and not yet retired, in all hands
abbrev pub killed_in : World → ℕ → List KilledPart
killed_in w ino = flat_map (killed_by_actor ino) w.actors

-- ---- what is pending: deferred, or picked by a drain and not yet released

-- the record that a drain has picked, at such a step
abbrev pub picked_on : SnapshotOrCleanerStep → List Record
picked_on (LockPicked draining picked) = picked ∷ []
picked_on (Release draining picked) = picked ∷ []
picked_on other = []

-- the record that a call has picked, if it has
abbrev pub picked_at : Next → List Record
picked_at (SnapshotOrCleaner step) = picked_on step
picked_at other = []

-- the record that a running call has picked, if it has
abbrev pub picked_by_call : Option Running → List Record
picked_by_call None = []
picked_by_call (Some r) = picked_at r.next

-- the record that an actor's call has picked, if it has
abbrev pub picked_by_actor : Actor → List Record
picked_by_actor actor = picked_by_call actor.running

-- the records that wait: deferred, or picked and not yet released
abbrev pub pending_in : World → List Record
pending_in w = w.shared.book.deferred ++ flat_map picked_by_actor w.actors

-- the record is of a part in this slot
abbrev pub is_of_slot : ℕ → Record → Bool
is_of_slot ino d = d.ino == ino

-- the parts of a slot that are deferred, or picked and not yet released, by name
abbrev pub pending_at : World → ℕ → List PartId
pending_at w ino = map name_of (filter (is_of_slot ino) (pending_in w))

-- what keeps the pairs of a slot: the living snapshots, and by name the pairs that are pending or
-- killed
abbrev pub retention_at : World → ℕ → Retention
retention_at w ino = record {
  block = (cell_at w.shared ino).block;
  snapshots = ids w.shared.book.snaps;
  pending = pending_at w ino ++ map (λ (k : KilledPart). k.part) (killed_in w ino);
}

-- ---- what is used

-- a pair is in use that is needed, pending or killed; a part that has no pair yet is too
abbrev pub in_use_by : Retention → Option Pair → Bool
in_use_by r None = true
in_use_by r (Some pair) = keeps r pair

-- a part is in use whose pair is, and so is each part past the tail, which the commit under way
-- has appended
abbrev pub is_in_use : Retention → CellState → ℕ → Bool
is_in_use r cell n = in_use_by r (slice_get (pairs cell.block (log_of cell)) n)

-- the block of a part in use, as its entry says, if it is a file page
abbrev pub block_in_use : Retention → CellState → ℕ → Option ℕ
block_in_use r cell n = if is_in_use r cell n then page_block cell.block cell.chain.entries n else None

-- the blocks of all parts in use of a slot
abbrev pub blocks_in_use : Retention → CellState → List ℕ
blocks_in_use r cell =
    flat_map (λ n. option_to_list (block_in_use r cell n)) (range_with_len 0 (part_total cell.chain.entries))

-- the blocks of a slot: the log pages of its chain, and those of its parts in use
abbrev pub used_by_slot : World → ℕ → List ℕ
used_by_slot w ino = numbers_of (cell_at w.shared ino).chain.blocks ++ blocks_in_use (retention_at w ino) (cell_at w.shared ino)

-- THE USED BLOCKS: the log pages of chains, the blocks that entries say of file pages in use, and
-- those in hands
abbrev pub used_by_logs : World → List ℕ
used_by_logs w = flat_map (used_by_slot w) (range_with_len 0 (length w.shared.cells)) ++ flat_map held_by_actor w.actors

-- THE FREE LIST OF A CPU BY THE LOGS: the numbers of its home range that are not used. What the
-- cells have for parts is not asked.
abbrev pub free_by_logs : GeometryNumbers → World → ℕ → List ℕ
free_by_logs g w cpu =
    unused (has (used_by_logs w)) (home_start g.blocks g.cpus cpu)
    (home_start g.blocks g.cpus (cpu + 1) - home_start g.blocks g.cpus cpu)
