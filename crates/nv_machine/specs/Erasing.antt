-- What becomes of an inode that is gone, once nothing is kept of it.
use Rattle.std.specs.Prelude.{◌≡◌, ◌⊎◌, ℕ, ◌+◌, ◌++◌, Bool, true, false, if◌then◌else◌, List, Option, Some, None, filter, map, slice_index_or}
use Rattle.std.specs.List.{AllByRecursion}
use Rattle.nv_alloc.specs.Block.{BlockValue, numbers_of}
use Rattle.nv_alloc.specs.Numbers.{has}
use Rattle.nv_book.specs.declared.record.Record.{Record}
use Rattle.nv_cell.specs.Cell.{CellState, empty_cell}
use Rattle.nv_cell.specs.Readers.{is_gone, is_withheld}
use Rattle.nv_entry.specs.Held.{Retention, keeps}
use Rattle.nv_entry.specs.Log.{pairs}
use Rattle.nv_entry.specs.declared.held.Pair.{Pair}
use Rattle.nv_epoch.specs.SnapList.{ids}
use Rattle.nv_calls.specs.Retiring.{name_of}
use Rattle.nv_machine.specs.Held.{is_of_slot, pending_in}
use Rattle.nv_machine.specs.Settled.{settled}
use Rattle.nv_machine.specs.Step.{changed}
use Rattle.nv_machine.specs.World.{ReturnNumber, Give, Leave, Next, Pick, Retire, Running, Shared, SnapshotOrCleaner, Unlock, World, actor_at, cell_at, empty_hand}

-- what keeps the pairs of a slot, apart from hands that have killed them: the living snapshots,
-- and by name these records that are pending
abbrev pub keepers_of : List Record → Shared → ℕ → Retention
keepers_of pending s ino = record {
  block = (cell_at s ino).block;
  snapshots = ids s.book.snaps;
  pending = map name_of (filter (is_of_slot ino) pending);
}

-- THE INODE OF A SLOT IS GONE, AND NOTHING IS KEPT OF IT
pub record IsOver (pending : List Record) (s : Shared) (ino : ℕ) : Type 0 where
  -- the settled log ends with the entry that says it is gone
  pub gone : is_gone (settled s ino) ≡ true
  -- no pair of that log is current, held by a living snapshot, or among these that are pending
  pub kept : AllByRecursion (λ (pair : Pair). keeps (keepers_of pending s ino) pair ≡ false)
      (pairs (cell_at s ino).block (settled s ino))

-- what is pending, apart from what this actor has picked
abbrev pub pending_but : ℕ → World → List Record
pending_but actor w = pending_in (changed w.shared empty_hand None actor w)

-- the slot as it is left: empty, of the next generation, and of the version that it had
abbrev pub emptied : CellState → CellState
emptied cell = empty_cell cell.block cell.chain.page (cell.generation + 1) cell.version

-- ERASED WHOLE, by a step of an actor
pub record IsErasedWhole (actor ino : ℕ) (w t : World) : Type 0 where
  -- the slot is empty, and of the next generation
  pub slot : cell_at t.shared ino ≡ emptied (cell_at w.shared ino)
  -- the hand has the log pages of its chain behind those that it had
  pub chain : (actor_at t actor).hand.chain ≡ (actor_at w actor).hand.chain ++ (cell_at w.shared ino).chain.blocks
  -- the hand has the block of each of its parts
  pub blocks : (n : ℕ) (b : BlockValue) → slice_index_or (cell_at w.shared ino).blocks n None ≡ Some b
      → has (numbers_of (actor_at t actor).hand.blocks) b.number ≡ true
  -- the hand has its number, unless the generation is the last
  pub number : (actor_at t actor).hand.ino ≡ (if is_withheld (cell_at t.shared ino) then None else Some ino)

-- ---- the number goes back

-- a call that has to retire what it killed, or has only its last steps left
abbrev pub is_late : Next → Bool
is_late (Retire place) = true
is_late Leave = true
is_late (Unlock place) = true
is_late (Give cpu) = true
is_late ReturnNumber = true
is_late other = false

-- a number is on its way to the pool, in the hand of a call that has only such steps left
pub record IsOnItsWay (actor ino : ℕ) (w : World) : Type 0 where
  -- the call that the actor runs
  pub running : Running
  -- the actor runs it
  pub runs : (actor_at w actor).running ≡ Some running
  -- it retires, or has only its last steps left
  pub late : is_late running.next ≡ true
  -- the number is in the actor's hand
  pub number : (actor_at w actor).hand.ino ≡ Some ino

-- a call has ended, or a drain is to pick its next record
abbrev pub is_done_with : Option Running → Bool
is_done_with None = true
is_done_with (Some r) = picks_next r.next where
  picks_next : Next → Bool
  picks_next (SnapshotOrCleaner (Pick draining)) = true
  picks_next other = false

-- the number is back in the pool. Example: a file with its log page in block 1 and a page in block
-- 2 is unlinked. After the 14th step of that call its inode slot is empty, and of generation 2.
-- The hand has blocks 1 and 2 and the number. The number is in the pool at the end of the call.
pub record IsBack (actor ino : ℕ) (w : World) : Type 0 where
  -- the actor's call has ended, or a drain is to pick its next record
  pub ended : is_done_with (actor_at w actor).running ≡ true
  -- the pool has the number
  pub pool : has w.shared.pool.numbers ino ≡ true

-- the number is on its way, or in the pool
abbrev pub IsOnItsWayOrBack : ℕ → ℕ → World → Type 0
IsOnItsWayOrBack actor ino w = IsOnItsWay actor ino w ⊎ IsBack actor ino w
