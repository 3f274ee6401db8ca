-- What is left once all that was deferred is drained: which blocks are needed, and how many records
-- drains were answered.
use Rattle.std.specs.Prelude.{◌≡◌, ℕ, ◌+◌, ◌-◌, ◌++◌, Bool, true, false, if◌then◌else◌, List, [], ◌∷◌, length, Option, Some, None, option_to_list, slice_get}
use Rattle.std.specs.List.{AllByRecursion, flat_map, range_with_len}
use Rattle.nv_alloc.specs.Block.{numbers_of}
use Rattle.nv_alloc.specs.Numbers.{has, unused}
use Rattle.nv_base.specs.Homes.{home_start}
use Rattle.nv_base.specs.declared.geometry.GeometryNumbers.{GeometryNumbers}
use Rattle.nv_calls.specs.declared.answer.Answer.TheVariants as answers
use Rattle.nv_calls.specs.declared.call.Call.{Call}
use Rattle.nv_calls.specs.declared.call.Call.TheVariants as call
use Rattle.nv_calls.specs.declared.snapshot_or_cleaner_call.SnapshotOrCleanerCall.TheVariants as on
use Rattle.nv_cell.specs.Cell.{CellState, log_of, page_block}
use Rattle.nv_entry.specs.Covered.{part_total}
use Rattle.nv_entry.specs.Held.{is_needed}
use Rattle.nv_entry.specs.Log.{pairs}
use Rattle.nv_entry.specs.declared.held.Pair.{Pair}
use Rattle.nv_epoch.specs.SnapList.{ids}
use Rattle.nv_machine.specs.Step.{step}
use Rattle.nv_machine.specs.World.{Done, Event, Go, Reply, Running, Start, World, actor_at, cell_at}

-- ---- what is needed

-- a pair is needed that is current or that a living snapshot holds
abbrev pub is_needed_pair : List ℕ → Option Pair → Bool
is_needed_pair living None = false
is_needed_pair living (Some pair) = is_needed living pair

-- the block of a needed pair, as its entry says, if it is one of a file page
abbrev pub needed_block : List ℕ → CellState → ℕ → Option ℕ
needed_block living cell n =
    if is_needed_pair living (slice_get (pairs cell.block (log_of cell)) n) then page_block cell.block (log_of cell) n else None

-- the blocks of all needed pairs of a log
abbrev pub needed_blocks : List ℕ → CellState → List ℕ
needed_blocks living cell = flat_map (λ n. option_to_list (needed_block living cell n)) (range_with_len 0 (part_total (log_of cell)))

-- the blocks that a slot needs: the log pages of its chain, and those of the needed pairs of its
-- log
abbrev pub needed_by_slot : World → ℕ → List ℕ
needed_by_slot w ino =
    numbers_of (cell_at w.shared ino).chain.blocks ++ needed_blocks (ids w.shared.book.snaps) (cell_at w.shared ino)

-- THE NEEDED BLOCKS: the log pages of chains, and the blocks that entries say of file pages which
-- are current or which a living snapshot holds
abbrev pub needed_in : World → List ℕ
needed_in w = flat_map (needed_by_slot w) (range_with_len 0 (length w.shared.cells))

-- the numbers of the home range of a CPU that are not needed
abbrev pub free_but_needed : GeometryNumbers → World → ℕ → List ℕ
free_but_needed g w cpu =
    unused (has (needed_in w)) (home_start g.blocks g.cpus cpu)
    (home_start g.blocks g.cpus (cpu + 1) - home_start g.blocks g.cpus cpu)

-- A WORLD IS AT REST while no call runs
abbrev pub IsAtRest : World → Type 0
IsAtRest w = (actor : ℕ) → (actor_at w actor).running ≡ None

-- ---- drains

-- what a reply counts, 0 where it counts nothing
abbrev pub count_in : Reply → ℕ
count_in (Done (answers.Count told)) = told
count_in other = 0

-- what a reply counts of released records: 0 for calls other than drains
abbrev pub told_to : Call → ℕ → ℕ
told_to (call.SnapshotOrCleaner (on.Drain count)) told = told
told_to other told = 0

-- how many records a reply tells a running call that it released
abbrev pub told_to_call : Option Running → Reply → ℕ
told_to_call None reply = 0
told_to_call (Some r) reply = told_to r.call (count_in reply)

-- how many records the reply of an event tells a drain that it released
abbrev pub told_in : World → Event → ℕ
told_in w (Start actor c) = 0
told_in w (Go actor granted) = told_to_call (actor_at w actor).running (step w (Go actor granted)).reply

-- HOW MANY RECORDS drains were answered, together: the sum of what `drain` calls were told at
-- their last steps. Example: a file's page in block 2 is overwritten by block 3 under snapshot 1,
-- and snapshot 1 is dropped. Then the root's log page, the file's and block 3 are needed. Two
-- records are deferred: those of the old Size and of the page in block 2. Once `drain 1` was
-- answered 1 twice, block 2 is free.
abbrev pub drained : World → List Event → ℕ
drained w [] = 0
drained w (e ∷ events) = told_in w e + drained (step w e).world events

-- the call drops a snapshot
abbrev pub is_drop : Call → Bool
is_drop (call.SnapshotOrCleaner (on.Drop snapshot)) = true
is_drop other = false

-- the event starts no drop
abbrev pub IsNoDrop : Event → Type 0
IsNoDrop (Start actor c) = is_drop c ≡ false
IsNoDrop (Go actor granted) = Unit {0}

-- none of the events starts a drop
abbrev pub AreNoDrops : List Event → Type 0
AreNoDrops events = AllByRecursion IsNoDrop events
