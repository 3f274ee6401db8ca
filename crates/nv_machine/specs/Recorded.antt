-- Records: which there are after a run, which parts they are of, and which pairs they tell a snapshot to hold.
use Rattle.std.specs.Prelude.{◌≡◌, ℕ, ◌&&◌, ◌++◌, Bool, true, false, List, [], ◌∷◌, filter, length, map, Option, Some, None, slice_get}
use Rattle.std.specs.List.{AllByRecursion, list_any}
use Rattle.nv_book.specs.Listed.{all_records, with_moved, with_retired, without_first}
use Rattle.nv_book.specs.Records.{is_held_by}
use Rattle.nv_book.specs.declared.record.Record.{Record}
use Rattle.nv_calls.specs.Retiring.{name_of, record_of}
use Rattle.nv_cell.specs.Cell.{CellState, log_of}
use Rattle.nv_cell.specs.Marks.{bit, mark_at}
use Rattle.nv_cell.specs.Named.{number_named}
use Rattle.nv_cell.specs.Numbers.{is_number}
use Rattle.nv_cell.specs.declared.killed.KilledPart.{KilledPart}
use Rattle.nv_cell.specs.declared.mark.Mark.{Mark}
use Rattle.nv_cell.specs.declared.mark.Mark.TheVariants.{Current, Kept, Killed, Out}
use Rattle.nv_entry.specs.Held.{has_name, holds, is_current, is_named, pair_name}
use Rattle.nv_entry.specs.Log.{pairs}
use Rattle.nv_entry.specs.declared.held.Pair.{Pair}
use Rattle.nv_epoch.specs.SnapList.{ids}
use Rattle.nv_machine.specs.Held.{is_of_slot, killed_in, pending_in}
use Rattle.nv_machine.specs.Kinds.{first_killed}
use Rattle.nv_machine.specs.PlainRun.{PlainChange, Maintains, actor_of, plain_change_of}
use Rattle.nv_machine.specs.Reads.{slot_at, written_slots}
use Rattle.nv_machine.specs.Step.{step}
use Rattle.nv_machine.specs.World.{Drop, Event, Go, HandState, Next, Pick, Retire, Running, Shared, Start, World, actor_at, cell_at}

-- ---- THE RECORD LIST after a run: one list, in the order in which the records came to their present holders

-- the killed parts of an inode that a living snapshot holds go to its end, in order
abbrev pub with_parts : List ℕ → ℕ → ℕ → List KilledPart → List Record → List Record
with_parts living ino epoch [] rs = rs
with_parts living ino epoch (killed ∷ later) rs =
    with_parts living ino epoch later (with_retired living (record_of ino epoch killed) rs)

-- the records behind a step: a retire puts its killed parts to the end that a living snapshot
-- holds
abbrev pub after_retire : Next → Shared → HandState → Running → List Record → List Record
after_retire (Retire place) s h r rs =
    with_parts (ids s.book.snaps) (slot_at (written_slots r) place) r.epoch (first_killed h.killed) rs
after_retire other s h r rs = rs

-- a drop moves those of its snapshot to the end, and a pick takes out the first that no living one holds
abbrev pub after_deed : PlainChange → List ℕ → List Record → List Record
after_deed (Maintains (Drop snapshot)) living rs = with_moved snapshot living rs
after_deed (Maintains (Pick draining)) living rs = without_first living rs
after_deed other living rs = rs

-- the records behind what an event retires
abbrev pub retired_in : World → Event → Option Running → List Record → List Record
retired_in w (Start actor c) running rs = rs
retired_in w (Go actor granted) None rs = rs
retired_in w (Go actor granted) (Some r) rs = after_retire r.next w.shared (actor_at w actor).hand r rs

-- the record list behind one event
abbrev pub records_in : World → Event → List Record → List Record
records_in w e rs =
    after_deed (plain_change_of w e) (ids w.shared.book.snaps) (retired_in w e (actor_at w (actor_of e)).running rs)

-- THE RECORD LIST behind a run. `retire` puts to its end the killed parts of its inode that a
-- living snapshot holds. `drop` puts there the records that its snapshot was the youngest to hold.
-- `pick` takes out the first that no living snapshot holds.
abbrev pub records_after : World → List Event → List Record → List Record
records_after w [] rs = rs
records_after w (e ∷ events) rs = records_after (step w e).world events (records_in w e rs)

-- ---- the parts that are recorded

-- all records: those in manifests, those deferred, and those that a drain has picked and not yet released
abbrev pub recorded_in : World → List Record
recorded_in w = all_records w.shared.book.manifests ++ pending_in w

-- the record is of the part n of a slot
abbrev pub is_record_of : CellState → ℕ → ℕ → Record → Bool
is_record_of cell ino n d = is_of_slot ino d && is_number (number_named (log_of cell) (name_of d)) n

-- how many records are of the part n of a slot
abbrev pub times_recorded : World → ℕ → ℕ → ℕ
times_recorded w ino n = length (filter (is_record_of (cell_at w.shared ino) ino n) (recorded_in w))

-- the part has a record: it is marked kept
abbrev pub is_marked_kept : Mark → Bool
is_marked_kept Current = false
is_marked_kept Killed = false
is_marked_kept Kept = true
is_marked_kept Out = false

-- A PART IS MARKED KEPT exactly where it has one record, and no part has two
abbrev pub AreRecordedOnce : World → Type 0
AreRecordedOnce w = (ino n : ℕ) → times_recorded w ino n ≡ bit (is_marked_kept (mark_at (cell_at w.shared ino).marks n))

-- a record is of a pair of its slot's log
pub record IsOfPair (w : World) (d : Record) : Type 0 where
  -- the number of the part in that log
  pub n : ℕ
  -- the pair
  pub pair : Pair
  -- the log has this pair at that number
  pub is : slice_get (pairs (cell_at w.shared d.ino).block (log_of (cell_at w.shared d.ino))) n ≡ Some pair
  -- its entry and part are those that the record names
  pub name : pair_name pair ≡ name_of d
  -- it was born when the record says
  pub birth : pair.birth ≡ d.birth
  -- it is no longer current
  pub died : is_current pair ≡ false
  -- the living snapshots that hold it are those that hold the record
  pub holders : AllByRecursion (λ s. is_held_by s d ≡ holds s pair) (ids w.shared.book.snaps)

-- ---- what a snapshot holds, by records and by killed parts

-- a pair of a slot has a record, which this snapshot holds
abbrev pub is_recorded_for : ℕ → World → ℕ → Pair → Bool
is_recorded_for snapshot w ino pair =
    list_any (λ d. is_of_slot ino d && (is_held_by snapshot d && has_name pair (name_of d))) (recorded_in w)

-- a commit has killed the pair of a slot, and has not yet retired it
abbrev pub is_killed_pair : World → ℕ → Pair → Bool
is_killed_pair w ino pair = is_named (map (λ (k : KilledPart). k.part) (killed_in w ino)) pair
