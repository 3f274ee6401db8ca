-- What an audit is told of a world: what is shared, and of all hands the blocks and the parts that
-- are killed or picked.
use Rattle.std.specs.Prelude.{ℕ, ◌≤◌, List, [], ◌∷◌, ◌++◌, drop, length, map, Option, Some, None, take}
use Rattle.std.specs.List.{flat_map}
use Rattle.nv_audit.specs.Records.{inode_part}
use Rattle.nv_audit.specs.Whole.{Device}
use Rattle.nv_audit.specs.declared.part_list.InodePart.{InodePart}
use Rattle.nv_base.specs.declared.geometry.GeometryNumbers.{GeometryNumbers}
use Rattle.nv_calls.specs.Commit.{CommitValue}
use Rattle.nv_calls.specs.Ready.{CellCommitValue}
use Rattle.nv_cell.specs.declared.killed.KilledPart.{KilledPart}
use Rattle.nv_machine.specs.Held as machine_held
use Rattle.nv_machine.specs.Numbers.{held_by_actor, held_in}
use Rattle.nv_machine.specs.Reads.{slot_at, written_slots}
use Rattle.nv_machine.specs.World as machine
use Rattle.nv_core.specs.Shown.{held_by, slots_in}
use Rattle.nv_core.specs.declared.reservation.Reservation.{Reservation}
use Rattle.nv_core.specs.declared.reservation.Reservation.TheVariants as reserved
use Rattle.nv_core.specs.declared.next.Next.{Next}
use Rattle.nv_core.specs.declared.next.Next.TheVariants as next
use Rattle.nv_core.specs.declared.next.SnapshotOrCleanerStep.{SnapshotOrCleanerStep}
use Rattle.nv_core.specs.declared.next.SnapshotOrCleanerStep.TheVariants as on
use Rattle.nv_core.specs.declared.running.Running.{Running}
use Rattle.nv_core.specs.declared.world.Actor.{Actor}

-- ---- by the machine

-- a killed part of a slot
abbrev pub killed_part : ℕ → KilledPart → InodePart
killed_part ino killed = record { ino = ino; part = killed.part }

-- the killed parts of lists that belong to these slots one by one. Example: snapshot 1 is made of
-- a file, and its page is written again. Between `publish` and `retire` of that write the hand has
-- the Size and the page of the first Write, and no manifest has a record of them yet.
abbrev pub slot_parts : List ℕ → List (List KilledPart) → List InodePart
slot_parts [] killed = []
slot_parts (slot ∷ slots) [] = []
slot_parts (slot ∷ slots) (parts ∷ rest) = map (killed_part slot) parts ++ slot_parts slots rest

-- the parts that an actor's call has killed or picked
abbrev pub parts_by_call : Option machine.Running → machine.HandState → List InodePart
parts_by_call None h = []
parts_by_call (Some r) h =
    map inode_part (machine_held.picked_at r.next) ++ slot_parts (machine_held.killed_slots r.next (written_slots r)) h.killed

-- the parts that an actor has killed or picked
abbrev pub parts_by_actor : machine.Actor → List InodePart
parts_by_actor actor = parts_by_call actor.running actor.hand

-- A WORLD AS A DEVICE BETWEEN TWO STEPS: what is shared as it stands, and of all actors the blocks
-- of their hands, and the parts that they have killed or picked
abbrev pub device_of : GeometryNumbers → machine.World → Device
device_of g w = record {
  numbers = g;
  cells = w.shared.cells;
  lists = w.shared.lists;
  book = w.shared.book;
  in_hands = flat_map parts_by_actor w.actors;
  blocks = flat_map held_by_actor w.actors;
}

-- ---- by the code

-- the numbers of the blocks in an actor's hand
abbrev pub blocks_by : Actor → List ℕ
blocks_by actor = held_in (held_by actor.reserved)

-- the part of a record that a drain has picked
abbrev pub picked_on : SnapshotOrCleanerStep → List InodePart
picked_on (on.LockPicked draining picked) = inode_part picked ∷ []
picked_on (on.Release draining picked) = inode_part picked ∷ []
picked_on other = []

-- the part of the record that a step has picked, if it has
abbrev pub picked_by : Next → List InodePart
picked_by (next.SnapshotOrCleaner step) = picked_on step
picked_by other = []

-- the parts that the publish of one plan has killed
abbrev pub killed_by_plan : List ℕ → CellCommitValue → List InodePart
killed_by_plan slots plan = map (killed_part (slot_at slots plan.at)) plan.killed

-- the parts that a commit has killed and not yet retired
abbrev pub killed_by_plans : List ℕ → CommitValue → List InodePart
killed_by_plans slots commit = flat_map (killed_by_plan slots) (drop commit.retired (take commit.published commit.plans))

-- the parts that a call with this reservation has killed or picked
abbrev pub parts_with : Reservation → Option Running → List InodePart
parts_with (reserved.Hand hand) (Some running) = picked_by running.next
parts_with (reserved.Commit commit) (Some running) = killed_by_plans (slots_in running.slots) commit
parts_with other running = []

-- the parts that an actor has killed or picked, in the code's words
abbrev pub parts_by : Actor → List InodePart
parts_by actor = parts_with actor.reserved actor.running

-- a commit has published no more plans than it has
abbrev pub HasPlans : Reservation → Type 0
HasPlans (reserved.Commit commit) = commit.published ≤ length commit.plans
HasPlans other = Unit {0}
