-- Memory that is refused: the one turn that it makes of a step, whatever the step grows.
use Rattle.std.specs.Prelude.{◌||◌, ◌≢◌, ℕ, if◌then◌else◌, Bool, true, false, [], Ok}
use Rattle.nv_base.specs.declared.fault.Fault.{Fault}
use Rattle.nv_base.specs.Memory.{out_of_memory}
use Rattle.nv_machine.specs.Hands.{is_going}
use Rattle.nv_machine.specs.Kinds.{refuse}
use Rattle.nv_machine.specs.SnapshotOrCleaner.{is_first}
use Rattle.nv_machine.specs.Step.{check_grows, visit_grows, with_made}
use Rattle.nv_machine.specs.World.{Check, Ending, Ends, Enter, HandState, PlanCleaning, Look, Moves, Next, Pick, Ready, Refuses, Running, Shared, Show, SnapshotOrCleanerStep, SnapshotOrCleaner, Turn, Unpin, Visit}

-- a `show` grows something, the first `pick` of a drain, and a `plan cleaning`
abbrev pub grows_on : SnapshotOrCleanerStep → Bool
grows_on (Show snapshot showing) = true
grows_on (Pick draining) = is_first draining
grows_on (PlanCleaning manner slot) = true
grows_on other = false

-- the step grows something, so that it may be refused memory: a `check` does only where its call
-- takes blocks
abbrev pub grows : Next → ℕ → Shared → HandState → Running → Bool
grows Check block s h r = check_grows block s h r
grows Ready block s h r = true
grows Enter block s h r = true
grows Visit block s h r = visit_grows r.call
grows (SnapshotOrCleaner step) block s h r = grows_on step
grows other block s h r = false

-- the step is none of the last ones, no look, and no step of a call on snapshots or of a cleaner
abbrev pub is_onward : Next → Bool
is_onward (Look place) = false
is_onward (SnapshotOrCleaner step) = false
is_onward other = is_going other

-- the turn moves on to such a step
abbrev pub moves_onward : Turn → Bool
moves_onward (Moves t after q) = is_onward q.next
moves_onward other = false

-- the turn moves the call
abbrev pub moves_on : Turn → Bool
moves_on (Moves t after q) = true
moves_on other = false

-- the turn ends the call with an answer
abbrev pub is_answered : Turn → Bool
is_answered (Ends (Ok found) t after) = true
is_answered other = false

-- the call is not to end with a refusal
abbrev pub is_unrefused : Ending → Bool
is_unrefused (Refuses fault) = false
is_unrefused other = true

-- the step is of a call on snapshots, or of a cleaner
abbrev pub is_maintaining : Next → Bool
is_maintaining (SnapshotOrCleaner step) = true
is_maintaining other = false

-- the turn moves to a step of a call on snapshots or of a cleaner, or to any step of a call that
-- is not to be refused
abbrev pub moves_unrefused : Turn → Bool
moves_unrefused (Moves t after q) = is_maintaining q.next || is_unrefused q.ending
moves_unrefused other = false

-- the turn does the work of this step: a visit answers, a planning answers or moves on unless it
-- refuses, a step on snapshots answers or moves on, and any other goes on towards the commit
abbrev pub does_its_work : Next → Turn → Bool
does_its_work Visit turn = is_answered turn
does_its_work (SnapshotOrCleaner (PlanCleaning manner slot)) turn = is_answered turn || moves_unrefused turn
does_its_work (SnapshotOrCleaner step) turn = is_answered turn || moves_on turn
does_its_work other turn = moves_onward turn

-- the call as a step has noted it before it grows anything: a check notes the handle of a new
-- inode
abbrev pub noted : Next → Shared → HandState → Running → Running
noted Check s h r = with_made s h r
noted other s h r = r

-- the call turns to its last steps for want of memory: a show to the one that takes its pin off
abbrev pub denied_at : Next → Shared → HandState → Running → Turn
denied_at (SnapshotOrCleaner (Show snapshot showing)) s h r =
    Moves s h (record r { ending = Refuses out_of_memory; next = SnapshotOrCleaner (Unpin snapshot []) })
denied_at other s h r = refuse out_of_memory s h r

-- THE TURN WHERE MEMORY IS REFUSED, by the turn where it is granted. A step that would do its work
-- refuses its call instead, and leaves what is shared and the hand as they were. Any other turn
-- stays the same.
abbrev pub denied_turn : Next → Shared → HandState → Running → Turn → Turn
denied_turn k s h r granted = if does_its_work k granted then denied_at k s h (noted k s h r) else granted

-- the fault is not want of memory
abbrev pub IsOther : Fault → Type 0
IsOther fault = fault ≢ out_of_memory
