-- What the parts of a world are in the machine of steps, whatever room they have.
pub use Rattle.nv_calls.specs.SlotList.{slots_in}
pub use Rattle.nv_steps.specs.Hands.{hand_of, hand_with}
pub use Rattle.nv_steps.specs.Planning.{manner_of}
use Rattle.std.specs.Prelude.{ℕ, List, Result, [], drop, map, take}
use Rattle.nv_base.specs.declared.fault.Fault.{Fault}
use Rattle.nv_base.specs.declared.numbers.Handle.{Handle}
use Rattle.nv_calls.specs.declared.answer.Answer.{Answer}
use Rattle.nv_calls.specs.declared.answer.Answer.TheVariants as answers
use Rattle.nv_calls.specs.declared.call.Call.{Call}
use Rattle.nv_calls.specs.declared.plan.InodePlan.{InodePlan}
use Rattle.nv_calls.specs.declared.progress.CommitStep.{CommitStep}
use Rattle.nv_calls.specs.declared.progress.CommitStep.TheVariants as step
use Rattle.nv_calls.specs.Commit.{CommitValue}
use Rattle.nv_calls.specs.Progress.{step_of}
use Rattle.nv_cell.specs.Cell.{CellValue}
use Rattle.nv_cell.specs.declared.killed.KilledPart.{KilledPart}
use Rattle.nv_machine.specs.World as machine
use Rattle.nv_core.specs.declared.reservation.Reservation.{Reservation}
use Rattle.nv_core.specs.declared.reservation.Reservation.TheVariants as reserved
use Rattle.nv_core.specs.declared.request.PendingAnswer.{PendingAnswer}
use Rattle.nv_core.specs.declared.request.PendingAnswer.TheVariants as owed
use Rattle.nv_entry.specs.declared.tree.TreeNode.{TreeNode}
use Rattle.nv_reader.specs.Showing.{Showing}
use Rattle.nv_core.specs.declared.next.Draining.{Draining}
use Rattle.nv_core.specs.declared.next.Ending.{Ending}
use Rattle.nv_core.specs.declared.next.Ending.TheVariants as ending
use Rattle.nv_core.specs.declared.next.Next.{Next}
use Rattle.nv_core.specs.declared.next.Next.TheVariants as next
use Rattle.nv_core.specs.declared.next.SnapshotOrCleanerStep.{SnapshotOrCleanerStep}
use Rattle.nv_core.specs.declared.next.SnapshotOrCleanerStep.TheVariants as on
use Rattle.nv_core.specs.declared.running.Running.{Running}
use Rattle.nv_core.specs.declared.shared.Shared.{Shared}
use Rattle.nv_core.specs.declared.turn.Turn.{Turn}
use Rattle.nv_core.specs.declared.turn.Turn.TheVariants as turn

-- ---- what is shared

-- what is shared, in the machine's words
abbrev pub shared_of : Shared → machine.Shared
shared_of shared = record {
  lists = shared.lists.items;
  pool = shared.pool;
  cells = map (λ (c : CellValue). c.state) shared.cells.items;
  owners = shared.owners.items;
  book = shared.book.state;
  holder = shared.holder;
}

-- ---- hands

-- what the publishes of a commit killed, of those inodes whose turn to be retired is still to come
abbrev pub killed_in : CommitValue → List (List KilledPart)
killed_in commit = map (λ p. p.killed) (drop commit.retired (take commit.published commit.plans))

-- the hand of a commit, in the machine's words
abbrev pub hand_in : CommitValue → machine.HandState
hand_in commit = hand_with (killed_in commit) commit.hand

-- ---- calls

-- what a running call of the machine has that the code has used up, or keeps in its commit
pub record ShownCall : Type 0 where
  -- the call, with all of its arguments
  pub call : Call
  -- the items that it appends, inode by inode
  pub plan : List InodePlan
  -- the number of its commit, once it has entered
  pub commit : ℕ
  -- the epoch of its commit, once it has entered
  pub epoch : ℕ

-- how far a drain is, in the machine's words
abbrev pub draining_of : Draining → machine.Draining
draining_of draining = record { released = draining.released; left = draining.left }

-- a step on snapshots, or of a cleaner, in the machine's words
abbrev pub step_on : SnapshotOrCleanerStep → machine.SnapshotOrCleanerStep
step_on on.Make = machine.Make
step_on (on.Drop snapshot) = machine.Drop snapshot
step_on (on.Pin snapshot) = machine.Pin snapshot
step_on (on.Show snapshot showing) = machine.Show snapshot showing
step_on (on.Unpin snapshot seen) = machine.Unpin snapshot seen
step_on (on.Pick draining) = machine.Pick (draining_of draining)
step_on (on.LockPicked draining picked) = machine.LockPicked (draining_of draining) picked
step_on (on.Release draining picked) = machine.Release (draining_of draining) picked
step_on (on.LockCleaned log) = machine.LockCleaned (manner_of log.manner) log.ino
step_on (on.PlanCleaning manner slot) = machine.PlanCleaning (manner_of manner) slot
step_on (on.Fresh fresh) = machine.Fresh fresh.plan.ino fresh.asked fresh.left
step_on (on.Unlink plan) = machine.Unlink plan.ino
step_on (on.Compact plan) = machine.Compact plan.ino

-- the next step, in the machine's words
abbrev pub next_of : Next → machine.Next
next_of next.Number = machine.Number
next_of (next.Look place) = machine.Look place
next_of (next.Lock place) = machine.Lock place
next_of next.Check = machine.Check
next_of (next.TakeBlocks asked) = machine.TakeBlocks asked
next_of (next.TakeLogPages asked) = machine.TakeLogPages asked
next_of next.Ready = machine.Ready
next_of (next.Unlock place) = machine.Unlock place
next_of (next.Give cpu) = machine.Give cpu
next_of next.ReturnNumber = machine.ReturnNumber
next_of next.Visit = machine.Visit
next_of (next.SnapshotOrCleaner step) = machine.SnapshotOrCleaner (step_on step)

-- the snapshot of a show whose next step visits or takes the pin off, else 0
abbrev pub snapshot_in : Next → ℕ
snapshot_in (next.SnapshotOrCleaner (on.Show snapshot showing)) = snapshot
snapshot_in (next.SnapshotOrCleaner (on.Unpin snapshot seen)) = snapshot
snapshot_in other = 0

-- the walk of a show, if the next step has one
abbrev pub showing_in : Next → Showing
showing_in (next.SnapshotOrCleaner (on.Show snapshot showing)) = showing
showing_in other = record { left = 0; visits = []; seen = [] }

-- what a show has seen, if the next step takes its pin off
abbrev pub seen_in : Next → List TreeNode
seen_in (next.SnapshotOrCleaner (on.Unpin snapshot seen)) = seen
seen_in other = []

-- how a call is to end, in the machine's words
abbrev pub ending_of : Ending → machine.Ending
ending_of ending.Answers = machine.Answers
ending_of (ending.Refuses fault) = machine.Refuses fault
ending_of ending.BoundAnew = machine.BoundAnew
ending_of (ending.Drains draining) = machine.Drains (draining_of draining)
ending_of (ending.Cleans cleaned) = machine.Cleans cleaned

-- a running call of the machine before that step, by the code's and what is told beside
abbrev pub shown_at : machine.Next → ShownCall → Running → machine.Running
shown_at next told running = record {
  call = told.call;
  next = next;
  ending = ending_of running.ending;
  looked = running.looked;
  rounds = running.rounds;
  slots = slots_in running.slots;
  made = running.made;
  wanted = running.wanted;
  plan = told.plan;
  commit = told.commit;
  epoch = told.epoch;
}

-- the running call that a call shows which is not yet ready, or whose commit is over
abbrev pub shown : ShownCall → Running → machine.Running
shown told running = shown_at (next_of running.next) told running

-- the running call that a call shows which is ready
abbrev pub shown_ready : ShownCall → Running → machine.Running
shown_ready told running = shown_at machine.Enter told running

-- ---- commits

-- the next step of a commit, in the machine's words
abbrev pub machine_step : CommitStep → CommitValue → machine.Next
machine_step step.Append commit = machine.Append commit.appended
machine_step step.Open commit = machine.Open
machine_step step.Publish commit = machine.Publish commit.published
machine_step step.Close commit = machine.Close
machine_step step.Retire commit = machine.Retire commit.retired
machine_step step.Leave commit = machine.Leave

-- the step of a commit that comes next
abbrev pub commit_next : CommitValue → machine.Next
commit_next commit = machine_step (step_of commit) commit

-- a call in a commit, in the machine's words
abbrev pub shown_commit : CommitValue → ShownCall → Running → machine.Running
shown_commit commit told running = shown_at (commit_next commit) told running

-- ---- what an actor holds

-- the machine's hand that a reservation shows, with the killed parts that its commit has yet to
-- retire
abbrev pub held_by : Reservation → machine.HandState
held_by (reserved.Hand hand) = hand_of hand
held_by (reserved.Ready ready) = hand_of ready.hand
held_by (reserved.Commit commit) = hand_in commit

-- the machine's running call that a call with this reservation shows, before its next step
abbrev pub shown_by : Reservation → ShownCall → Running → machine.Running
shown_by (reserved.Hand hand) told running = shown told running
shown_by (reserved.Ready ready) told running = shown_ready told running
shown_by (reserved.Commit commit) told running = shown_commit commit told running

-- ---- what is answered

-- the answer that is owed, where a new inode has this handle
abbrev pub answered : PendingAnswer → Handle → Answer
answered (owed.Made name) made = answers.Made made
answered (owed.Count count) made = answers.Count count
answered (owed.Nothing name) made = answers.Nothing

-- ---- turns

-- a turn, with what its call is answered, what is shared, the hand and the call after it
abbrev pub turn_of : Turn → Result Answer Fault → machine.Shared → machine.HandState → machine.Running → machine.Turn
turn_of turn.Moves result s h r = machine.Moves s h r
turn_of turn.Waits result s h r = machine.Waits
turn_of turn.Ends result s h r = machine.Ends result s h
