-- How many steps a call has left at most.
use Rattle.std.specs.Prelude.{ℕ, ◌+◌, ◌-◌, ◌*◌, ◌<◌, ◌≢◌, ◌==◌, if◌then◌else◌, List, [], ◌∷◌, length, Option, Some, None}
use Rattle.std.specs.List.{AllByRecursion}
use Rattle.nv_base.specs.declared.limits.TheConstants.{DRAIN, INODES}
use Rattle.nv_calls.specs.declared.call.Call.{Call}
use Rattle.nv_calls.specs.declared.call.Call.TheVariants as call
use Rattle.nv_calls.specs.declared.snapshot_or_cleaner_call.SnapshotOrCleanerCall.TheVariants as on
use Rattle.nv_machine.specs.Step.{step}
use Rattle.nv_machine.specs.World.{Append, ReturnNumber, Check, Close, Compact, Drains, Drop, Ending, Ends, Enter, Event, Fresh, Give, Go, PlanCleaning, Leave, Lock, LockCleaned, LockPicked, Look, Make, Moved, Moves, Next, Number, Open, Pick, Pin, Publish, Ready, Release, Reply, Retire, Running, Show, SnapshotOrCleanerStep, SnapshotOrCleaner, Start, TakeBlocks, TakeLogPages, Turn, Unlink, Unlock, Unpin, Visit, Waits, World, actor_at}

-- a whole round, whatever its looks find
abbrev pub round : ℕ → ℕ
round cpus = 44 + 3 * cpus

-- the steps left in one round of a call on snapshots or of a cleaner; of a drain also the rounds
-- of records to come
abbrev pub rank_on : ℕ → ℕ → SnapshotOrCleanerStep → ℕ
rank_on cpus slots Make = 4 + cpus + slots
rank_on cpus slots (Drop snapshot) = 4 + cpus + slots
rank_on cpus slots (Pin snapshot) = INODES + (4 + cpus + slots)
rank_on cpus slots (Show snapshot showing) = 2 + showing.left
rank_on cpus slots (Unpin snapshot seen) = 1
rank_on cpus slots (Release draining picked) = draining.left * round cpus + (4 + cpus + slots)
rank_on cpus slots (LockPicked draining picked) = draining.left * round cpus + (5 + cpus + slots)
rank_on cpus slots (Pick draining) = draining.left * round cpus + (7 + cpus + slots)
rank_on cpus slots (LockCleaned manner ino) = 7 + 2 * cpus + slots
rank_on cpus slots (PlanCleaning manner slot) = 6 + 2 * cpus + slots
rank_on cpus slots (Fresh ino asked wanted) = 5 + cpus + slots + (cpus - asked)
rank_on cpus slots (Unlink ino) = 4 + cpus + slots
rank_on cpus slots (Compact ino) = 4 + cpus + slots

-- the steps left in one round, by the step that comes next, with so many CPUs and slots to lock
abbrev pub rank : ℕ → ℕ → Next → ℕ
rank cpus slots ReturnNumber = 1
rank cpus slots (Give cpu) = 2 + (cpus - cpu)
rank cpus slots (Unlock place) = 3 + cpus + (slots - place)
rank cpus slots Leave = 4 + cpus + slots
rank cpus slots (Retire place) = 5 + cpus + slots + (slots - place)
rank cpus slots Close = 6 + cpus + 2 * slots
rank cpus slots (Publish place) = 7 + cpus + 2 * slots + (slots - place)
rank cpus slots Open = 8 + cpus + 3 * slots
rank cpus slots (Append place) = 9 + cpus + 3 * slots + (slots - place)
rank cpus slots Enter = 10 + cpus + 4 * slots
rank cpus slots Ready = 11 + cpus + 4 * slots
rank cpus slots (TakeLogPages asked) = 12 + cpus + 4 * slots + (cpus - asked)
rank cpus slots (TakeBlocks asked) = 13 + 2 * cpus + 4 * slots + (cpus - asked)
rank cpus slots Check = 14 + 3 * cpus + 4 * slots
rank cpus slots Visit = 14 + 3 * cpus + 4 * slots
rank cpus slots (Lock place) = 15 + 3 * cpus + 4 * slots + (slots - place)
rank cpus slots Number = 41 + 3 * cpus
rank cpus slots (Look place) = 41 + 3 * cpus + (2 - place)
rank cpus slots (SnapshotOrCleaner step) = rank_on cpus slots step

-- the steps that may come behind the record that a drain has released: a round for each that may
-- follow
abbrev pub rank_behind : ℕ → Ending → ℕ
rank_behind cpus (Drains draining) = draining.left * round cpus
rank_behind cpus other = 0

-- THE BOUND of a call: the rank of the step that comes next, and a whole round for each that is
-- left, or for each record that a drain may yet release
abbrev pub bound : ℕ → Running → ℕ
bound cpus r = rank_behind cpus r.ending + r.rounds * round cpus + rank cpus (length r.slots) r.next

-- the steps of a call at most: eight rounds; for a `drain` a round more for each record that it
-- may release, and for other calls on snapshots and cleaners a visit more for each inode that
-- there can be. That is 8 * (44 + 3 * CPUs), for a `show` call as many more as inodes are allowed,
-- and for a `drain` call (8 + 1,048,576) * (44 + 3 * CPUs).
abbrev pub most_steps_of : Call → ℕ → ℕ
most_steps_of (call.SnapshotOrCleaner (on.Drain count)) cpus = (8 + DRAIN) * round cpus
most_steps_of (call.SnapshotOrCleaner c) cpus = 8 * round cpus + INODES
most_steps_of c cpus = 8 * round cpus

-- the steps of any call at most
abbrev pub most_steps : ℕ → ℕ
most_steps cpus = (8 + DRAIN) * round cpus

-- where the turn moves on, the call has a bound below this
abbrev pub Falls : ℕ → ℕ → Turn → Type 0
Falls cpus n (Moves s h r) = bound cpus r < n
Falls cpus n Waits = Unit {0}
Falls cpus n (Ends result s h) = Unit {0}

-- ---- over events

-- the bound of an actor's call, 0 where it has none
abbrev pub bound_of : ℕ → Option Running → ℕ
bound_of cpus None = 0
bound_of cpus (Some r) = bound cpus r

-- the bound of an actor's call; 0 where it has none
abbrev pub bound_at : World → ℕ → ℕ
bound_at w actor = bound_of (length w.shared.lists) (actor_at w actor).running

-- 1 for a reply that moved the call, else 0
abbrev pub moves_by : Reply → ℕ
moves_by Moved = 1
moves_by other = 0

-- 1 where an event moved the call of an actor, else 0
abbrev pub moves_in : ℕ → Event → Reply → ℕ
moves_in actor (Start other c) reply = 0
moves_in actor (Go other granted) reply = if other == actor then moves_by reply else 0

-- HOW OFTEN these events moved the calls of an actor
abbrev pub moves : ℕ → World → List Event → ℕ
moves actor w [] = 0
moves actor w (e ∷ events) = moves_in actor e (step w e).reply + moves actor (step w e).world events

-- the event starts no call of the actor
abbrev pub IsNoStart : ℕ → Event → Type 0
IsNoStart actor (Start other c) = other ≢ actor
IsNoStart actor (Go other granted) = Unit {0}

-- none of the events starts a call of the actor
abbrev pub AreNoStarts : ℕ → List Event → Type 0
AreNoStarts actor events = AllByRecursion (IsNoStart actor) events
