-- The steps that a call has made since it was started: for what they refused it, and what they left.
use Rattle.std.specs.Prelude.{◌≡◌, ℕ, ◌==◌, if◌then◌else◌, List, [], ◌∷◌, ◌++◌, map, Option, Some, None, Bool, Result, Ok, Err}
use Rattle.std.specs.List.{AllByRecursion}
use Rattle.nv_base.specs.declared.fault.Fault.{Fault}
use Rattle.nv_book.specs.Book.{BookState}
use Rattle.nv_calls.specs.Plain.{node_in}
use Rattle.nv_calls.specs.declared.answer.Answer.{Answer}
use Rattle.nv_epoch.specs.declared.snapshot.Snapshot.{Snapshot}
use Rattle.nv_machine.specs.Causes.{IsCause, IsRoundless}
use Rattle.nv_machine.specs.Settled.{settled_nodes}
use Rattle.nv_machine.specs.Step.{step, turn}
use Rattle.nv_machine.specs.World.{Ending, Ends, Event, Go, Moves, BoundAnew, Refuses, Reply, Running, Shared, Start, Started, Turn, Waits, World, actor_at}

-- a step that a call has made, with what it found
pub record OwnStep : Type 0 where
  -- the world before the step
  pub world : World
  -- the actor whose step it is
  pub actor : ℕ
  -- the call before the step
  pub running : Running
  -- whether memory was there, where the step asks for some
  pub granted : Bool

-- what a step made
abbrev pub turn_of : OwnStep → Turn
turn_of x = turn x.world.numbers.block x.actor x.granted x.world.shared (actor_at x.world x.actor).hand x.running

-- ---- over events

-- the steps of an actor's call, with one more
abbrev pub with_step : Option Running → World → ℕ → Bool → List OwnStep → List OwnStep
with_step None w actor granted before = before
with_step (Some r) w actor granted before = record { world = w; actor = actor; running = r; granted = granted } ∷ before

-- no step yet, where a call was just started
abbrev pub none_if_started : Reply → List OwnStep → List OwnStep
none_if_started Started before = []
none_if_started other before = before

-- the steps that an actor's call has made since its start
abbrev pub steps_in : ℕ → World → Event → List OwnStep → List OwnStep
steps_in actor w (Start other c) before = if other == actor then none_if_started (step w (Start other c)).reply before else before
steps_in actor w (Go other granted) before =
    if other == actor then with_step (actor_at w actor).running w actor granted before else before

-- THE STEPS of the actor's call since it was started, the last first, also those that waited
abbrev pub own_steps : ℕ → World → List Event → List OwnStep → List OwnStep
own_steps actor w [] before = before
own_steps actor w (e ∷ events) before = own_steps actor (step w e).world events (steps_in actor w e before)

-- ---- for what they refused it

-- the fault of an end, if it refuses
abbrev pub fault_of : Ending → List Fault
fault_of (Refuses fault) = fault ∷ []
fault_of other = []

-- the fault of a result, if it is one
abbrev pub fault_told : Result Answer Fault → List Fault
fault_told (Ok found) = []
fault_told (Err fault) = fault ∷ []

-- the fault that a turn refuses its call for, if it does
abbrev pub fault_in : Turn → List Fault
fault_in (Moves s h r) = fault_of r.ending
fault_in Waits = []
fault_in (Ends result s h) = fault_told result

-- a step refuses a call that was not refused before
abbrev pub refused_by : Ending → Turn → List Fault
refused_by (Refuses fault) t = []
refused_by other t = fault_in t

-- the fault that a step refused its call for, if it did
abbrev pub refused_at : OwnStep → List Fault
refused_at x = refused_by x.running.ending (turn_of x)

-- the faults of the steps that refused their call, the last first
abbrev pub refused_for : List OwnStep → List Fault
refused_for [] = []
refused_for (x ∷ steps) = refused_at x ++ refused_for steps

-- ---- their causes

-- the cause of a fault was there at that step, over the settled nodes. Where the call's names were
-- bound anew, the cause is that no round of looks was left.
abbrev pub HasCauseBy : Ending → OwnStep → Fault → Type 0
HasCauseBy BoundAnew x fault = IsRoundless x.running fault
HasCauseBy other x fault =
    IsCause x.running.next x.world.numbers.block x.actor x.granted (node_in (settled_nodes x.world.shared)) x.world.shared
    (actor_at x.world x.actor).hand x.running fault

-- each fault that a step refused for had its cause there
abbrev pub IsCaused : OwnStep → Type 0
IsCaused x = AllByRecursion (HasCauseBy x.running.ending x) (refused_at x)

-- ---- what they left

-- a snapshot without pins
abbrev pub unpinned : Snapshot → Snapshot
unpinned snapshot = record snapshot { pins = 0 }

-- the book without pins
abbrev pub without_pins : BookState → BookState
without_pins b = record b { snaps = record b.snaps { living = map unpinned b.snaps.living } }

-- book and cells are the same in both, apart from pins
pub record SameButPins (s t : Shared) : Type 0 where
  -- the book is the same, apart from the pins of its snapshots
  pub book : without_pins t.book ≡ without_pins s.book
  -- all cells are the same
  pub cells : t.cells ≡ s.cells

-- a turn leaves all except pins
abbrev pub LeavesButPins : Shared → Turn → Type 0
LeavesButPins s (Moves t h r) = SameButPins s t
LeavesButPins s Waits = Unit {0}
LeavesButPins s (Ends result t h) = SameButPins s t

-- a step left all except pins
abbrev pub IsLeft : OwnStep → Type 0
IsLeft x = LeavesButPins x.world.shared (turn_of x)

-- ---- a call that is refused

-- A REFUSED CALL HAS MET ITS CAUSE. Example: a `write` call on a full device makes `lock`,
-- `check`, two `take` steps on two CPUs, and `unlock`. The second `take` step refuses it, for want
-- of space. The list is that fault alone, and `unlock` replies it.
pub record MetItsCause (fault : Fault) (steps : List OwnStep) : Type 0 where
  -- exactly one of its steps refused it, for this fault
  pub once : refused_for steps ≡ fault ∷ []
  -- the cause of that fault was there at that step
  pub caused : AllByRecursion IsCaused steps
  -- each of its steps left all cells, and the book except for pins
  pub left : AllByRecursion IsLeft steps
