-- The step of an actor's call, over what actors share and what is its own.
use Rattle.std.specs.Prelude.{◌≡◌, ℕ, Bool, Option, Some, None, Result, Ok, Err}
use Rattle.nv_base.specs.declared.fault.Fault.{Fault}
use Rattle.nv_calls.specs.declared.answer.Answer.{Answer}
use Rattle.nv_machine.specs.Locks.{held_at}
use Rattle.nv_machine.specs.Step as machine_step
use Rattle.nv_machine.specs.World as machine
use Rattle.nv_core.specs.Frames.{LeavesRest}
use Rattle.nv_core.specs.Shown.{held_by, shared_of, turn_of}
use Rattle.nv_core.specs.Steps.{CanStep}
use Rattle.nv_core.specs.Worlds.{ShowsCall}
use Rattle.nv_core.specs.declared.event.Reply.{Reply}
use Rattle.nv_core.specs.declared.event.Reply.TheVariants as reply
use Rattle.nv_core.specs.declared.reservation.Reservation.{Reservation}
use Rattle.nv_core.specs.declared.running.Running.{Running}
use Rattle.nv_core.specs.declared.shared.Shared.{Shared}
use Rattle.nv_core.specs.declared.turn.Turn.{Turn}
use Rattle.nv_core.specs.declared.world.Actor.{Actor}
use Rattle.nv_core.specs.declared.turn.Turn.TheVariants as turn

-- the call after a turn shows that of the machine, unless it has ended
abbrev pub ShowsAfter : Turn → Reservation → Running → machine.Running → Type 0
ShowsAfter turn.Ends reserved running r = Unit {0}
ShowsAfter other reserved running r = ShowsCall reserved running r

-- the turn of a call is the machine's
pub record IsTurn (actor : ℕ) (old : Shared) (before : Reservation) (r : machine.Running) (result : Turn) (new : Shared) (reserved : Reservation)
    (running : Running)
    : Type 0 where
  -- whether the memory that the step asked for was granted
  pub granted : Bool
  -- the machine's call after the turn
  pub after : machine.Running
  -- the machine's turn on what the old parts show is this one, with what the new parts show
  pub is : machine_step.turn old.geometry.numbers.block actor granted (shared_of old) (held_by before) r
      ≡ turn_of result running.answer (shared_of new) (held_by reserved) after
  -- the call that goes on shows the machine's
  pub shows : ShowsAfter result reserved running after

-- what the step of a call leaves to the other actors
abbrev pub LeavesOthers : ℕ → machine.Running → Shared → Shared → Type 0
LeavesOthers actor r old new = LeavesRest actor (held_at r.next r.slots) old new

-- ---- an actor's call goes on

-- the call that still runs after a turn
abbrev pub still : Turn → Running → Option Running
still turn.Ends running = None
still other running = Some running

-- the reply that a turn makes, of a call that is answered so
abbrev pub replied : Turn → Result Answer Fault → Reply
replied turn.Moves result = reply.Moved
replied turn.Waits result = reply.Waits
replied turn.Ends (Ok answer) = reply.Done answer
replied turn.Ends (Err fault) = reply.Refused fault

-- an actor's call has gone on by one turn
pub record HasTurned (actor : ℕ) (old : Shared) (before : Reservation) (running : Running) (r : machine.Running) (answer : Reply) (new : Shared)
    (state : Actor) : Type 0 where
  -- the turn
  pub result : Turn
  -- the call after it
  pub after : Running
  -- it is the machine's turn
  pub is : IsTurn actor old before r result new state.reserved after
  -- where it waits, nothing has changed
  pub waits : result ≡ turn.Waits → (new ≡ old) × (state.reserved ≡ before) × (after ≡ running)
  -- the actor has the call that goes on, or none where the turn was the last
  pub still_is : state.running ≡ still result after
  -- the reply is the turn's
  pub reply_is : answer ≡ replied result after.answer

-- what an actor is given for its next step, if it has a call
abbrev pub CanGo : Shared → Reservation → Option Running → ℕ → Type 0
CanGo shared reserved None actor = Unit {0}
CanGo shared reserved (Some running) actor = CanStep shared reserved running actor
