-- When a world shows one of the machine.
use Rattle.std.specs.Prelude.{◌≡◌, ◌≢◌, replicate, ℕ, ◌<◌, Bool, List, [], ◌∷◌, length, map, Option, Some, None, slice_index_or}
use Rattle.nv_base.specs.declared.geometry.GeometryNumbers.{GeometryNumbers}
use Rattle.nv_book.specs.declared.record.Record.{Record}
use Rattle.nv_machine.specs.Format.{formatted}
use Rattle.nv_machine.specs.Starts.{IsStart}
use Rattle.nv_machine.specs.Step as machine_step
use Rattle.nv_machine.specs.World as machine
use Rattle.nv_restart.specs.Happenings as restart
use Rattle.nv_restart.specs.Happenings.{Happening, On, Replied, Stop, Stopped, Told, after_all, all_told, happen}
use Rattle.nv_restart.specs.Stops.{MayStop}
use Rattle.nv_core.specs.declared.event.Event.{Event}
use Rattle.nv_core.specs.declared.event.Event.TheVariants as event
use Rattle.nv_core.specs.declared.event.Reply.{Reply}
use Rattle.nv_core.specs.declared.event.Reply.TheVariants as reply
use Rattle.nv_core.specs.declared.reservation.Reservation.{Reservation}
use Rattle.nv_core.specs.declared.running.Running.{Running}
use Rattle.nv_core.specs.declared.shared.Shared.{Shared}
use Rattle.nv_core.specs.declared.world.Actor.{Actor}
use Rattle.nv_core.specs.Rooms.{HasActorRooms}
use Rattle.nv_core.specs.Shown.{ShownCall, held_by, shared_of, shown_by, slots_in}
use Rattle.nv_core.specs.Appends.{IsPlacedBy}
use Rattle.nv_core.specs.GhostCalls.{IsReservationOf, IsShownCallOf}

-- ---- actors

-- what a running call of the machine has that the code has used up, or keeps in its commit
abbrev pub shown_call_of : machine.Running → ShownCall
shown_call_of r = record { call = r.call; plan = r.plan; commit = r.commit; epoch = r.epoch }

-- A RUNNING CALL SHOWS one of the machine, whose call, plan, commit number and epoch are told
-- beside: the code uses text and plan up, or keeps them in its commit
pub record ShowsCall (reserved : Reservation) (running : Running) (r : machine.Running) : Type 0 where
  -- what the code has of the call, with what is told beside, is the machine's running call
  pub shown : shown_by reserved (shown_call_of r) running ≡ r
  -- what the code has left of the request, and of the answer, is of that call
  pub request : IsShownCallOf running (shown_call_of r)
  -- what is ready, or on its way, has the entries of the machine's plan
  pub plan : IsReservationOf (slots_in running.slots) reserved (shown_call_of r)
  -- the next entries that its commit appends have the places that the plan says
  pub place : IsPlacedBy (slots_in running.slots) reserved (shown_call_of r)

-- a call shows a running call of the machine, or there is none on either side
abbrev pub ShowsRunning : Reservation → Option Running → Option machine.Running → Type 0
ShowsRunning reserved None None = Unit {0}
ShowsRunning reserved (Some running) (Some r) = ShowsCall reserved running r
ShowsRunning reserved other shown = ⊥

-- an actor shows one of the machine
pub record ShowsActor (actor : Actor) (shown : machine.Actor) : Type 0 where
  -- what it holds is the machine's hand
  pub hand : held_by actor.reserved ≡ shown.hand
  -- its call shows the machine's, or neither has one
  pub running : ShowsRunning actor.reserved actor.running shown.running

-- ---- the world

-- what clauses see of a world in memory
pub record WorldState : Type 0 where
  -- what all actors share, with its rooms
  pub shared : Shared
  -- what each actor holds, and the call that it runs
  pub actors : List Actor

-- A WORLD SHOWS ONE OF THE MACHINE
pub record Shows (w : WorldState) (m : machine.World) : Type 0 where
  -- the device has the numbers of the machine's
  pub numbers : w.shared.geometry.numbers ≡ m.numbers
  -- what is shared is the machine's, once its rooms are left out
  pub shared : shared_of w.shared ≡ m.shared
  -- there are as many actors as the machine has
  pub count : length w.actors ≡ length m.actors
  -- each actor shows the machine's in its place
  pub each : (k : ℕ) (d : Actor) → k < length w.actors → ShowsActor (slice_index_or w.actors k d) (machine.actor_at m k)

-- ---- events and replies

-- an event of an actor, or a stop, where the memory that it asks for is granted or not
abbrev pub happening_of : Event → Bool → Happening
happening_of (event.Start actor c) granted = On (machine.Start actor c)
happening_of (event.Go actor) granted = On (machine.Go actor granted)
happening_of event.Stop granted = Stop granted

-- the machine's reply to an event of an actor; a stop has none, and is told apart by `told_by`
abbrev pub reply_of : Reply → machine.Reply
reply_of reply.Started = machine.Started
reply_of reply.Moved = machine.Moved
reply_of reply.Waits = machine.Waiting
reply_of (reply.Done answer) = machine.Done answer
reply_of reply.Stopped = machine.Waiting
reply_of (reply.Refused fault) = machine.Refused fault

-- what a reply tells: that of an event, or that the machine stopped
abbrev pub told_by : Reply → Told
told_by reply.Stopped = Stopped
told_by reply = Replied (reply_of reply)

-- ONE EVENT: a step of an actor, or a stop, is replied as the machine replies
pub record IsStep (m : machine.World) (e : Event) (reply : Reply) (after : WorldState) : Type 0 where
  -- whether the memory that it asks for was granted
  pub granted : Bool
  -- what is told is what the machine tells of that happening
  pub told_is : told_by reply ≡ restart.told_at m (happening_of e granted)
  -- the world after it shows the machine's after that happening
  pub shows : Shows after (happen m (happening_of e granted))

-- the happenings of several events, each with its memory granted or not
abbrev pub happenings_of : List Event → List Bool → List Happening
happenings_of [] grants = []
happenings_of (e ∷ events) [] = []
happenings_of (e ∷ events) (granted ∷ grants) = happening_of e granted ∷ happenings_of events grants

-- SEVERAL EVENTS, one after another, are replied as the machine replies
pub record IsRun (m : machine.World) (events : List Event) (replies : List Reply) (after : WorldState) : Type 0 where
  -- of each event whether the memory that it asks for was granted
  pub grants : List Bool
  -- there are as many as events
  pub count : length grants ≡ length events
  -- what is told of each is what the machine tells
  pub all_are : map told_by replies ≡ all_told m (happenings_of events grants)
  -- the world after them shows the machine's after these happenings
  pub shows : Shows after (after_all m (happenings_of events grants))

-- ---- the invariant

-- A RUN OF THE MACHINE
pub record EventRun : Type 0 where
  -- the world where it starts
  pub start : machine.World
  -- the records of that world
  pub records : List Record
  -- the events that came since, in order
  pub events : List machine.Event

-- a world of the machine has a run: some events lead to it from some start of its geometry
abbrev pub HasRun : machine.World → Type 0
HasRun m = (run : EventRun) × IsStart m.numbers run.start run.records × (m ≡ machine_step.after run.start run.events)

-- the run of a new world before any event
abbrev pub new_run : GeometryNumbers → EventRun
new_run g = record { start = formatted g; records = []; events = [] }

-- a world shows the machine's behind a run, so that the machine's laws hold of it
pub record IsWorldAfter (w : WorldState) (m : machine.World) (run : EventRun) : Type 0 where
  -- the run began in a start, with its records
  pub is_start : IsStart w.shared.geometry.numbers run.start run.records
  -- its events lead to the machine's world
  pub reached : m ≡ machine_step.after run.start run.events
  -- the world where it began may stop
  pub may : MayStop w.shared.geometry.numbers.block run.start.shared
  -- the world shows the one to which they lead
  pub shows : Shows w m
  -- each actor has the room that the next step of its call asks for
  pub rooms : (k : ℕ) (d : Actor) → k < length w.actors
      → HasActorRooms w.shared (slice_index_or w.actors k d).reserved (slice_index_or w.actors k d).running

-- WHAT HOLDS OF EVERY WORLD: it shows one of the machine, and events lead to that from some start
-- of its geometry that may stop. After a stop that start is the world that goes on.
abbrev pub IsWorld : WorldState → Type 0
IsWorld w = (m : machine.World) × (run : EventRun) × IsWorldAfter w m run

-- ---- for those who hold a world

-- a world, where there is one, shows one of the machine
abbrev pub ShowsAny : Option WorldState → Option machine.World → Type 0
ShowsAny None None = Unit {0}
ShowsAny (Some w) (Some m) = Shows w m
ShowsAny other shown = ⊥

-- whatever world of the machine is shown at first, it leads to one that is shown after
abbrev pub Leads : (machine.World → machine.World → Type 0) → WorldState → WorldState → Type 0
Leads To old new = (m : machine.World) → Shows old m → (n : machine.World) × To m n × Shows new n

-- the events by which an actor's call goes on, each with the memory that it asks for granted or refused
abbrev pub gos : ℕ → List Bool → List machine.Event
gos actor grants = map (machine.Go actor) grants

-- more steps than any call has
abbrev pub most_goes : ℕ
most_goes = 268435456

-- no call is moved so often
abbrev pub IsBounded : machine.World → Type 0
IsBounded m = (actor : ℕ) (grants : List Bool) → machine_step.replies m (gos actor grants) ≢ replicate most_goes machine.Moved
