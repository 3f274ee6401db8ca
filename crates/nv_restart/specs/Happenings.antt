-- Histories: events of actors, and stops.
use Rattle.std.specs.Prelude.{◌≡◌, ◌++◌, Bool, true, false, List, [], ◌∷◌, map}
use Rattle.nv_base.specs.Memory.{out_of_memory}
use Rattle.nv_base.specs.declared.geometry.GeometryNumbers.{GeometryNumbers}
use Rattle.nv_base.specs.declared.numbers.Handle.{Handle}
use Rattle.nv_book.specs.declared.record.Record.{Record}
use Rattle.nv_machine.specs.Made.{made_at}
use Rattle.nv_machine.specs.PlainRun.{Copy, Plain, actor_of, plain_change_of, plain_step}
use Rattle.nv_machine.specs.Starts.{IsStart}
use Rattle.nv_machine.specs.Step.{after, step}
use Rattle.nv_machine.specs.World.{Event, Refused, Reply, World, actor_at}
use Rattle.nv_restart.specs.Restarted.{restarted}
use Rattle.nv_restart.specs.Stops.{MayStop}

-- what happens in a history: an event of an actor, or a stop of the machine
pub data Happening : Type 0 where
  -- an event of an actor
  On : (e : Event) → Happening
  -- the machine stops and is mounted again, where the memory for that is granted or not
  Stop : (granted : Bool) → Happening

-- what a happening is told
pub data Told : Type 0 where
  -- the reply of an event, or of a stop that was refused memory
  Replied : (reply : Reply) → Told
  -- the machine has stopped, and the world is the one that a mount made
  Stopped : Told

-- ONE HAPPENING: the world after it
abbrev pub happen : World → Happening → World
happen w (On e) = (step w e).world
happen w (Stop true) = restarted w
happen w (Stop false) = w

-- what one happening is told
abbrev pub told_at : World → Happening → Told
told_at w (On e) = Replied (step w e).reply
told_at w (Stop true) = Stopped
told_at w (Stop false) = Replied (Refused out_of_memory)

-- the world after several happenings, one after another
abbrev pub after_all : World → List Happening → World
after_all w [] = w
after_all w (h ∷ happenings) = after_all (happen w h) happenings

-- what several happenings are told, one after another
abbrev pub all_told : World → List Happening → List Told
all_told w [] = []
all_told w (h ∷ happenings) = told_at w h ∷ all_told (happen w h) happenings

-- the plain world's copy of a snapshot, without its pins
abbrev pub unpinned : Copy → Copy
unpinned copy = record copy { pins = 0 }

-- the plain world once the machine stopped: no copy is pinned, and nothing else changes
abbrev pub plain_stopped : Plain → Plain
plain_stopped p = record p { copies = map unpinned p.copies }

-- THE PLAIN WORLD BESIDE IT after one happening
abbrev pub plain_happens : World → Happening → Plain → Plain
plain_happens w (On e) p = plain_step w e p
plain_happens w (Stop true) p = plain_stopped p
plain_happens w (Stop false) p = p

-- the plain world after happenings, one after another
abbrev pub plain_after_all : World → List Happening → Plain → Plain
plain_after_all w [] p = p
plain_after_all w (h ∷ happenings) p = plain_after_all (happen w h) happenings (plain_happens w h p)

-- THE HANDLES that one happening made: that of a new inode, at the commit point of its call
abbrev pub handles_made_at : World → Happening → List Handle
handles_made_at w (On e) = made_at (plain_change_of w e) (actor_at w (actor_of e)).running
handles_made_at w (Stop granted) = []

-- the handles that happenings made, the earliest first
abbrev pub all_made : World → List Happening → List Handle
all_made w [] = []
all_made w (h ∷ happenings) = handles_made_at w h ++ all_made (happen w h) happenings

-- some events lead to the world from one where a run may start, and which may stop
pub record IsReached (g : GeometryNumbers) (w : World) : Type 0 where
  -- the world where the run started
  pub start : World
  -- the list of the start's records
  pub records : List Record
  -- the events since the start
  pub events : List Event
  -- a run may start at that world
  pub is_start : IsStart g start records
  -- the image of the start may be mounted
  pub may : MayStop g.block start.shared
  -- the events lead from the start to the world
  pub leads : after start events ≡ w
