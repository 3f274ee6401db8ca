-- Histories of calls that are made one at a time and of stops between them: where a world of the
-- machine stands as one with numbers.
use Rattle.std.specs.Prelude.{◌≡◌, ℕ, Bool, List}
use Rattle.nv_base.specs.declared.geometry.GeometryNumbers.{GeometryNumbers}
use Rattle.nv_book.specs.declared.record.Record.{Record}
use Rattle.nv_calls.specs.declared.call.Call.{Call}
use Rattle.nv_machine.specs.Needed.{IsAtRest}
use Rattle.nv_machine.specs.Starts.{IsStart}
use Rattle.nv_machine.specs.Step.{after}
use Rattle.nv_machine.specs.World.{Event, Reply, World}
use Rattle.nv_restart.specs.Stops.{MayStop}
use Rattle.nv_serial.specs.Law.{IsOutcome, alone, serial_after}
use Rattle.nv_serial.specs.OneCall.{serial_call}
use Rattle.nv_serial.specs.Serial.{Serial}

-- A WORLD STANDS AS ONE WITH NUMBERS while no call runs in it
pub record StandsAs (g : GeometryNumbers) (w : World) (s : Serial) : Type 0 where
  -- the world where the run started
  pub start : World
  -- the list of the start's records
  pub records : List Record
  -- the events since the start
  pub events : List Event
  -- a run may start at that world
  pub is_start : IsStart g start records
  -- the image of the start may be mounted
  pub may : MayStop g.block start.shared
  -- the events lead from the start to the world
  pub leads : after start events ≡ w
  -- no call runs in the world
  pub rest : IsAtRest w
  -- the world with numbers is the one after these events
  pub serial_is : serial_after g start records events ≡ s

-- a call that is made alone in such a world is answered as the world with numbers answers it
pub record IsServed (g : GeometryNumbers) (w : World) (s : Serial) (actor : ℕ) (c : Call)
    (grants : List Bool) (last : Reply) : Type 0 where
  -- the world with numbers after the call
  pub next : Serial
  -- the last reply is the outcome's, or memory was refused and nothing has changed
  pub outcome : IsOutcome c s (serial_call s actor c) last next
  -- the world after the call stands as that one
  pub stands : StandsAs g (after w (alone actor c grants)) next
