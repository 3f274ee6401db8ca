-- THE LAW of calls that are made one at a time: what the machine of steps replies, and what it leaves, is what the world with
-- numbers says.
use Rattle.std.specs.Prelude.{◌≡◌, ◌≢◌, ◌⊎◌, ◌++◌, ℕ, Bool, true, false, List, [], ◌∷◌, map, replicate}
use Rattle.nv_base.specs.Memory.{out_of_memory}
use Rattle.nv_base.specs.declared.geometry.GeometryNumbers.{GeometryNumbers}
use Rattle.nv_book.specs.declared.record.Record.{Record}
use Rattle.nv_calls.specs.declared.call.Call.{Call}
use Rattle.nv_calls.specs.declared.call.Call.TheVariants as call
use Rattle.nv_calls.specs.declared.snapshot_or_cleaner_call.SnapshotOrCleanerCall.TheVariants as on
use Rattle.nv_machine.specs.Alone.{goes}
use Rattle.nv_machine.specs.Needed.{IsAtRest}
use Rattle.nv_machine.specs.PlainRun.{plain_after, plain_of}
use Rattle.nv_machine.specs.Recorded.{records_after}
use Rattle.nv_machine.specs.Starts.{IsStart}
use Rattle.nv_machine.specs.Step.{after, replies}
use Rattle.nv_machine.specs.World.{Event, Moved, Refused, Reply, Start, Started, World}
use Rattle.nv_serial.specs.OneCall.{serial_call}
use Rattle.nv_serial.specs.Serial.{Outcome, Serial}
use Rattle.nv_serial.specs.Shown.{slot_told}

-- the world with numbers after these events from a start on.
-- It has the plain world and the records that stand beside the run, and of each cell the
-- generation and the log pages.
abbrev pub serial_after : GeometryNumbers → World → List Record → List Event → Serial
serial_after g start records events = record {
  numbers = g;
  plain = plain_after start events (plain_of start);
  slots = map slot_told (after start events).shared.cells;
  records = records_after start events records;
}

-- a call of which no step grows anything, so that it wants no memory
abbrev pub grows_nothing : Call → Bool
grows_nothing (call.Stat handle) = true
grows_nothing (call.Lookup dir name) = true
grows_nothing (call.SnapshotOrCleaner on.Snap) = true
grows_nothing (call.SnapshotOrCleaner (on.Drop snapshot)) = true
grows_nothing other = false

-- the reply and the world are those of an outcome; or a call that grows something is refused memory, and nothing has changed
abbrev pub IsOutcome : Call → Serial → Outcome → Reply → Serial → Type 0
IsOutcome c old made reply new =
    ((reply ≡ made.reply) × (new ≡ made.world))
    ⊎ ((grows_nothing c ≡ false) × (reply ≡ Refused out_of_memory) × (new ≡ old))

-- the events of a call that is made alone: its start, and then its steps, by whether each is granted memory
abbrev pub alone : ℕ → Call → List Bool → List Event
alone actor c grants = Start actor c ∷ goes actor grants

-- what the events of a call that is made alone are replied, the last reply named apart.
-- Where the call is started, each step but the last replies that it moves. Else there is no step.
abbrev pub AreRepliesTo : List Bool → List Reply → Reply → Type 0
AreRepliesTo grants told last =
    ((grants ≡ []) × (told ≡ last ∷ []) × (last ≢ Started))
    ⊎ ((count : ℕ) × (told ≡ Started ∷ (replicate count Moved ++ last ∷ [])) × (last ≢ Moved))

-- A CALL THAT IS MADE ALONE, from its start to its last reply.
-- It comes behind events from a start on. No other actor makes a step up to the first reply that
-- is not `Moved`. Where the start is refused that is all.
pub record IsMadeAlone (g : GeometryNumbers) (start : World) (records : List Record) (before : List Event) (actor : ℕ) (c : Call)
    (grants : List Bool) (last : Reply) : Type 0 where
  -- a run may start at that world
  pub start_is : IsStart g start records
  -- no call runs after the events before this call
  pub rest : IsAtRest (after start before)
  -- the call is refused its start, or each of its steps moves up to the last
  pub replies_are : AreRepliesTo grants (replies (after start before) (alone actor c grants)) last

-- a call that is made alone is answered as the world with numbers answers it
pub record IsSerialCall (g : GeometryNumbers) (start : World) (records : List Record) (before : List Event) (actor : ℕ) (c : Call)
    (grants : List Bool) (last : Reply) : Type 0 where
  -- reply and world are those of `serial_call`, or memory was refused and nothing has changed
  pub outcome : IsOutcome c (serial_after g start records before) (serial_call (serial_after g start records before) actor c) last
      (serial_after g start records (before ++ alone actor c grants))
  -- no call runs after the call
  pub rest : IsAtRest (after start (before ++ alone actor c grants))

-- the law of calls that are made one at a time
abbrev pub CallsAreSerial : Type 0
CallsAreSerial =
    (g : GeometryNumbers) (start : World) (records : List Record) (before : List Event) (actor : ℕ) (c : Call) (grants : List Bool)
    (last : Reply) → IsMadeAlone g start records before actor c grants last
    → IsSerialCall g start records before actor c grants last
