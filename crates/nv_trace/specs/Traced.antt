-- What inner functions of a traced script tell each other.
use Rattle.std.specs.Prelude.{◌≡◌, ℕ, Bool, false, true, List, ◌++◌, Some}
use Rattle.nv_machine.specs.Frame.{Lent, nothing_lent}
use Rattle.nv_machine.specs.Step as machine_step
use Rattle.nv_machine.specs.StepNames as named
use Rattle.nv_machine.specs.World as machine
use Rattle.nv_machine.specs.World.{Go, actor_at}
use Rattle.nv_core.specs.Whole.{HasMoved}
use Rattle.nv_core.specs.Worlds.{Shows, WorldState, reply_of}
use Rattle.nv_core.specs.declared.event.Reply.{Reply}
use Rattle.nv_script.specs.declared.command.Command.{Command}
use Rattle.nv_script.specs.declared.command.Command.TheVariants as command
use Rattle.nv_script.specs.declared.trace.Trace.{Trace}
use Rattle.nv_script.specs.Trace.{go_line, go_lines}

-- one step of an actor's call was made, and its line was added
pub record IsTracedStep (form : Trace) (number : ℕ) (m : machine.World) (actor : ℕ) (reply : Reply) (old text : List ℕ) (after : WorldState) : Type 0 where
  -- whether the memory that it asks for was granted
  pub granted : Bool
  -- it was replied as the machine replies
  pub reply_is : reply_of reply ≡ (machine_step.step m (Go actor granted)).reply
  -- the world after it shows the machine's
  pub shows : Shows after (machine_step.step m (Go actor granted)).world
  -- the text has the line of the event behind what it had
  pub text_is : text ≡ old ++ go_line form number m actor granted (actor_at m actor).running

-- a call went on so often, moved each time, and its events have these lines
abbrev pub HasMovedTraced : Trace → (number times actor : ℕ) → (events : List ℕ) → (old new : machine.World) → Type 0
HasMovedTraced form number times actor events old new =
    (moved : HasMoved times actor old new) × (events ≡ go_lines form number old actor moved.grants)

-- what a step with this name is lent
abbrev pub lent_named : named.StepName → Lent
lent_named named.Number = record nothing_lent { pool = true }
lent_named (named.Lock slot) = record nothing_lent { lock = Some slot }
lent_named (named.TakeBlocks cpu) = record nothing_lent { list = Some cpu }
lent_named (named.TakeLogPages cpu) = record nothing_lent { list = Some cpu }
lent_named named.Enter = record nothing_lent { book = true; commit_lock = true }
lent_named (named.Append slot) = record nothing_lent { cell = Some slot }
lent_named (named.Open cpu) = record nothing_lent { book = true }
lent_named (named.Publish slot) = record nothing_lent { cell = Some slot }
lent_named (named.Close cpu) = record nothing_lent { book = true }
lent_named (named.Retire slot) = record nothing_lent { book = true; cell = Some slot }
lent_named named.Leave = record nothing_lent { commit_lock = true }
lent_named (named.Unlock slot) = record nothing_lent { lock = Some slot }
lent_named (named.Give cpu) = record nothing_lent { list = Some cpu }
lent_named named.ReturnNumber = record nothing_lent { pool = true }
lent_named named.Make = record nothing_lent { book = true }
lent_named named.Drop = record nothing_lent { book = true }
lent_named named.Pin = record nothing_lent { book = true }
lent_named named.Unpin = record nothing_lent { book = true }
lent_named named.Pick = record nothing_lent { book = true }
lent_named (named.LockPicked slot) = record nothing_lent { lock = Some slot }
lent_named (named.Release slot) = record nothing_lent { cell = Some slot }
lent_named (named.LockCleaned slot) = record nothing_lent { lock = Some slot }
lent_named (named.Fresh cpu) = record nothing_lent { list = Some cpu }
lent_named (named.Unlink slot) = record nothing_lent { cell = Some slot }
lent_named (named.Compact slot) = record nothing_lent { cell = Some slot }
lent_named other = nothing_lent

-- a command asks for a report: it makes no event, and stops nothing
abbrev pub is_report : Command → Bool
is_report (command.Start actor c) = false
is_report (command.Go actor more) = false
is_report (command.Run actor) = false
is_report (command.Do actor c) = false
is_report command.Stop = false
is_report report = true

-- a text was added of which this holds
abbrev pub Adds : (old new : List ℕ) → (List ℕ → Type 0) → Type 0
Adds old new Is = (text : List ℕ) × (new ≡ old ++ text) × Is text
