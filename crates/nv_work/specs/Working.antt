-- What inner functions of a script that threads play tell each other.
use Rattle.std.specs.Prelude.{◌≡◌, ◌⊎◌, ◌≤◌, ℕ, ◌+◌, Bool, true, false, List, [], ◌++◌, length, map, Option, Some, None, is_some, IsOk, Result, Ok, Err}
use Rattle.std.specs.Io.KnownBytes.{Consumes, IsAtEnd}
use Rattle.std.specs.List.{concat}
use Rattle.nv_base.specs.declared.fault.Fault.{Fault}
use Rattle.nv_base.specs.declared.fault.Fault.TheVariants as fault
use Rattle.nv_machine.specs.World as machine
use Rattle.nv_core.specs.AtRest.{IsBusy}
use Rattle.nv_core.specs.Worlds.{HasRun, ShowsAny, WorldState}
use Rattle.nv_script.specs.declared.fault.LineFault.{LineFault}
use Rattle.nv_script.specs.declared.fault.LineFault.TheVariants as line_fault
use Rattle.nv_script.specs.declared.command.Command.{Command}
use Rattle.nv_script.specs.declared.command.Command.TheVariants as command
use Rattle.nv_script.specs.Grammar.{IsLineFault, Parsed, is_skipped}
use Rattle.nv_script.specs.Words.{words_of}
use Rattle.nv_script.specs.Lines.{WritesFront, ended}
use Rattle.nv_script.specs.Play.{Plays, machine_player, most_lines}
use Rattle.nv_script.specs.Results.{Fails, HasAnyRun, HoldsNone, LineFaultIs, PlaysShown, Sends, Sent}
use Rattle.nv_work.specs.declared.forked.ForkedCall.{ForkedCall}
use Rattle.nv_work.specs.Threads.{forked_of}
use Rattle.nv_work.specs.Work.{BeginAlike, EndsBefore, Fork, Forks, ForkedFails, FrontFails, IsFork, Reported, fork_fault, is_fork, lines_in}

-- whether a line is `fork`, or what is wrong with it then
abbrev pub ReadsFork : Result Bool LineFault → Bool → List ℕ → Type 0
ReadsFork (Ok is) made line = (is_fork line ≡ is) × (is ≡ true → fork_fault made line ≡ None)
ReadsFork (Err (line_fault.Faulty why)) made line = (is_fork line ≡ true) × (fork_fault made line ≡ Some why)
ReadsFork (Err line_fault.Write) made line = ⊥
ReadsFork (Err (line_fault.OutOfMemory witness)) made line = is_skipped line ≡ false

-- whether a call was read, and which
abbrev pub ReadsCall : Result ForkedCall LineFault → Parsed Command → Type 0
ReadsCall (Ok forked) read = read ≡ Ok (command.Do forked.actor forked.call)
ReadsCall (Err fault) read = IsLineFault fault read

-- a line behind `fork` was read
abbrev pub ReadsForkedLine : Result (Unit {0}) LineFault → List ℕ → Type 0
ReadsForkedLine (Ok done) line = (is_skipped line ≡ true) ⊎ IsOk (forked_of (words_of line))
ReadsForkedLine (Err line_fault.Write) line = ⊥
ReadsForkedLine (Err (line_fault.Faulty why)) line = ForkedFails line why
ReadsForkedLine (Err (line_fault.OutOfMemory witness)) line = Unit {0}

-- what is wrong with a line before `fork`, or with the line `fork`
abbrev pub FrontFaultIs : LineFault → Sent → Sent → Option machine.World → List ℕ → Type 0
FrontFaultIs (line_fault.Faulty why) old new m line = FrontFails (is_some m) line why × (new ≡ old)
FrontFaultIs line_fault.Write old new m line = LineFaultIs line_fault.Write old new m line
FrontFaultIs (line_fault.OutOfMemory witness) old new m line = LineFaultIs (line_fault.OutOfMemory witness) old new m line

-- whether a line is `fork`: else it was played
abbrev pub FrontLineIs : Result Bool LineFault → Sent → Sent → Option WorldState → List ℕ → Option WorldState → Type 0
FrontLineIs (Ok true) old new world line world' =
    (is_fork line ≡ true) × (fork_fault (is_some world) line ≡ None) × (new ≡ old) × (world' ≡ world)
FrontLineIs (Ok false) old new world line world' = PlaysShown world line (Sends old new) world'
FrontLineIs (Err why) old new world line world' =
    (m : Option machine.World) → ShowsAny world m → HasAnyRun m → FrontFaultIs why old new m line

-- how many writes fail in a line that is no `fork`
abbrev pub failed_in_front : Result Bool LineFault → ℕ
failed_in_front (Err line_fault.Write) = 1
failed_in_front _ = 0

-- what holds before the line with a number, behind `fork`
pub record AtFork (input known old new : Option (List ℕ)) (gathered : List ℕ) (number : ℕ) (f : Fork) : Type 0 where
  -- the lines up to here have no fault
  pub is : IsFork f
  -- the number is that of the next line
  pub count : length (lines_in f) + 1 ≡ number
  -- they are no more than a script may have
  pub few : length (lines_in f) ≤ most_lines
  -- they were taken from the reader, each with its end
  pub taken : Consumes input known (ended (lines_in f))
  -- the text of those before `fork` was written, except for its end, which is gathered
  pub written : WritesFront old new f.text gathered

-- the lines up to `fork` were taken and played, or the script has ended
abbrev pub FrontIs : Result ℕ Fault → (input left known old new : Option (List ℕ)) → List ℕ → Option WorldState → Type 0
FrontIs (Ok number) input left known old new gathered world =
    (f : Fork) × AtFork input known old new gathered (number + 1) f × (f.behind ≡ []) × ShowsAny world (Some f.world)
FrontIs (Err why) input left known old new gathered world =
    EndsBefore why input left (λ text. WritesFront old new text gathered) × HoldsNone {A = ℕ} (Err why) gathered

-- why no threads made the calls, or the service on a world without calls did not close
abbrev pub RefusesThreads : Fault → machine.World → Type 0
RefusesThreads fault.ActorBusy m = IsBusy m
RefusesThreads (fault.Mismatch part) m = ¬ IsBusy m
RefusesThreads (fault.OutOfMemory witness) m = Unit {0}
RefusesThreads _ m = ⊥

-- a service that opened on a world has closed into another
pub record ClosesAfter (opened closed : WorldState) : Type 0 where
  -- its device has the numbers of the first
  pub numbers : closed.shared.geometry.numbers ≡ opened.shared.geometry.numbers
  -- no commit of the first is lost: the last one has no lower number
  pub commit : opened.shared.book.state.commit ≤ closed.shared.book.state.commit

-- a text was sent; or something that begins alike, and then a write of it failed, or memory was refused
abbrev pub AddsText : Result (Unit {0}) Fault → Sent → Sent → List ℕ → Type 0
AddsText (Ok done) old new text = Sends old new text
AddsText (Err fault.Write) old new text = (told : List ℕ) × BeginAlike told text × Fails old new told
AddsText (Err (fault.OutOfMemory witness)) old new text = (told : List ℕ) × BeginAlike told text × Sends old new told
AddsText (Err _) old new text = ⊥

-- a report on the world was sent, or not
abbrev pub ReportIs : Result (Unit {0}) Fault → List ℕ → machine.World → Sent → Sent → Option WorldState → Type 0
ReportIs (Ok done) line m old new world = (n : machine.World) × (text : List ℕ) × Plays machine_player 0 (Some m) line text (Some n)
    × ShowsAny world (Some n) × HasRun n × Sends old new text
ReportIs (Err why) line m old new world = AddsText (Err why) old new []

-- the answers of threads and the reports on the world that is shown were sent, or not all of them
abbrev pub TellsAll : Result (Unit {0}) Fault → List (List ℕ) → Option WorldState → Sent → Sent → Type 0
TellsAll (Ok done) texts world old new = (reports : List ℕ) × (m : machine.World) × ShowsAny world (Some m) × HasRun m
    × Reported m reports × Sends old new (concat texts ++ reports)
TellsAll (Err why) texts world old new = AddsText (Err why) old new (concat texts)
