-- SCRIPTS THAT THREADS PLAY: how the lines before `fork` are played, how those behind it are read, what threads are answered, and how
-- such a script ends.
use Rattle.std.specs.Prelude.{◌≡◌, ◌⊎◌, ◌≤◌, ℕ, ◌+◌, ◌&&◌, Bool, true, false, not, if◌then◌else◌, nat_lt, List, [], ◌∷◌, ◌++◌, length, codes, bytes_eq, All, Option, Some, None, is_some, IfSome, IsOk, MatchBool, Result, Ok, Err}
use Rattle.std.specs.Io.KnownBytes.{Appends, Consumes, IsAtEnd}
use Rattle.std.specs.List.{concat}
use Rattle.nv_base.specs.declared.fault.Fault.{Fault}
use Rattle.nv_base.specs.declared.fault.Fault.TheVariants as fault
use Rattle.nv_base.specs.declared.fault.ScriptFaultKind.{ScriptFaultKind}
use Rattle.nv_base.specs.declared.fault.ScriptFaultKind.TheVariants as kind
use Rattle.nv_machine.specs.World.{World}
use Rattle.nv_core.specs.AtRest.{IsBusy}
use Rattle.nv_core.specs.Worlds.{HasRun}
use Rattle.nv_script.specs.Grammar.{is_skipped, word_at}
use Rattle.nv_script.specs.Lines.{IsLine, ended}
use Rattle.nv_script.specs.Play.{EndsAfter, EndsBy, IsFaultBy, LineFails, PlaysAll, machine_player, most_lines}
use Rattle.nv_script.specs.Words.{words_of}
use Rattle.nv_work.specs.Threads.{AreThreadTexts, calls_in, forked_of, shares_of}

-- the first word of a line is `fork`
abbrev pub is_fork : List ℕ → Bool
is_fork line = not (is_skipped line) && bytes_eq (word_at (words_of line) 0) (codes "fork")

-- what is wrong with such a line: no world is made, or it has more words
abbrev pub fork_fault : Bool → List ℕ → Option ScriptFaultKind
fork_fault false line = Some kind.Order
fork_fault true line = if nat_lt 1 (length (words_of line)) then Some kind.Count else None

-- the fault of a line, as long as no line before it was `fork`
abbrev pub FrontFails : Bool → List ℕ → ScriptFaultKind → Type 0
FrontFails made line why = MatchBool (is_fork line) (fork_fault made line ≡ Some why) (LineFails made line why)

-- a line behind `fork` has this fault
abbrev pub ForkedFails : List ℕ → ScriptFaultKind → Type 0
ForkedFails line why = (is_skipped line ≡ false) × (forked_of (words_of line) ≡ Err why)

-- a line behind `fork` without a fault: it is skipped, or a `do`. Example: a format, `fork` and
-- `tree` write `formatted`, and the fault is `word` at line 3.
abbrev pub IsForked : List ℕ → Type 0
IsForked line = IsLine line × ((is_skipped line ≡ true) ⊎ IsOk (forked_of (words_of line)))

-- a script up to some line behind `fork`
pub record Fork : Type 0 where
  -- the lines before `fork`
  pub front : List (List ℕ)
  -- the text that they write
  pub text : List ℕ
  -- the world to which they lead
  pub world : World
  -- the line `fork`
  pub line : List ℕ
  -- the lines behind it
  pub behind : List (List ℕ)

-- the lines of a script with a `fork`
abbrev pub lines_in : Fork → List (List ℕ)
lines_in f = f.front ++ f.line ∷ f.behind

-- the lines of a script with a `fork` have no fault
pub record IsFork (f : Fork) : Type 0 where
  -- from no world on those before `fork` write this text, and lead to this world
  pub plays : PlaysAll machine_player None f.front f.text (Some f.world)
  -- the line `fork` has at most 4,096 bytes and no line end
  pub lawful : IsLine f.line
  -- its first word is `fork`
  pub is : is_fork f.line ≡ true
  -- the line has no other word
  pub right : fork_fault true f.line ≡ None
  -- each line behind it is skipped, or a `do` without a fault
  pub forked : All IsForked f.behind

-- the input begins with such lines
pub record Forks (input : Option (List ℕ)) (f : Fork) (rest : List ℕ) : Type 0 where
  -- they have no fault
  pub is : IsFork f
  -- where the reader's bytes are known, they are these lines, each with its end, and the rest
  pub split : IfSome input (λ bytes. bytes ≡ ended (lines_in f) ++ rest)
  -- they are no more than a script may have
  pub few : length (lines_in f) ≤ most_lines

-- `fork` was read, and the text of the lines before it was written
abbrev pub EndsForked : (input : Option (List ℕ)) → (List ℕ → Type 0) → (Fork → List ℕ → Type 0) → Type 0
EndsForked input Writes Also = (f : Fork) × (rest : List ℕ) × Forks input f rest × Also f rest × Writes f.text

-- no actor has a call at `fork`, and each call behind it has its answer in the text of its thread
abbrev pub AreAnswersTo : (threads : ℕ) → Fork → List (List ℕ) → Type 0
AreAnswersTo threads f texts =
    (¬ IsBusy f.world) × AreThreadTexts f.world.numbers.actors (shares_of threads (calls_in f.behind)) texts

-- two texts are alike as far as both go. Example: the answers `0: done 4` and `1: done 4`, and the
-- first alone.
abbrev pub BeginAlike : List ℕ → List ℕ → Type 0
BeginAlike one other = (rest more : List ℕ) × (one ++ rest ≡ other ++ more)

-- all lines were read, and nothing else was told, or the answers of threads, or a part of these, or the reports behind them
abbrev pub EndsThreads : (threads : ℕ) (input : Option (List ℕ)) → (List ℕ → Type 0) → Type 0
EndsThreads threads input Writes = (f : Fork) × (told : List ℕ) × (texts : List (List ℕ)) × Forks input f []
    × AreAnswersTo threads f texts × BeginAlike told (concat texts) × Writes (f.text ++ told)

-- the texts of the reports on a world
abbrev pub Reported : World → List ℕ → Type 0
Reported m reports = (n : Option World)
    × PlaysAll machine_player (Some m) (codes "tree" ∷ codes "snaps" ∷ codes "audit" ∷ []) reports n

-- THE WORLD AFTER THREADS, beside the one at `fork`
pub record FollowsFork (fork m : World) : Type 0 where
  -- events lead to it from a start
  pub run : HasRun m
  -- its device has the numbers of the other
  pub numbers : m.numbers ≡ fork.numbers
  -- no commit of the other is lost: its last one has no lower number
  pub commit : fork.shared.book.commit ≤ m.shared.book.commit

-- all lines were read, each call behind `fork` was answered, and then the world after threads was reported on
abbrev pub EndsReported : (threads : ℕ) (input : Option (List ℕ)) → (List ℕ → Type 0) → Type 0
EndsReported threads input Writes = (f : Fork) × (texts : List (List ℕ)) × (reports : List ℕ) × (m : World) × Forks input f []
    × AreAnswersTo threads f texts × FollowsFork f.world m × Reported m reports × Writes (f.text ++ (concat texts ++ reports))

-- HOW SUCH A SCRIPT ENDS BEFORE ITS ANSWERS. By a fault of a line: of the next one before `fork`; of the last one, where there is none;
-- of the next one behind it. By a failed read, of whose reader no more than a piece of the next line is gone. Because an actor has a call
-- at `fork`, or because none has and the service did not close. By a failed write, or for want of memory
abbrev pub EndsBefore : Fault → (input left : Option (List ℕ)) → (List ℕ → Type 0) → Type 0
EndsBefore (fault.ScriptFault why number) input left Writes =
    EndsAfter machine_player input Writes (λ lines rest world.
    (number ≡ length lines + 1) × IsFaultBy (FrontFails (is_some world)) number rest why)
    ⊎ (EndsAfter machine_player input Writes (λ lines rest world.
    (number ≡ length lines) × (why ≡ kind.Order) × (rest ≡ []) × IsAtEnd left)
    ⊎ EndsForked input Writes (λ f rest. (number ≡ length (lines_in f) + 1) × IsFaultBy ForkedFails number rest why))
EndsBefore fault.Read input left Writes =
    EndsAfter machine_player input Writes (λ lines rest world.
    (piece : List ℕ) × IsLine piece × Consumes input left (ended lines ++ piece))
    ⊎ EndsForked input Writes (λ f rest. (piece : List ℕ) × IsLine piece × Consumes input left (ended (lines_in f) ++ piece))
EndsBefore fault.ActorBusy input left Writes =
    EndsForked input Writes (λ f rest. (rest ≡ []) × IsBusy f.world × IsAtEnd left)
EndsBefore (fault.Mismatch _) input left Writes =
    EndsForked input Writes (λ f rest. (rest ≡ []) × (¬ IsBusy f.world) × IsAtEnd left)
EndsBefore fault.Write input left Writes = EndsBy machine_player fault.Write input left Writes
EndsBefore (fault.OutOfMemory witness) input left Writes =
    EndsBy machine_player (fault.OutOfMemory witness) input left Writes ⊎ EndsForked input Writes (λ f rest. Unit {0})
EndsBefore _ input left Writes = ⊥

-- how such a script ends among its answers or its reports: by a failed write, or for want of
-- memory
abbrev pub EndsAmong : (threads : ℕ) → Fault → (input : Option (List ℕ)) → (List ℕ → Type 0) → Type 0
EndsAmong threads fault.Write input Writes = EndsThreads threads input Writes
EndsAmong threads (fault.OutOfMemory witness) input Writes = EndsThreads threads input Writes
EndsAmong threads _ input Writes = ⊥

-- how `work` ends by a fault, and what it has written
abbrev pub WorksBy : (threads : ℕ) → Fault → (input left : Option (List ℕ)) → (List ℕ → Type 0) → Type 0
WorksBy threads why input left Writes = EndsBefore why input left Writes ⊎ EndsAmong threads why input Writes

-- HOW IT ENDS: well, where all lines were read, and behind the text of the lines before `fork` stand the answers of threads and the
-- reports
abbrev pub Works : (threads : ℕ) → Result (Unit {0}) Fault → (input left : Option (List ℕ)) → (List ℕ → Type 0) → Type 0
Works threads (Ok done) input left Writes = EndsReported threads input Writes × IsAtEnd left
Works threads (Err why) input left Writes = WorksBy threads why input left Writes

-- HOW A SCRIPT ENDS THAT THREADS PLAY, where the writer has this at first and is left with that
abbrev pub WorksScript : (threads : ℕ) → Result (Unit {0}) Fault → (input left old new : Option (List ℕ)) → Type 0
WorksScript threads result input left old new = Works threads result input left (λ text. Appends old new text)
