-- What a script writes of whose lines none makes a single step of a call.
use Rattle.std.specs.Prelude.{◌≡◌, ℕ, Bool, true, false, List, [], ◌∷◌, ◌++◌, Option, Some, Result, Ok}
use Rattle.std.specs.Io.KnownBytes.{Appends}
use Rattle.nv_base.specs.declared.fault.Fault.{Fault}
use Rattle.nv_base.specs.declared.geometry.GeometryNumbers.{GeometryNumbers}
use Rattle.nv_calls.specs.declared.call.Call.{Call}
use Rattle.nv_machine.specs.World.{Reply}
use Rattle.nv_script.specs.declared.command.Command.{Command}
use Rattle.nv_script.specs.declared.command.Command.TheVariants as command
use Rattle.nv_script.specs.Grammar.{command_of}
use Rattle.nv_script.specs.Lines.{IsLine, ended}
use Rattle.nv_script.specs.Play.{Answers, Ends, Player, Restarts, Tells, WorldReports, no_head, nodes_listed}
use Rattle.nv_script.specs.Words.{words_of}

-- a `start`, a `go` or a `run`
abbrev pub makes_steps : Command → Bool
makes_steps (command.Start actor call) = true
makes_steps (command.Go actor more) = true
makes_steps (command.Run actor) = true
makes_steps _ = false

-- no line of these bytes is one
abbrev pub HasNoSteps : List ℕ → Type 0
HasNoSteps bytes = (before : List (List ℕ)) (line rest : List ℕ) (c : Command) → bytes ≡ ended before ++ ((line ++ 10 ∷ []) ++ rest)
    → IsLine line → command_of (words_of line) ≡ Ok c → makes_steps c ≡ false

-- A PLAYER OF WHOLE CALLS: worlds of a kind with an empty one and reports, what a stop leaves of one, and how a call is
-- answered that is made alone
module _ {W : Type 0} (empty : GeometryNumbers → W) (reports : W → WorldReports) (stopped : W → W)
    (Calls : W → ℕ → Call → Reply → W → Type 0) where
  -- what a command that makes no single step writes and leaves
  abbrev pub ActsAlone : W → Command → List ℕ → W → Type 0
  ActsAlone old (command.Do actor call) text new = Answers (Calls old actor call) text new
  ActsAlone old command.Stop text new = Restarts (stopped old) old text new
  ActsAlone old report text new = Tells (reports old) old report text new

  -- the player of whole calls
  abbrev pub player_of_calls : Player
  player_of_calls = record { World = W; empty = empty; Acts = λ number. ActsAlone; listed = λ w. nodes_listed (reports w); head = no_head; made = λ number new answer. answer }

-- PLAYED ALONE: where the reader's bytes are known, and no line of them makes single steps, a
-- script ends as a player of whole calls plays it
abbrev pub PlaysAlone : Player → Result (Unit {0}) Fault → (input left old new : Option (List ℕ)) → Type 0
PlaysAlone player result input left old new =
    (bytes : List ℕ) → input ≡ Some bytes → HasNoSteps bytes → Ends player result input left (λ text. Appends old new text)
