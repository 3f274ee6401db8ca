-- A TURN ON PARTS THAT IT IS LENT, wherever the others are.
use Rattle.std.specs.Prelude.{◌≡◌, ℕ, Bool, List, Result}
use Rattle.nv_base.specs.declared.fault.Fault.{Fault}
use Rattle.nv_base.specs.declared.geometry.GeometryNumbers.{GeometryNumbers}
use Rattle.nv_calls.specs.declared.answer.Answer.{Answer}
use Rattle.nv_machine.specs.Step.{turn}
use Rattle.nv_machine.specs.World.{Ends, HandState, Moves, Running, Shared}
use Rattle.nv_steps.specs.Parts.{Has, IsOf, Part, with_parts}

-- a turn that was made
pub record Made : Type 0 where
  -- the call before it
  pub running : Running
  -- what the call had in its hand
  pub hand : HandState
  -- whether the memory was there that its step asked for, if any
  pub granted : Bool
  -- the parts that it was lent, as it found them
  pub found : List Part
  -- those that it changed, as it left them
  pub left : List Part

-- IT IS THE MACHINE'S TURN in every shared state of these numbers that has the parts found: the call goes on so.
-- So it reads no part that it did not find, and changes none but those that it left.
abbrev pub IsMove : GeometryNumbers → ℕ → Made → HandState → Running → Type 0
IsMove numbers actor t h r =
    (s : Shared) → IsOf numbers s → Has s t.found
    → turn numbers.block actor t.granted s t.hand t.running ≡ Moves (with_parts t.left s) h r

-- the same of its call's last turn: the call ends so
abbrev pub IsEnd : GeometryNumbers → ℕ → Made → Result Answer Fault → HandState → Type 0
IsEnd numbers actor t result h =
    (s : Shared) → IsOf numbers s → Has s t.found
    → turn numbers.block actor t.granted s t.hand t.running ≡ Ends result (with_parts t.left s) h
