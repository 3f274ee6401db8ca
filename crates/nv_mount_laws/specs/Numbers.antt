-- The numbers by which nodes are told.
use Rattle.std.specs.Prelude.{◌≡◌, ℕ, List, Option, Some, None, Ok}
use Rattle.nv_base.specs.declared.numbers.Handle.{Handle}
use Rattle.nv_calls.specs.Refusals.{lookup}
use Rattle.nv_mount_beside.specs.Names.{node_named}
use Rattle.nv_mount_beside.specs.declared.outcome.Outcome.{Outcome}
use Rattle.nv_mount_beside.specs.declared.outcome.Outcome.TheVariants as outcomes
use Rattle.nv_mounted.specs.Dialogues.{Dialogue, IsHad}
use Rattle.nv_mounted.specs.Side.{Does}
use Rattle.nv_mounted.specs.declared.side.Side.{Side}
use Rattle.nv_serial.specs.Serial.{Serial, copies_now}
use Rattle.nv_mount_laws.specs.World.{CanStand, Calls}

-- the number that an outcome tells of a node, if it tells one
abbrev pub number_told : Outcome → Option ℕ
number_told (outcomes.Found entry) = Some entry.node
number_told (outcomes.Created entry opened) = Some entry.node
number_told (outcomes.Node attributes) = Some attributes.inode
number_told other = None

-- A NAME IS TOLD by the number of the node that it leads to: requests name the node by this number
pub record IsToldOf (s : Serial) (dir : Handle) (name : List ℕ) (outcome : Outcome) : Type 0 where
  -- the node
  pub node : Handle
  -- the name leads to it
  pub bound : lookup (copies_now s) dir name ≡ Some node
  -- the number
  pub number : ℕ
  -- it is told
  pub is_told : number_told outcome ≡ Some number
  -- a request with the number names the node
  pub is_named : node_named number ≡ Ok node

-- an answered look-up tells the number of what it found
abbrev pub TellsFound : Dialogue Outcome → Handle → List ℕ → Type 0
TellsFound talk dir name =
    (old new : Serial) (outcome : Outcome) → IsHad Calls talk old (Ok outcome) new
    → IsToldOf new dir name outcome

-- an answered making tells the number of what it made
abbrev pub TellsMade : Dialogue (Outcome × Side) → Side → ℕ → List ℕ → Type 0
TellsMade talk side number name =
    (old new : Serial) (new_side : Side) (outcome : Outcome) → CanStand old
    → Does Calls talk old side (Ok outcome) new new_side → (dir : Handle)
    → node_named number ≡ Ok dir → IsToldOf new dir name outcome

-- an answered request for attributes tells the number by which it named the node
abbrev pub TellsItself : Dialogue Outcome → ℕ → Type 0
TellsItself talk number =
    (old new : Serial) (outcome : Outcome) → IsHad Calls talk old (Ok outcome) new
    → number_told outcome ≡ Some number
