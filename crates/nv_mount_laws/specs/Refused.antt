-- What a refused request has changed.
use Rattle.std.specs.Prelude.{◌≡◌, ◌≢◌, ◌⊎◌, ℕ, List, Some, Result, Ok, Err}
use Rattle.nv_base.specs.declared.node.Kind.TheVariants.{File}
use Rattle.nv_base.specs.declared.numbers.Handle.{Handle}
use Rattle.nv_calls.specs.Refusals.{kind_of, lookup}
use Rattle.nv_calls.specs.declared.answer.Answer.{Answer}
use Rattle.nv_calls.specs.declared.answer.Answer.TheVariants as answers
use Rattle.nv_calls.specs.declared.call.Call.{Call}
use Rattle.nv_calls.specs.declared.call.Call.TheVariants as calls
use Rattle.nv_entry.specs.declared.node.NodeCopy.{NodeCopy}
use Rattle.nv_mount_beside.specs.Names.{node_named, number_of}
use Rattle.nv_mount_beside.specs.declared.refusal.Refusal.{Refusal}
use Rattle.nv_mounted.specs.Dialogues.{Dialogue, IsHad}
use Rattle.nv_mounted.specs.Side.{Does}
use Rattle.nv_mounted.specs.declared.side.Side.{Side}
use Rattle.nv_serial.specs.OneCall.{serial_call}
use Rattle.nv_serial.specs.Serial.{Serial, copies_now, told}
use Rattle.nv_mount_laws.specs.Hidden.{AreHidden}
use Rattle.nv_mount_laws.specs.World.{CanStand, Calls}

-- a request that only reads has changed nothing of the world, whether it is answered or refused
abbrev pub ChangesNothing : {A : Type 0} → Dialogue A → Type 0
ChangesNothing {A} talk = (old new : Serial) (end : Result A Refusal) → IsHad Calls talk old end new
    → new ≡ old

-- A REFUSED REQUEST HAS CHANGED NOTHING: neither the world, nor what stands beside it
abbrev pub RefusedChangesNothing : {A : Type 0} → Dialogue (A × Side) → Side → Type 0
RefusedChangesNothing talk side =
    (old new : Serial) (new_side : Side) (refusal : Refusal)
    → Does Calls talk old side (Err refusal) new new_side
    → (new ≡ old) × (new_side ≡ side)

-- ---- where a refused request has changed something

-- a refused request has changed nothing beside the world, and in the world nothing or this
abbrev pub RefusedChanges : {A : Type 0} → (Serial → Refusal → Serial → Type 0)
    → Dialogue (A × Side) → Side → Type 0
RefusedChanges Something talk side =
    (old new : Serial) (new_side : Side) (refusal : Refusal) → CanStand old → AreHidden old side
    → Does Calls talk old side (Err refusal) new new_side
    → ((new ≡ old) ⊎ Something old refusal new) × (new_side ≡ side)

-- a node was made that has no number by which it could be told of: its slot was used 2 ^ 47 times
pub record IsUnnumbered (old : Serial) (refusal : Refusal) (new : Serial) : Type 0 where
  -- the call that made it
  pub call : Call
  -- its handle
  pub handle : Handle
  -- it was made
  pub made : serial_call old 0 call ≡ told (answers.Made handle) new
  -- it has no number
  pub unnumbered : number_of handle ≡ Err refusal

-- an empty directory went, whose name a directory was to take, and then that was refused
pub record HasLostDirectory (old new : Serial) : Type 0 where
  -- the directory of the name
  pub dir : Handle
  -- the name
  pub name : List ℕ
  -- what the call that took it away answered
  pub answer : Answer
  -- it is gone
  pub gone : serial_call old 0 (calls.Rmdir dir name) ≡ told answer new

-- an open file went among the hidden ones, and came back: names lead where they led, and files are
-- as they were. In its directory the name stands last.
pub record IsPutBack (old new : Serial) : Type 0 where
  -- names lead where they led
  pub names : (dir : Handle) (name : List ℕ) → lookup (copies_now new) dir name
      ≡ lookup (copies_now old) dir name
  -- files are as they were
  pub files : (handle : Handle) (node : NodeCopy) → copies_now old handle ≡ Some node → node.kind
      ≡ File
      → copies_now new handle ≡ Some node
  -- kinds are as they were
  pub kinds : (handle : Handle) → kind_of (copies_now new handle) ≡ kind_of (copies_now old handle)

-- what a refused rename has changed, if anything
abbrev pub RenameChanges : Serial → Refusal → Serial → Type 0
RenameChanges old refusal new = HasLostDirectory old new ⊎ IsPutBack old new

-- a node has another mode, or another size, and nothing else has changed
pub record IsPartlySet (number : ℕ) (old : Serial) (refusal : Refusal) (new : Serial) : Type 0 where
  -- the node
  pub handle : Handle
  -- the request names it
  pub is_named : node_named number ≡ Ok handle
  -- all other nodes are as they were
  pub others : (other : Handle) → other ≢ handle → copies_now new other ≡ copies_now old other
  -- it is of its kind
  pub kind : kind_of (copies_now new handle) ≡ kind_of (copies_now old handle)
  -- names lead where they led
  pub names : (dir : Handle) (name : List ℕ) → lookup (copies_now new) dir name
      ≡ lookup (copies_now old) dir name
