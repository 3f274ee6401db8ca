-- What becomes of files that are open.
use Rattle.std.specs.Prelude.{◌≡◌, ◌≢◌, ◌<◌, ℕ, List, Some, Result, Ok}
use Rattle.nv_base.specs.declared.node.Kind.TheVariants.{File}
use Rattle.nv_base.specs.declared.numbers.Handle.{Handle}
use Rattle.nv_calls.specs.Refusals.{lookup}
use Rattle.nv_calls.specs.calls.Write.{write_refusal}
use Rattle.nv_calls.specs.declared.answer.Answer.TheVariants as answers
use Rattle.nv_calls.specs.declared.call.Call.TheVariants as calls
use Rattle.nv_entry.specs.Bytes.{read_at}
use Rattle.nv_entry.specs.declared.node.NodeCopy.{NodeCopy}
use Rattle.nv_mount_beside.specs.Names.{node_named}
use Rattle.nv_mount_beside.specs.declared.outcome.Outcome.{Outcome}
use Rattle.nv_mount_beside.specs.declared.refusal.Refusal.{Refusal}
use Rattle.nv_mounted.specs.Dialogues.{Dialogue, IsHad}
use Rattle.nv_mounted.specs.Side.{Does, at_node}
use Rattle.nv_mounted.specs.declared.side.Side.{Side}
use Rattle.nv_serial.specs.OneCall.{serial_call}
use Rattle.nv_serial.specs.Serial.{Serial, copies_now, told}
use Rattle.nv_mount_laws.specs.Hidden.{AreHidden}
use Rattle.nv_mount_laws.specs.World.{CanStand, Calls}

-- a file is there and open
pub record IsOpenFile (s : Serial) (side : Side) (handle : Handle) (node : NodeCopy) : Type 0 where
  -- it is there
  pub there : copies_now s handle ≡ Some node
  -- it is a file
  pub file : node.kind ≡ File
  -- it is open
  pub is_open : 0 < (at_node side handle).opens

-- A FILE STAYS AS IT IS: its kind, its mode, its size and its bytes. By its handle it is read and
-- written as before.
pub record Stays (old new : Serial) (handle : Handle) (node : NodeCopy) : Type 0 where
  -- the node is the same
  pub same : copies_now new handle ≡ Some node
  -- a read tells the same bytes
  pub reads : (offset count : ℕ) → serial_call new 0 (calls.Read handle offset count)
      ≡ told (answers.Bytes (read_at offset count node.bytes)) new
  -- a write is refused by the nodes as it was
  pub writes : (block offset : ℕ) (text : List ℕ)
      → write_refusal block (copies_now new) handle offset text
      ≡ write_refusal block (copies_now old) handle offset text

-- each file that was open before a request, and still is, stays as it is
abbrev pub LeavesOpenFiles : {A : Type 0} → Dialogue (A × Side) → Side → Type 0
LeavesOpenFiles {A} talk side =
    (old new : Serial) (new_side : Side) (result : Result A Refusal) → CanStand old
    → AreHidden old side
    → Does Calls talk old side result new new_side → (handle : Handle) (node : NodeCopy)
    → IsOpenFile old side handle node
    → 0 < (at_node new_side handle).opens → Stays old new handle node

-- and each is as often open as it was
abbrev pub LeavesOpens : {A : Type 0} → Dialogue (A × Side) → Side → Type 0
LeavesOpens {A} talk side =
    (old new : Serial) (new_side : Side) (result : Result A Refusal) → CanStand old
    → AreHidden old side
    → Does Calls talk old side result new new_side → (handle : Handle) (node : NodeCopy)
    → copies_now old handle ≡ Some node
    → (at_node new_side handle).opens ≡ (at_node side handle).opens

-- the open file at a name that another one takes stays as it is
abbrev pub LeavesReplaced : Dialogue (Outcome × Side) → Side → Handle → List ℕ → Handle → Type 0
LeavesReplaced talk side dir name there =
    (old new : Serial) (node : NodeCopy) (end : Outcome × Side) → CanStand old → AreHidden old side
    → dir ≢ side.hidden → lookup (copies_now old) dir name ≡ Some there
    → copies_now old there ≡ Some node → node.kind ≡ File → IsHad Calls talk old (Ok end) new
    → Stays old new there node

-- ---- requests that change another file, or make one

-- each file that a request does not name stays as it is, open or not
abbrev pub LeavesOtherFiles : {A : Type 0} → Dialogue (A × Side) → Side → ℕ → Type 0
LeavesOtherFiles {A} talk side number =
    (old new : Serial) (new_side : Side) (result : Result A Refusal) → CanStand old
    → Does Calls talk old side result new new_side → (handle : Handle) (node : NodeCopy)
    → copies_now old handle ≡ Some node → node.kind ≡ File → node_named number ≢ Ok handle
    → Stays old new handle node

-- the node that an answered request made under a name is so often open
abbrev pub OpensMade : {A : Type 0} → Dialogue (A × Side) → Side → ℕ → List ℕ → ℕ → Type 0
OpensMade {A} talk side number name opens =
    (old new : Serial) (new_side : Side) (a : A) → CanStand old → AreHidden old side
    → Does Calls talk old side (Ok a) new new_side → (dir made : Handle)
    → node_named number ≡ Ok dir → lookup (copies_now new) dir name ≡ Some made
    → (at_node new_side made).opens ≡ opens
