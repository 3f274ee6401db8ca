-- The hidden files of a mount: those that are open and have no name.
use Rattle.std.specs.Prelude.{◌≡◌, ◌≢◌, ◌<◌, ◌≤◌, ℕ, true, List, length, min, Some, Result, Ok}
use Rattle.nv_base.specs.declared.node.Kind.TheVariants.{File, Dir}
use Rattle.nv_base.specs.declared.numbers.Handle.{Handle}
use Rattle.nv_calls.specs.Refusals.{kind_of, lookup}
use Rattle.nv_entry.specs.Tree.{root}
use Rattle.nv_entry.specs.declared.node.NodeCopy.{NodeCopy}
use Rattle.nv_mount_answers.specs.declared.kept.Time.{Time}
use Rattle.nv_mount_beside.specs.Names.{hidden, node_named}
use Rattle.nv_mount_beside.specs.declared.refusal.Refusal.{Refusal}
use Rattle.nv_mounted.specs.Dialogues.{Dialogue}
use Rattle.nv_mounted.specs.NewMounts.{Begins}
use Rattle.nv_mounted.specs.Side.{Does, at_node}
use Rattle.nv_mounted.specs.Talks.{hidden_name_for}
use Rattle.nv_mounted.specs.declared.side.Side.{Side}
use Rattle.nv_mounted.specs.declared.world.Room.{Room}
use Rattle.nv_serial.specs.Serial.{Serial, copies_now}
use Rattle.nv_mount_laws.specs.World.{CanStand, Calls}

-- a file is open and has no name, and this is its number
pub record IsNameless (s : Serial) (side : Side) (name : List ℕ) (handle : Handle) : Type 0 where
  -- it is a file
  pub file : kind_of (copies_now s handle) ≡ Some File
  -- it is open
  pub is_open : 0 < (at_node side handle).opens
  -- it has no name
  pub nameless : (at_node side handle).nameless ≡ true
  -- its number, in decimal
  pub numbered : hidden_name_for handle ≡ Ok name

-- it stands in the hidden directory under its number
pub record StandsHidden (s : Serial) (side : Side) (handle : Handle) : Type 0 where
  -- the name there
  pub name : List ℕ
  -- its number, in decimal
  pub numbered : hidden_name_for handle ≡ Ok name
  -- it leads to the file
  pub bound : lookup (copies_now s) side.hidden name ≡ Some handle

-- THE HIDDEN FILES: each open file without a name stands in the hidden directory under its number,
-- and nothing else does
pub record AreHidden (s : Serial) (side : Side) : Type 0 where
  -- the hidden directory stands in the root
  pub place : lookup (copies_now s) root hidden ≡ Some side.hidden
  -- it is a directory
  pub directory : kind_of (copies_now s side.hidden) ≡ Some Dir
  -- a file without a name stands there
  pub stands : (handle : Handle) (node : NodeCopy) → copies_now s handle ≡ Some node
      → (at_node side handle).nameless ≡ true
      → StandsHidden s side handle
  -- while it is open it is not gone
  pub kept : (handle : Handle) → (at_node side handle).nameless ≡ true
      → 0 < (at_node side handle).opens
      → (node : NodeCopy) × (copies_now s handle ≡ Some node)
  -- what stands there is an open file without a name
  pub only : (name : List ℕ) (handle : Handle) → lookup (copies_now s) side.hidden name
      ≡ Some handle
      → IsNameless s side name handle
  -- a file without a name has a number
  pub numbered : (handle : Handle) → (at_node side handle).nameless ≡ true → (name : List ℕ)
      × (hidden_name_for handle ≡ Ok name)
  -- each inode slot has a row beside the world
  pub rows : length s.slots ≤ length side.nodes.rows

-- a request leaves them so, answered or refused
abbrev pub KeepsHidden : {A : Type 0} → Dialogue (A × Side) → Side → Type 0
KeepsHidden {A} talk side =
    (old new : Serial) (new_side : Side) (result : Result A Refusal) → CanStand old
    → AreHidden old side
    → Does Calls talk old side result new new_side → AreHidden new new_side

-- a room tells all inode slots of a world, which are at most as many as a mount counts
abbrev pub TellsSlots : Serial → Room → Type 0
TellsSlots s room = length s.slots ≤ min room.inodes 65536

-- a new mount of the plain world, as its contract tells
abbrev pub IsNewMount : Serial → Serial → Side → Time → Type 0
IsNewMount old new side begun = Begins Calls TellsSlots old begun (Ok side) new

-- the request does not name the hidden directory
abbrev pub NamesAnother : Side → ℕ → Type 0
NamesAnother side number = node_named number ≢ Ok side.hidden
