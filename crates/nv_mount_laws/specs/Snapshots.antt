-- What a snapshot tells of its nodes, beside what the mount told of them when it was made.
use Rattle.std.specs.Prelude.{◌≡◌, ℕ, List, [], ◌∷◌, length, Option, Some, Ok}
use Rattle.nv_base.specs.declared.numbers.Handle.{Handle}
use Rattle.nv_calls.specs.Refusals.{lookup}
use Rattle.nv_entry.specs.Tree.{root}
use Rattle.nv_entry.specs.declared.node.NodeCopy.{NodeCopy}
use Rattle.nv_fuse.specs.declared.attributes.Attributes.{Attributes}
use Rattle.nv_mount_beside.specs.Shown.{without_set_id}
use Rattle.nv_mount_beside.specs.declared.outcome.Outcome.{Outcome}
use Rattle.nv_mounted.specs.Dialogues.{IsHad}
use Rattle.nv_mounted.specs.Side.{Does}
use Rattle.nv_mounted.specs.Snapshots.{FoundNode, make_snapshot, node_in, number_in, snapshot_attributes}
use Rattle.nv_mounted.specs.Talks.{ask_attributes}
use Rattle.nv_mounted.specs.declared.side.Side.{Side}
use Rattle.nv_serial.specs.Serial.{Serial, copies_now}
use Rattle.nv_mount_laws.specs.World.{CanStand, Calls}

-- a path leads from one node to another by its names
abbrev pub PathLeads : (Handle → Option NodeCopy) → Handle → List (List ℕ) → Handle → Type 0
PathLeads nodes from [] to = from ≡ to
PathLeads nodes from (name ∷ names) to =
    (next : Handle) × (lookup nodes from name ≡ Some next) × PathLeads nodes next names to

-- what was told of a node, with a number of the snapshot's own, one link, and a mode that sets no
-- user and no group
abbrev pub in_snapshot : ℕ → Attributes → Attributes
in_snapshot number told =
    record told { inode = number; mode = without_set_id told.mode; links = 1 }

-- A NEW SNAPSHOT TELLS OF A NODE WHAT THE MOUNT TOLD of the node under the same path, except for
-- these. Its nodes are found by their places in its tree.
abbrev pub TellsAsThen : Side → List ℕ → Type 0
TellsAsThen side name =
    (old new : Serial) (new_side : Side) (outcome : Outcome) → CanStand old
    → Does Calls (make_snapshot side name) old side (Ok outcome) new new_side
    → (at number : ℕ) (found : FoundNode)
    → number_in (length side.snapshots) at ≡ Ok number
    → node_in new_side.snapshots number ≡ Ok found
    → (handle : Handle) → PathLeads (copies_now old) root found.node.path handle
    → (told : Attributes) (later : Serial)
    → IsHad Calls (ask_attributes side handle) old (Ok told) later
    → snapshot_attributes new_side number ≡ Ok (in_snapshot number told)
