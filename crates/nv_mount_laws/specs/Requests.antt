-- Each request, whatever it is, and however it is answered.
use Rattle.std.specs.Prelude.{◌≡◌, ◌≢◌, ◌^◌, ◌<◌, ℕ, Bool, true, false, Ok}
use Rattle.nv_base.specs.declared.numbers.Handle.{Handle}
use Rattle.nv_entry.specs.declared.node.NodeCopy.{NodeCopy}
use Rattle.nv_fuse.specs.declared.operation.Operation.{Operation}
use Rattle.nv_fuse.specs.declared.operation.Operation.TheVariants as operations
use Rattle.nv_fuse.specs.declared.request.Request.{Request}
use Rattle.nv_mount_answers.specs.declared.kept.Time.{Time}
use Rattle.nv_mount_beside.specs.Names.{node_named}
use Rattle.nv_mount_beside.specs.declared.outcome.Outcome.{Outcome}
use Rattle.nv_mounted.specs.Answers.{IsAnswered}
use Rattle.nv_mounted.specs.Side.{at_node}
use Rattle.nv_mounted.specs.declared.side.Side.{Side}
use Rattle.nv_mounted.specs.declared.world.Room.{Room}
use Rattle.nv_serial.specs.Serial.{Serial}
use Rattle.nv_mount_laws.specs.Hidden.{AreHidden}
use Rattle.nv_mount_laws.specs.Open.{IsOpenFile, Stays}
use Rattle.nv_mount_laws.specs.World.{CanStand, Calls}

-- how much room a world has is left open here: no law needs it
abbrev pub HasAnyRoom : Serial → Room → Type 0
HasAnyRoom s room = Unit {0}

-- A REQUEST LEAVES THE HIDDEN FILES so, and another request may come
abbrev pub RequestsKeepHidden : Type 0
RequestsKeepHidden =
    (old new : Serial) (side new_side : Side) (now : Time) (request : Request) (outcome : Outcome)
    → request.header.node < 2 ^ 64 → CanStand old → AreHidden old side
    → IsAnswered Calls HasAnyRoom old side now request outcome new new_side
    → CanStand new × AreHidden new new_side

-- ---- open files

-- a write, a fallocate, and a setting of attributes change the node that they name
abbrev pub changes_node : Operation → Bool
changes_node (operations.Write file offset write_flags lock_owner flags bytes) = true
changes_node (operations.Fallocate file offset size mode) = true
changes_node (operations.SetAttributes set) = true
changes_node _ = false

-- the request changes another node, if any
abbrev pub ChangesAnother : ℕ → Operation → Handle → Type 0
ChangesAnother number operation handle =
    changes_node operation ≡ true → node_named number ≢ Ok handle

-- A REQUEST LEAVES EACH OPEN FILE as it is, except one that it changes itself, or releases last
abbrev pub RequestsLeaveOpenFiles : Type 0
RequestsLeaveOpenFiles =
    (old new : Serial) (side new_side : Side) (now : Time) (request : Request) (outcome : Outcome)
    → request.header.node < 2 ^ 64 → CanStand old → AreHidden old side
    → IsAnswered Calls HasAnyRoom old side now request outcome new new_side → (handle : Handle)
    (node : NodeCopy)
    → IsOpenFile old side handle node → 0 < (at_node new_side handle).opens
    → ChangesAnother request.header.node request.operation handle → Stays old new handle node
