-- Stops and mounts: the room for an image, and why a mount is refused.
use Rattle.std.specs.Prelude.{◌≡◌, ℕ, ◌≤◌, [], length, None, replicate, vec_capacity}
use Rattle.nv_audit.specs.Faults.{IsFirstFault}
use Rattle.nv_audit.specs.Image.{ImageValue}
use Rattle.nv_base.specs.declared.fault.Fault.{Fault}
use Rattle.nv_base.specs.declared.fault.Fault.TheVariants.{BadImage}
use Rattle.nv_base.specs.declared.geometry.GeometryNumbers.{GeometryNumbers}
use Rattle.nv_epoch.specs.SnapList.{ids}
use Rattle.nv_machine.specs.World as machine
use Rattle.nv_core.specs.Formats.{idle_actor}
use Rattle.nv_core.specs.Shown.{shared_of}
use Rattle.nv_core.specs.declared.beside.Beside.{Beside}
use Rattle.nv_core.specs.declared.image_room.ImageRoom.{ImageRoom}
use Rattle.nv_core.specs.declared.shared.Shared.{Shared}

-- room for the image of a world, so that a stop takes no memory
pub record HasImageRoom (g : GeometryNumbers) (room : ImageRoom) : Type 0 where
  -- no slot is in it yet
  pub no_slots : room.slots.items ≡ []
  -- no snapshot is in it yet
  pub no_snapshots : room.snapshots.items ≡ []
  -- each slot of the device has a place in it
  pub slots : g.inodes ≤ vec_capacity room.slots
  -- each snapshot that may live has a place in it
  pub snapshots : g.snaps ≤ vec_capacity room.snapshots

-- what is shared fits into that room
pub record FitsRoom (shared : Shared) : Type 0 where
  -- there are no more cells than the device has slots
  pub slots : length shared.cells.items ≤ shared.geometry.numbers.inodes
  -- no more snapshots live than the device says
  pub snapshots : length (ids shared.book.state.snaps) ≤ shared.geometry.numbers.snaps

-- a world of the machine that shares this
abbrev pub world_of : Shared → machine.World
world_of shared = record { numbers = shared.geometry.numbers; shared = shared_of shared; actors = [] }

-- what a world at rest has beside its parts, with so many slots
pub record IsBeside (g : GeometryNumbers) (slots : ℕ) (beside : Beside) : Type 0 where
  -- each slot has its lock, which nobody holds
  pub owners : beside.owners.items ≡ replicate slots None
  -- each actor has an empty hand and no call
  pub actors : beside.actors.items ≡ replicate g.actors (idle_actor g)
  -- there is room for the image of the world
  pub room : HasImageRoom g beside.room

-- the image has this fault first
abbrev pub IsBadImage : ImageValue → Fault → Type 0
IsBadImage image (BadImage why) = IsFirstFault why image
IsBadImage image fault = ⊥
