-- In each mount, behind any steps, the hidden files are so.
use Rattle.std.proofs.Common.{List, [], ◌∷◌}
use Rattle.nv_mounted.specs.Contents.{clean}
use Rattle.nv_mounted.specs.Side.{with_side}
use Rattle.nv_mounted.specs.declared.side.Side.{Side}
use Rattle.nv_serial.specs.Serial.{Serial}
use Rattle.nv_mount_laws.specs.Hidden.{AreHidden}
use Rattle.nv_mount_laws.specs.Mounts.{Asked, Cleans, IsMountBehind, IsStep, Step}
use Rattle.nv_mount_laws.specs.World.{CanStand}
use Rattle.nv_mount_laws.proofs.AsideRequests.{cleanings_keep}
use Rattle.nv_mount_laws.proofs.NewMounts.{new_hidden, new_stands}
use Rattle.nv_mount_laws.proofs.Requests.{requests_keep}
use Rattle.nv_mount_laws.proofs.Stays.{stands_after}

step_keeps : (step : Step) (old new : Serial) (side new_side : Side) → CanStand old
    → AreHidden old side → IsStep step old side new new_side
    → CanStand new × AreHidden new new_side
step_keeps (Asked now request outcome) old new side new_side stands was is =
    requests_keep old new side new_side now request outcome is.0 stands was is.1
step_keeps Cleans old new side new_side stands was (result, does) = (
  stands_after (clean side) old new (with_side new_side result) stands does.had,
  cleanings_keep side old new new_side result stands was does,
)

-- A MOUNT behind any steps
both_hold : (steps : List Step) (s : Serial) (side : Side) → IsMountBehind steps s side
    → CanStand s × AreHidden s side
both_hold [] s side (old, begun, is) =
    (new_stands old s side begun is, new_hidden old s side begun is)
both_hold (step ∷ steps) s side (old, old_side, behind, is) =
    let before = both_hold steps old old_side behind in
    step_keeps step old s old_side side before.0 before.1 is

pub mounts_hidden : (steps : List Step) (s : Serial) (side : Side) → IsMountBehind steps s side
    → AreHidden s side
mounts_hidden steps s side is = (both_hold steps s side is).1
