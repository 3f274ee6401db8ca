-- A mount, from its beginning on.
use Rattle.std.specs.Prelude.{◌^◌, ◌<◌, List, [], ◌∷◌, Result}
use Rattle.nv_fuse.specs.declared.request.Request.{Request}
use Rattle.nv_mount_answers.specs.declared.kept.Time.{Time}
use Rattle.nv_mount_beside.specs.declared.outcome.Outcome.{Outcome}
use Rattle.nv_mount_beside.specs.declared.refusal.Refusal.{Refusal}
use Rattle.nv_mounted.specs.Answers.{IsAnswered}
use Rattle.nv_mounted.specs.Contents.{clean}
use Rattle.nv_mounted.specs.Side.{Does}
use Rattle.nv_mounted.specs.declared.side.Side.{Side}
use Rattle.nv_serial.specs.Serial.{Serial}
use Rattle.nv_mount_laws.specs.Hidden.{IsNewMount}
use Rattle.nv_mount_laws.specs.Requests.{HasAnyRoom}
use Rattle.nv_mount_laws.specs.World.{Calls}

-- what comes to a mount: a request, and how it is answered; or the cleaning of a log between two
pub data Step : Type 0 where
  Asked : Time → Request → Outcome → Step
  Cleans : Step

-- what one step makes of a mount
abbrev pub IsStep : Step → Serial → Side → Serial → Side → Type 0
IsStep (Asked now request outcome) old side new new_side =
    (request.header.node < 2 ^ 64)
    × IsAnswered Calls HasAnyRoom old side now request outcome new new_side
IsStep Cleans old side new new_side =
    (result : Result (Unit {0}) Refusal) × Does Calls (clean side) old side result new new_side

-- A MOUNT behind steps, the last one first: it began as a new one
abbrev pub IsMountBehind : List Step → Serial → Side → Type 0
IsMountBehind [] s side =
    (old : Serial) × (begun : Time) × IsNewMount old s side begun
IsMountBehind (step ∷ steps) s side =
    (old : Serial) × (old_side : Side) × IsMountBehind steps old old_side
    × IsStep step old old_side s side
