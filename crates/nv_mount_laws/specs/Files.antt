-- A mount whose world is made of files: each of its calls is a method of theirs.
use Rattle.std.specs.Prelude.{Result}
use Rattle.nv_base.specs.declared.fault.Fault.{Fault}
use Rattle.nv_calls.specs.declared.answer.Answer.{Answer}
use Rattle.nv_calls.specs.declared.call.Call.{Call}
use Rattle.nv_core.specs.Worlds.{WorldState}
use Rattle.nv_files.specs.Stands.{Leads, Stands}
use Rattle.nv_files.specs.Told.{IsAnswered}
use Rattle.nv_mount_beside.specs.declared.outcome.Outcome.{Outcome}
use Rattle.nv_mount_beside.specs.declared.refusal.Refusal.{Refusal}
use Rattle.nv_mounted.specs.Dialogues.{Dialogue}
use Rattle.nv_mounted.specs.Side.{Does}
use Rattle.nv_mounted.specs.declared.side.Side.{Side}
use Rattle.nv_serial.specs.Serial.{Serial}
use Rattle.nv_mount_laws.specs.World.{Calls}

-- a call of files: as whatever world with numbers they stood, they stand now as one to which the
-- call leads
abbrev pub FilesTell : WorldState → Call → Result Answer Fault → WorldState → Type 0
FilesTell old c result new = Leads (IsAnswered c result) old new

-- A REQUEST TO A MOUNT OF FILES is one to the plain world as which they stand
abbrev pub IsPlain : Dialogue (Outcome × Side) → Type 0
IsPlain talk =
    (old new : WorldState) (side new_side : Side) (result : Result Outcome Refusal) (s : Serial)
    → Stands old s
    → Does FilesTell talk old side result new new_side
    → (t : Serial) × Does Calls talk s side result t new_side × Stands new t
