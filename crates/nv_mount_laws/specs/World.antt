-- A mount whose world is the plain one with numbers: what its calls do.
use Rattle.std.specs.Prelude.{Result}
use Rattle.nv_base.specs.declared.fault.Fault.{Fault}
use Rattle.nv_calls.specs.declared.answer.Answer.{Answer}
use Rattle.nv_calls.specs.declared.call.Call.{Call}
use Rattle.nv_files.specs.Told.{IsAnswered}
use Rattle.nv_machine.specs.World.{World}
use Rattle.nv_serial.specs.Histories.{StandsAs}
use Rattle.nv_serial.specs.Serial.{Serial}

-- a world of the machine stands as this one with numbers
abbrev pub CanStand : Serial → Type 0
CanStand s = (w : World) × StandsAs s.numbers w s

-- ONE CALL OF THE PLAIN WORLD, by which a mount is told: its one actor makes a whole call, and
-- another may come
pub record Calls (old : Serial) (c : Call) (result : Result Answer Fault) (new : Serial) : Type 0
  where
    -- it is answered as the world with numbers answers it; or it is refused, and nothing has
    -- changed
    pub answered : IsAnswered c result old new
    -- a world of the machine stands as the one after it
    pub stands : CanStand new
