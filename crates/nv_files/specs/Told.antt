-- What a method is told of its call, in a type of its own.
use Rattle.std.specs.Prelude.{◌≡◌, ◌⊎◌, false, Result, Ok, Err}
use Rattle.nv_base.specs.Memory.{out_of_memory}
use Rattle.nv_base.specs.declared.fault.Fault.{Fault}
use Rattle.nv_calls.specs.declared.answer.Answer.{Answer}
use Rattle.nv_calls.specs.declared.answer.Answer.TheVariants as answers
use Rattle.nv_calls.specs.declared.call.Call.{Call}
use Rattle.nv_calls.specs.declared.call.Call.TheVariants as call
use Rattle.nv_serial.specs.Law.{grows_nothing}
use Rattle.nv_serial.specs.OneCall.{serial_call}
use Rattle.nv_serial.specs.Serial.{Serial, refused, told}

-- a call is refused by a fault that the world with numbers gives it, and nothing has changed
abbrev pub IsRefused : Call → Fault → Serial → Serial → Type 0
IsRefused c fault old new = (serial_call old 0 c ≡ refused fault old) × (new ≡ old)

-- the same, or memory is refused
abbrev pub IsRefusedOrStarved : Call → Fault → Serial → Serial → Type 0
IsRefusedOrStarved c fault old new = ((serial_call old 0 c ≡ refused fault old) ⊎ (fault ≡ out_of_memory)) × (new ≡ old)

-- A METHOD IS TOLD what the world with numbers says of a call of actor 0: the answer, read as a value of its own type, and
-- the world after it; or the fault, and then nothing has changed.
-- Told: the answer and the world after it are those of `serial_call` for actor 0. A fault is the one that comes first in
-- that call's order, and then the world is as it was.
abbrev pub IsTold : {T : Type 0} → Call → Result T Fault → (T → Answer) → Serial → Serial → Type 0
IsTold c (Ok value) says old new = serial_call old 0 c ≡ told (says value) new
IsTold c (Err fault) says old new = IsRefused c fault old new

-- the same, or memory is refused.
-- Told or starved: as told; or memory is refused, the world is as it was, and the same call may be made again.
abbrev pub IsToldOrStarved : {T : Type 0} → Call → Result T Fault → (T → Answer) → Serial → Serial → Type 0
IsToldOrStarved c (Ok value) says old new = serial_call old 0 c ≡ told (says value) new
IsToldOrStarved c (Err fault) says old new = IsRefusedOrStarved c fault old new

-- what the call itself is told: memory is refused only where it grows anything
abbrev pub IsAnswered : Call → Result Answer Fault → Serial → Serial → Type 0
IsAnswered c (Ok answer) old new = serial_call old 0 c ≡ told answer new
IsAnswered c (Err fault) old new =
    ((serial_call old 0 c ≡ refused fault old) ⊎ ((grows_nothing c ≡ false) × (fault ≡ out_of_memory))) × (new ≡ old)

-- the answer has bytes
abbrev pub HasBytes : Answer → Type 0
HasBytes (answers.Bytes bytes) = Unit {0}
HasBytes other = ⊥

-- a call that is answered a handle
abbrev pub FindsHandle : Call → Type 0
FindsHandle (call.Create dir name mode) = Unit {0}
FindsHandle (call.Mkdir dir name mode) = Unit {0}
FindsHandle (call.Lookup dir name) = Unit {0}
FindsHandle other = ⊥

-- a call on nodes that is answered nothing
abbrev pub TellsNothing : Call → Type 0
TellsNothing (call.Size file size) = Unit {0}
TellsNothing (call.Mode handle mode) = Unit {0}
TellsNothing (call.Unlink dir name) = Unit {0}
TellsNothing (call.Rmdir dir name) = Unit {0}
TellsNothing (call.Rename from old to new) = Unit {0}
TellsNothing other = ⊥
