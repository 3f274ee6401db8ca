-- What a status tells of a call.
use Rattle.std.specs.Prelude.{◌≡◌, ◌⊎◌, ℕ}
use Rattle.nv_base.specs.declared.fault.Fault.{Fault}
use Rattle.nv_base.specs.declared.fault.Fault.TheVariants as fault
use Rattle.nv_calls.specs.declared.answer.Answer.{Answer}
use Rattle.nv_calls.specs.declared.call.Call.{Call}
use Rattle.nv_files.specs.Told.{IsRefused, IsRefusedOrStarved}
use Rattle.nv_serial.specs.OneCall.{serial_call}
use Rattle.nv_serial.specs.Serial.{Serial, told}

-- THE NUMBER OF A FAULT, by its name
abbrev pub number_of : Fault → ℕ
number_of (fault.OutOfMemory memory) = 1
number_of (fault.BadGeometry field) = 2
number_of fault.Stale = 3
number_of fault.NotFile = 4
number_of fault.NotDirectory = 5
number_of fault.BadName = 6
number_of fault.Missing = 7
number_of fault.Exists = 8
number_of fault.NotEmpty = 9
number_of fault.FileTooBig = 10
number_of fault.WriteTooBig = 11
number_of fault.NoInode = 12
number_of fault.NoSpace = 13
number_of fault.CommitLimit = 14
number_of fault.EpochLimit = 15
number_of fault.TooManySnapshots = 16
number_of fault.NoSnapshot = 17
number_of fault.Pinned = 18
number_of fault.MoveDirectory = 19
number_of fault.Contended = 20
number_of fault.ActorBusy = 21
number_of fault.ActorIdle = 22
number_of fault.NoActor = 23
number_of (fault.Mismatch part) = 24
number_of fault.SeatsOut = 25
number_of (fault.BadImage why) = 26
number_of (fault.ScriptFault kind line) = 27
number_of fault.Read = 28
number_of fault.Write = 29

-- A STATUS TELLS what the world with numbers says of a call of actor 0: 0, that it is answered so, and which world stands
-- after it; or the number of the fault by which it is refused, and then nothing has changed
abbrev pub Tells : Call → ℕ → Answer → Serial → Serial → Type 0
Tells c status answer old new =
    ((status ≡ 0) × (serial_call old 0 c ≡ told answer new))
    ⊎ ((why : Fault) × (status ≡ number_of why) × IsRefused c why old new)

-- the same, or memory is refused
abbrev pub TellsOrStarved : Call → ℕ → Answer → Serial → Serial → Type 0
TellsOrStarved c status answer old new =
    ((status ≡ 0) × (serial_call old 0 c ≡ told answer new))
    ⊎ ((why : Fault) × (status ≡ number_of why) × IsRefusedOrStarved c why old new)
