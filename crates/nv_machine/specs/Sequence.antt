-- The order of a call's steps.
pub use Rattle.nv_calls.specs.Looks.{directories, nothing_looked}
use Rattle.std.specs.Prelude.{ℕ, ◌+◌, ◌-◌, if◌then◌else◌, max, min, nat_lt, List, [], ◌∷◌, length, None, option_to_list}
use Rattle.nv_base.specs.declared.limits.TheConstants.{DRAIN}
use Rattle.nv_calls.specs.declared.call.Call.{Call}
use Rattle.nv_calls.specs.declared.call.Call.TheVariants as call
use Rattle.nv_calls.specs.declared.snapshot_or_cleaner_call.SnapshotOrCleanerCall.{SnapshotOrCleanerCall}
use Rattle.nv_calls.specs.declared.snapshot_or_cleaner_call.SnapshotOrCleanerCall.TheVariants as on
use Rattle.nv_entry.specs.Tree.{root}
use Rattle.nv_machine.specs.Reads.{slots_of, written_slots}
use Rattle.nv_machine.specs.World.{Answers, Append, Auto, Check, Close, Compact, Draining, Drop, Enter, Fast, Fresh, PlanCleaning, Leave, Lock, LockCleaned, LockPicked, Look, Make, Manner, Next, Number, Open, Pick, Pin, Publish, Ready, Release, Retire, Running, Shared, SnapshotOrCleanerStep, SnapshotOrCleaner, Thorough, Unlink, Visit}

-- ---- how calls begin

-- how a call begins
pub data Beginning : Type 0 where
  -- a new inode takes its number first
  Numbers : Beginning
  -- names are looked up, a directory a step
  Looks : Beginning
  -- the slots that the call names are locked
  Locks : Beginning
  -- a visit is the call's only step
  Visits : Beginning
  -- a call on snapshots or a cleaner, which has steps of its own
  Maintains : (what : SnapshotOrCleanerCall) → Beginning

-- how a call begins
abbrev pub beginning : Call → Beginning
beginning (call.Create dir name mode) = Numbers
beginning (call.Mkdir dir name mode) = Numbers
beginning (call.Write file offset text) = Locks
beginning (call.Read file offset count) = Visits
beginning (call.Size file size) = Locks
beginning (call.Mode handle mode) = Locks
beginning (call.Stat handle) = Visits
beginning (call.List dir) = Visits
beginning (call.Lookup dir name) = Visits
beginning (call.Unlink dir name) = Looks
beginning (call.Rmdir dir name) = Looks
beginning (call.Rename from old to new) = Looks
beginning (call.SnapshotOrCleaner what) = Maintains what

-- ---- loops: the step for a place, or what comes behind the last one

-- the next step in the loop of locks
abbrev pub locking : ℕ → List ℕ → Next
locking place slots = if nat_lt place (length slots) then Lock place else Check

-- the next step in the loop of looks
abbrev pub looking : ℕ → Running → Next
looking place r = if nat_lt place (length (directories r.call)) then Look place else locking 0 r.slots

-- the next step in the loop of retirements
abbrev pub retiring : ℕ → List ℕ → Next
retiring place written = if nat_lt place (length written) then Retire place else Leave

-- the step behind the publishes: a commit of two or more inodes closes its journal
abbrev pub closing : List ℕ → Next
closing written = if nat_lt 1 (length written) then Close else retiring 0 written

-- the next step in the loop of publishes
abbrev pub publishing : ℕ → List ℕ → Next
publishing place written = if nat_lt place (length written) then Publish place else closing written

-- the step behind the appends
abbrev pub opening : List ℕ → Next
opening written = if nat_lt 1 (length written) then Open else publishing 0 written

-- the next step in the loop of appends
abbrev pub appending : ℕ → List ℕ → Next
appending place written = if nat_lt place (length written) then Append place else opening written

-- THE SEQUENCE: what comes behind a step that has done its work, by how many directories, slots
-- and inodes written there are. A loop over nothing has no step. A check and a taking go on by
-- what is still wanted, and a leave and the last steps by what is locked or in the hand.
abbrev pub sequel : Running → Next → Next
sequel r Number = locking 0 r.slots
sequel r (Look place) = looking (place + 1) r
sequel r (Lock place) = locking (place + 1) r.slots
sequel r Ready = Enter
sequel r Enter = appending 0 (written_slots r)
sequel r (Append place) = appending (place + 1) (written_slots r)
sequel r Open = publishing 0 (written_slots r)
sequel r (Publish place) = publishing (place + 1) (written_slots r)
sequel r Close = retiring 0 (written_slots r)
sequel r (Retire place) = retiring (place + 1) (written_slots r)
sequel r other = other

-- ---- a call that starts

-- a call that begins with a step
abbrev pub started : Call → Next → List ℕ → Running
started c next slots = record {
  call = c;
  next = next;
  ending = Answers;
  looked = nothing_looked;
  rounds = 7;
  slots = slots;
  made = root;
  wanted = 0;
  plan = [];
  commit = 0;
  epoch = 0;
}

-- a drain may release as many records as its number says, where a number outside 1 to 1,048,576 counts as
-- the nearest of these
abbrev pub new_draining : ℕ → Draining
new_draining count = record { released = 0; left = max 1 (min count DRAIN) - 1 }

-- a cleaner locks the slot of its number, if there are that many
abbrev pub first_clean : ℕ → Manner → ℕ → SnapshotOrCleanerStep
first_clean slots manner ino = if nat_lt ino slots then LockCleaned manner ino else PlanCleaning manner None

-- the first step of a call on snapshots or of a cleaner, where there are so many slots
abbrev pub first_step : ℕ → SnapshotOrCleanerCall → SnapshotOrCleanerStep
first_step slots on.Snap = Make
first_step slots (on.Drop snapshot) = Drop snapshot
first_step slots (on.Show snapshot) = Pin snapshot
first_step slots (on.Drain count) = Pick (new_draining count)
first_step slots (on.Fast ino) = first_clean slots Fast ino
first_step slots (on.Thorough ino) = first_clean slots Thorough ino
first_step slots (on.Auto ino) = first_clean slots Auto ino

-- the slots that such a call locks: that of the record that it has picked, or the one that it
-- cleans
abbrev pub slots_on : SnapshotOrCleanerStep → List ℕ
slots_on (LockPicked draining picked) = picked.ino ∷ []
slots_on (Release draining picked) = picked.ino ∷ []
slots_on (LockCleaned manner ino) = ino ∷ []
slots_on (PlanCleaning manner slot) = option_to_list slot
slots_on (Fresh ino asked wanted) = ino ∷ []
slots_on (Unlink ino) = ino ∷ []
slots_on (Compact ino) = ino ∷ []
slots_on other = []

-- a call at its beginning
abbrev pub begun : Beginning → Shared → Call → Running
begun Numbers s c = started c Number []
begun Looks s c = started c (Look 0) []
begun Locks s c = started c (locking 0 (slots_of s None nothing_looked c)) (slots_of s None nothing_looked c)
begun Visits s c = started c Visit []
begun (Maintains what) s c =
    started c (SnapshotOrCleaner (first_step (length s.cells) what)) (slots_on (first_step (length s.cells) what))
