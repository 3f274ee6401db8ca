-- What is told of the step that a call makes next.
use Rattle.std.specs.Prelude.{◌≡◌, ℕ, Bool, Option, Some, None}
use Rattle.nv_calls.specs.Locked.{handles}
use Rattle.nv_machine.specs.Locks.{WaitsFor}
use Rattle.nv_machine.specs.SnapshotOrCleaner.{visited}
use Rattle.nv_machine.specs.PlainRun.{Commits, PlainChange, plain_change, plain_change_of}
use Rattle.nv_machine.specs.Reads.{slot_at, written_slots}
use Rattle.nv_machine.specs.Sequence.{directories, nothing_looked}
use Rattle.nv_machine.specs.Step.{handle_at}
use Rattle.nv_machine.specs.StepNames as named
use Rattle.nv_machine.specs.StepRows.{name_of}
use Rattle.nv_machine.specs.World.{Compact, Enter, Fresh, Go, PlanCleaning, Lock, LockCleaned, LockPicked, Look, SnapshotOrCleaner, SnapshotOrCleanerStep, Next, Release, Running, Shared, Show, Turn, Unlink, Visit, World, owner_at}
use Rattle.nv_core.specs.declared.next_step.NextStep.{NextStep}
use Rattle.nv_core.specs.declared.next_step.StepName.{StepName}
use Rattle.nv_core.specs.declared.next_step.StepName.TheVariants as step

-- ---- names

-- the name of a step, in the machine's words
abbrev pub name_in : StepName → named.StepName
name_in step.Number = named.Number
name_in (step.Look dir) = named.Look dir
name_in (step.Lock slot) = named.Lock slot
name_in step.Check = named.Check
name_in (step.TakeBlocks cpu) = named.TakeBlocks cpu
name_in (step.TakeLogPages cpu) = named.TakeLogPages cpu
name_in step.Ready = named.Ready
name_in step.Enter = named.Enter
name_in (step.Append slot) = named.Append slot
name_in (step.Open cpu) = named.Open cpu
name_in (step.Publish slot) = named.Publish slot
name_in (step.Close cpu) = named.Close cpu
name_in (step.Retire slot) = named.Retire slot
name_in step.Leave = named.Leave
name_in (step.Unlock slot) = named.Unlock slot
name_in (step.Give cpu) = named.Give cpu
name_in step.ReturnNumber = named.ReturnNumber
name_in (step.Visit slot) = named.Visit slot
name_in step.Make = named.Make
name_in step.Drop = named.Drop
name_in step.Pin = named.Pin
name_in (step.Show slot) = named.Show slot
name_in step.Unpin = named.Unpin
name_in step.Pick = named.Pick
name_in (step.LockPicked slot) = named.LockPicked slot
name_in (step.Release slot) = named.Release slot
name_in (step.LockCleaned slot) = named.LockCleaned slot
name_in step.PlanCleaning = named.PlanCleaning
name_in (step.Fresh cpu) = named.Fresh cpu
name_in (step.Unlink slot) = named.Unlink slot
name_in (step.Compact slot) = named.Compact slot

-- ---- who holds what a step needs

-- the actor that holds the lock which a step on snapshots, or of a cleaner, needs
abbrev pub holder_on : Shared → SnapshotOrCleanerStep → Option ℕ
holder_on s (Show snapshot showing) = owner_at s (visited showing.visits).ino
holder_on s (LockPicked draining picked) = owner_at s picked.ino
holder_on s (Release draining picked) = None
holder_on s (LockCleaned manner ino) = owner_at s ino
holder_on s (PlanCleaning manner slot) = None
holder_on s (Fresh ino asked wanted) = None
holder_on s (Unlink ino) = None
holder_on s (Compact ino) = None
holder_on s other = s.holder

-- the actor that holds the lock which a step needs; most steps need none that their call has not already
abbrev pub holder_for : Shared → Running → Next → Option ℕ
holder_for s r (Look place) = owner_at s (handle_at (directories r.call) place).ino
holder_for s r (Lock place) = owner_at s (slot_at r.slots place)
holder_for s r Enter = s.holder
holder_for s r Visit = owner_at s (handle_at (handles nothing_looked r.call) 0).ino
holder_for s r (SnapshotOrCleaner step) = holder_on s step
holder_for s r other = None

-- a step waits for the actor that holds the lock which it needs, or it doesn't wait
abbrev pub IsAwaited : Shared → ℕ → Running → Option ℕ → Type 0
IsAwaited s actor r None = WaitsFor s actor r r.next → ⊥
IsAwaited s actor r (Some other) = WaitsFor s actor r r.next × (holder_for s r r.next ≡ Some other)

-- ---- commits

-- the number of a commit where what is done is its commit point
abbrev pub number_at : PlainChange → ℕ → Option ℕ
number_at Commits commit = Some commit
number_at other commit = None

-- ---- WHAT IS TOLD

-- WHAT IS TOLD OF A CALL before its next step
pub record IsTold (m : World) (actor : ℕ) (r : Running) (told : NextStep) : Type 0 where
  -- its name is that of the machine's step
  pub name : name_in told.name ≡ name_of r.next m.numbers.cpus actor r
  -- where it is the commit point, whatever memory is granted, the number of the commit is told
  pub commits : (granted : Bool) → told.commits ≡ number_at (plain_change_of m (Go actor granted)) r.commit
  -- the actor that it waits for is told, and none where it doesn't wait
  pub waits : IsAwaited m.shared actor r told.waits_for
  -- that is the actor which holds the lock that the step needs
  pub holder : told.waits_for ≡ holder_for m.shared r r.next

-- what is told of an actor's next step: nothing where it runs no call
abbrev pub IsNext : World → ℕ → Option Running → Option NextStep → Type 0
IsNext m actor None None = Unit {0}
IsNext m actor (Some r) (Some told) = IsTold m actor r told
IsNext m actor other told = ⊥

-- ---- on the way there

-- what is told of a call before its next step, by what is shared alone
pub record TellsStep (s : Shared) (cpus actor : ℕ) (r : Running) (told : NextStep) : Type 0 where
  -- its name is that of the machine's step
  pub name : name_in told.name ≡ name_of r.next cpus actor r
  -- where it is the commit point, whatever its turn, the number of the commit is told
  pub commits : (t : Turn) → told.commits ≡ number_at (plain_change r.next (written_slots r) t) r.commit
  -- the actor that holds the lock which the step needs is told
  pub waits : told.waits_for ≡ holder_for s r r.next

-- something is told, and this holds of it
abbrev pub IsOf : (NextStep → Type 0) → Option NextStep → Type 0
IsOf P None = ⊥
IsOf P (Some told) = P told
