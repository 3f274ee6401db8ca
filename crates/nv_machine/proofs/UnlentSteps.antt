-- A step that is lent neither a cell nor the book nor the commit lock leaves all these.
use Rattle.std.proofs.Common.{Bool, false, length, length-set, refl, true, ℕ, ◌≡◌}
use Rattle.std.proofs.lemmas.Bool.{false≢true}
use Rattle.nv_machine.specs.Kinds.{asked_list}
use Rattle.nv_machine.specs.Step.{kind_turn}
use Rattle.nv_machine.specs.World.{Append, ReturnNumber, Close, Enter, Give, HandState, Leave, LockPicked, Next, Number, Open, Publish, Retire, Running, Shared, Show, SnapshotOrCleanerStep, SnapshotOrCleaner, TakeBlocks, TakeLogPages, LockCleaned, PlanCleaning, Fresh}
use Rattle.nv_machine.proofs.StepWork.{by_back, by_number, work}
use Rattle.nv_machine.proofs.WorkKeeps.{AfterTurn, turn_keeps}
use Rattle.nv_machine.proofs.LoopSteps.{is_on_files}

pub record IsBeside (s t : Shared) : Type 0 where
  pub cells : t.cells ≡ s.cells
  pub book : t.book ≡ s.book
  pub holder : t.holder ≡ s.holder
  pub cpus : length t.lists ≡ length s.lists

abbrev pub is_aside_on : SnapshotOrCleanerStep → Bool
is_aside_on (Show snapshot showing) = true
is_aside_on (LockPicked draining picked) = true
is_aside_on (LockCleaned manner ino) = true
is_aside_on (PlanCleaning manner slot) = true
is_aside_on (Fresh ino asked wanted) = true
is_aside_on other = false

abbrev pub is_aside : Next → Bool
is_aside Enter = false
is_aside (Append place) = false
is_aside Open = false
is_aside (Publish place) = false
is_aside Close = false
is_aside (Retire place) = false
is_aside Leave = false
is_aside (SnapshotOrCleaner step) = is_aside_on step
is_aside other = true

same : (s : Shared) → IsBeside s s
same s = record { cells = refl; book = refl; holder = refl; cpus = refl }

on_beside : (step : SnapshotOrCleanerStep) (block a : ℕ) (s : Shared) (h : HandState) (r : Running) → is_aside_on step ≡ true
    → IsBeside s (work (SnapshotOrCleaner step) block a s h r).shared
on_beside (Show snapshot showing) block a s h r is = same s
on_beside (LockPicked draining picked) block a s h r is = record { cells = refl; book = refl; holder = refl; cpus = refl }
on_beside (LockCleaned manner ino) block a s h r is = record { cells = refl; book = refl; holder = refl; cpus = refl }
on_beside (PlanCleaning manner slot) block a s h r is = same s
on_beside (Fresh ino asked wanted) block a s h r is =
    record { cells = refl; book = refl; holder = refl; cpus = length-set s.lists _ _ }
on_beside other block a s h r is = absurd (false≢true is)

work_beside : (k : Next) (block a : ℕ) (s : Shared) (h : HandState) (r : Running) → is_aside k ≡ true
    → IsBeside s (work k block a s h r).shared
work_beside Number block a s h r is =
    by_number (λ (t : Shared) (g : HandState). IsBeside s t) s h
    (λ numbers ino. record { cells = refl; book = refl; holder = refl; cpus = refl })
work_beside ReturnNumber block a s h r is =
    by_back (λ (t : Shared) (g : HandState). IsBeside s t) s h
    (λ numbers ino. record { cells = refl; book = refl; holder = refl; cpus = refl })
work_beside (TakeBlocks asked) block a s h r is =
    record { cells = refl; book = refl; holder = refl; cpus = length-set s.lists (asked_list (length s.lists) a asked) _ }
work_beside (TakeLogPages asked) block a s h r is =
    record { cells = refl; book = refl; holder = refl; cpus = length-set s.lists (asked_list (length s.lists) a asked) _ }
work_beside (Give cpu) block a s h r is = record { cells = refl; book = refl; holder = refl; cpus = length-set s.lists cpu _ }
work_beside (SnapshotOrCleaner step) block a s h r is = on_beside step block a s h r is
work_beside Enter block a s h r is = absurd (false≢true is)
work_beside (Append place) block a s h r is = absurd (false≢true is)
work_beside Open block a s h r is = absurd (false≢true is)
work_beside (Publish place) block a s h r is = absurd (false≢true is)
work_beside Close block a s h r is = absurd (false≢true is)
work_beside (Retire place) block a s h r is = absurd (false≢true is)
work_beside Leave block a s h r is = absurd (false≢true is)
work_beside other block a s h r is = record { cells = refl; book = refl; holder = refl; cpus = refl }

pub aside : (k : Next) (block a : ℕ) (granted : Bool) (s : Shared) (h : HandState) (r : Running) → is_aside k ≡ true
    → AfterTurn (λ (t : Shared) (g : HandState). IsBeside s t) (kind_turn k block a granted s h r)
aside k block a granted s h r is =
    turn_keeps (λ (t : Shared) (g : HandState). IsBeside s t) k block a granted s h r (same s) (work_beside k block a s h r is)

-- ---- a step of a call on files and directories leaves snapshots and deferred records

pub record LeavesRecords (s t : Shared) : Type 0 where
  pub snaps : t.book.snaps ≡ s.book.snaps
  pub deferred : t.book.deferred ≡ s.book.deferred

pub files_leave : (k : Next) (block a : ℕ) (s : Shared) (h : HandState) (r : Running) → is_on_files k ≡ true
    → LeavesRecords s (work k block a s h r).shared
files_leave Number block a s h r is =
    by_number (λ (t : Shared) (g : HandState). LeavesRecords s t) s h (λ numbers ino. record { snaps = refl; deferred = refl })
files_leave ReturnNumber block a s h r is =
    by_back (λ (t : Shared) (g : HandState). LeavesRecords s t) s h (λ numbers ino. record { snaps = refl; deferred = refl })
files_leave (SnapshotOrCleaner step) block a s h r is = absurd (false≢true is)
files_leave other block a s h r is = record { snaps = refl; deferred = refl }
