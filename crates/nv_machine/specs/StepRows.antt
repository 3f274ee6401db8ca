-- Worked rows: the steps that each call makes, in order.
use Rattle.std.specs.Prelude.{◌≡◌, ℕ, zero, suc, ◌%◌, ◌++◌, true, List, [], ◌∷◌, Option, Some, None}
use Rattle.nv_base.specs.declared.geometry.GeometryNumbers.{GeometryNumbers}
use Rattle.nv_base.specs.declared.numbers.Handle.{Handle}
use Rattle.nv_calls.specs.Locked.{handles}
use Rattle.nv_calls.specs.declared.call.Call.{Call}
use Rattle.nv_calls.specs.declared.call.Call.TheVariants as call
use Rattle.nv_calls.specs.declared.snapshot_or_cleaner_call.SnapshotOrCleanerCall.TheVariants as on
use Rattle.nv_machine.specs.Format.{formatted}
use Rattle.nv_machine.specs.Kinds.{asked_list}
use Rattle.nv_machine.specs.Reads.{slot_at, written_slots}
use Rattle.nv_machine.specs.Sequence.{directories, nothing_looked}
use Rattle.nv_machine.specs.SnapshotOrCleaner.{visited}
use Rattle.nv_machine.specs.Step.{handle_at, step}
use Rattle.nv_machine.specs.StepNames as named
use Rattle.nv_machine.specs.World.{Append, ReturnNumber, Check, Close, Compact, Drop, Enter, Fresh, Give, Go, PlanCleaning, Leave, Lock, LockCleaned, LockPicked, Look, Make, Next, Number, Open, Pick, Pin, Publish, Ready, Release, Retire, Running, Show, SnapshotOrCleanerStep, SnapshotOrCleaner, Start, TakeBlocks, TakeLogPages, Unlink, Unlock, Unpin, Visit, World, actor_at}

-- ---- the steps of a call

-- the name of a step on snapshots, or of a cleaner
abbrev pub name_on : SnapshotOrCleanerStep → ℕ → ℕ → named.StepName
name_on Make cpus actor = named.Make
name_on (Drop snapshot) cpus actor = named.Drop
name_on (Pin snapshot) cpus actor = named.Pin
name_on (Show snapshot showing) cpus actor = named.Show (visited showing.visits).ino
name_on (Unpin snapshot seen) cpus actor = named.Unpin
name_on (Pick draining) cpus actor = named.Pick
name_on (LockPicked draining picked) cpus actor = named.LockPicked picked.ino
name_on (Release draining picked) cpus actor = named.Release picked.ino
name_on (LockCleaned manner ino) cpus actor = named.LockCleaned ino
name_on (PlanCleaning manner slot) cpus actor = named.PlanCleaning
name_on (Fresh ino asked wanted) cpus actor = named.Fresh (asked_list cpus actor asked)
name_on (Unlink ino) cpus actor = named.Unlink ino
name_on (Compact ino) cpus actor = named.Compact ino

-- the name of the next step of an actor's call, with so many CPUs
abbrev pub name_of : Next → ℕ → ℕ → Running → named.StepName
name_of Number cpus actor r = named.Number
name_of (Look place) cpus actor r = named.Look (handle_at (directories r.call) place).ino
name_of (Lock place) cpus actor r = named.Lock (slot_at r.slots place)
name_of Check cpus actor r = named.Check
name_of (TakeBlocks asked) cpus actor r = named.TakeBlocks (asked_list cpus actor asked)
name_of (TakeLogPages asked) cpus actor r = named.TakeLogPages (asked_list cpus actor asked)
name_of Ready cpus actor r = named.Ready
name_of Enter cpus actor r = named.Enter
name_of (Append place) cpus actor r = named.Append (slot_at (written_slots r) place)
name_of Open cpus actor r = named.Open (actor % cpus)
name_of (Publish place) cpus actor r = named.Publish (slot_at (written_slots r) place)
name_of Close cpus actor r = named.Close (actor % cpus)
name_of (Retire place) cpus actor r = named.Retire (slot_at (written_slots r) place)
name_of Leave cpus actor r = named.Leave
name_of (Unlock place) cpus actor r = named.Unlock (slot_at r.slots place)
name_of (Give cpu) cpus actor r = named.Give cpu
name_of ReturnNumber cpus actor r = named.ReturnNumber
name_of Visit cpus actor r = named.Visit (handle_at (handles nothing_looked r.call) 0).ino
name_of (SnapshotOrCleaner step) cpus actor r = name_on step cpus actor

-- steps that an actor's call has made
pub record Made : Type 0 where
  -- their names, in order
  pub steps : List named.StepName
  -- the world that they lead to
  pub world : World

-- the steps with one more before them
abbrev pub step_first : named.StepName → Made → Made
step_first name made = record made { steps = name ∷ made.steps }

-- the steps of a call from the next one on, and the world that they lead to
abbrev pub row_made_by : Option Running → ℕ → World → (World → Made) → Made
row_made_by None actor w rest = record { steps = []; world = w }
row_made_by (Some r) actor w rest =
    step_first (name_of r.next w.numbers.cpus actor r) (rest (step w (Go actor true)).world)

-- at most so many steps of an actor's call
abbrev pub steps_made : ℕ → ℕ → World → Made
steps_made zero actor w = record { steps = []; world = w }
steps_made (suc n) actor w = row_made_by (actor_at w actor).running actor w (steps_made n actor)

-- ---- a row

-- calls of actor 1, whose CPU is 1, one after another
pub record Row : Type 0 where
  -- the calls that come first
  pub before : List Call
  -- the call whose steps are told
  pub call : Call
  -- the steps that it makes, in order
  pub steps : List named.StepName

-- the device of the worked rows
abbrev pub device : GeometryNumbers
device = record { blocks = 16; cpus = 2; block = 4; page = 4; inodes = 8; snaps = 4; actors = 2 }

-- a whole call of actor 1
abbrev pub call_made : Call → World → Made
call_made c w = steps_made 99 1 (step w (Start 1 c)).world

-- the world behind some calls of actor 1
abbrev pub after_calls : List Call → World → World
after_calls [] w = w
after_calls (c ∷ calls) w = after_calls calls (call_made c w).world

-- A WORKED ROW: after some calls of actor 1 the next call makes these steps
abbrev pub IsRow : Row → Type 0
IsRow row = (call_made row.call (after_calls row.before (formatted device))).steps ≡ row.steps

-- ---- THE ROWS: the root is in slot 0, and new inodes get slots 1, 2, 3, 4

-- the handle of the first inode in a slot
abbrev handle : ℕ → Handle
handle ino = record { ino = ino; generation = 1 }

-- a `create` of `a` in the root
abbrev pub create_a : Call
create_a = call.Create (handle 0) (97 ∷ []) 420

-- a `write` of four bytes to the file in slot 1
abbrev pub write_a : Call
write_a = call.Write (handle 1) 0 (1 ∷ 2 ∷ 3 ∷ 4 ∷ [])

-- a `mkdir` in the root
abbrev pub make_directory : ℕ → Call
make_directory name = call.Mkdir (handle 0) (name ∷ []) 493

-- the steps of a commit to one slot
abbrev pub commit_one : ℕ → List named.StepName
commit_one slot = named.Enter ∷ named.Append slot ∷ named.Publish slot ∷ named.Retire slot ∷ named.Leave ∷ []

-- the steps of a commit of two slots
abbrev pub commit_two : ℕ → ℕ → List named.StepName
commit_two slot other =
    named.Enter ∷ named.Append slot ∷ named.Append other ∷ named.Open 1 ∷ named.Publish slot ∷ named.Publish other ∷ named.Close 1
    ∷ named.Retire slot ∷ named.Retire other ∷ named.Leave ∷ []

-- a new inode in slot 1 takes its log page from the list of CPU 1
abbrev pub of_new : List named.StepName
of_new =
    named.Number ∷ named.Lock 0 ∷ named.Lock 1 ∷ named.Check ∷ named.TakeLogPages 1 ∷ named.Ready ∷ commit_two 0 1
    ++ named.Unlock 0 ∷ named.Unlock 1 ∷ []

-- an inode in slot 1 goes with its log page, and its number goes back
abbrev pub of_gone : List named.StepName
of_gone =
    named.Look 0 ∷ named.Lock 0 ∷ named.Lock 1 ∷ named.Check ∷ named.Ready ∷ commit_two 0 1
    ++ named.Unlock 0 ∷ named.Unlock 1 ∷ named.Give 1 ∷ named.ReturnNumber ∷ []

-- a row: the calls before it, the call, and its steps
abbrev pub row : List Call → Call → List named.StepName → Row
row before c steps = record { before = before; call = c; steps = steps }

-- the rows of calls that change nodes
abbrev pub rows_of_changes : List Row
rows_of_changes =
    row [] create_a of_new
    ∷ row [] (make_directory 97) of_new
    -- a page is written over, and the block of the old one goes back to CPU 1
    ∷ row (create_a ∷ write_a ∷ []) write_a
    (named.Lock 1 ∷ named.Check ∷ named.TakeBlocks 1 ∷ named.Ready ∷ commit_one 1 ++ named.Unlock 1 ∷ named.Give 1 ∷ [])
    -- a cut inside a page writes it anew
    ∷ row (create_a ∷ write_a ∷ []) (call.Size (handle 1) 2)
    (named.Lock 1 ∷ named.Check ∷ named.TakeBlocks 1 ∷ named.Ready ∷ commit_one 1 ++ named.Unlock 1 ∷ named.Give 1 ∷ [])
    ∷ row (create_a ∷ []) (call.Mode (handle 1) 384) (named.Lock 1 ∷ named.Check ∷ named.Ready ∷ commit_one 1 ++ named.Unlock 1 ∷ [])
    ∷ row (create_a ∷ []) (call.Unlink (handle 0) (97 ∷ [])) of_gone
    ∷ row (make_directory 97 ∷ []) (call.Rmdir (handle 0) (97 ∷ [])) of_gone
    -- within one directory: one look, and one inode gets entries
    ∷ row (create_a ∷ []) (call.Rename (handle 0) (97 ∷ []) (handle 0) (98 ∷ []))
    (named.Look 0 ∷ named.Lock 0 ∷ named.Lock 1 ∷ named.Check ∷ named.Ready ∷ commit_one 0 ++ named.Unlock 0 ∷ named.Unlock 1 ∷ [])
    -- from directory 1 to directory 2, where file 3 replaces file 4: a look for each directory
    ∷ row (make_directory 97 ∷ make_directory 98 ∷ call.Create (handle 1) (120 ∷ []) 420 ∷ call.Create (handle 2) (121 ∷ []) 420 ∷ [])
    (call.Rename (handle 1) (120 ∷ []) (handle 2) (121 ∷ []))
    (named.Look 1 ∷ named.Look 2 ∷ named.Lock 1 ∷ named.Lock 2 ∷ named.Lock 3 ∷ named.Lock 4 ∷ named.Check ∷ named.Ready
    ∷ named.Enter ∷ named.Append 1 ∷ named.Append 2 ∷ named.Append 4 ∷ named.Open 1 ∷ named.Publish 1 ∷ named.Publish 2
    ∷ named.Publish 4 ∷ named.Close 1 ∷ named.Retire 1 ∷ named.Retire 2 ∷ named.Retire 4 ∷ named.Leave
    ∷ named.Unlock 1 ∷ named.Unlock 2 ∷ named.Unlock 3 ∷ named.Unlock 4 ∷ named.Give 1 ∷ named.ReturnNumber ∷ [])
    ∷ []

-- the rows of calls that read
abbrev pub rows_of_readers : List Row
rows_of_readers =
    row (create_a ∷ write_a ∷ []) (call.Read (handle 1) 0 4) (named.Visit 1 ∷ [])
    ∷ row (create_a ∷ []) (call.Stat (handle 1)) (named.Visit 1 ∷ [])
    ∷ row (create_a ∷ []) (call.List (handle 0)) (named.Visit 0 ∷ [])
    ∷ row (create_a ∷ []) (call.Lookup (handle 0) (97 ∷ [])) (named.Visit 0 ∷ [])
    ∷ []

-- a snapshot with a file, whose page is written over: the first record is of the old size, and the other of the page
abbrev pub two_deferred : List Call
two_deferred = create_a ∷ write_a ∷ call.SnapshotOrCleaner on.Snap ∷ write_a ∷ call.SnapshotOrCleaner (on.Drop 1) ∷ []

-- the rows of calls on snapshots
abbrev pub rows_on_snapshots : List Row
rows_on_snapshots =
    row [] (call.SnapshotOrCleaner on.Snap) (named.Make ∷ [])
    ∷ row (call.SnapshotOrCleaner on.Snap ∷ []) (call.SnapshotOrCleaner (on.Drop 1)) (named.Drop ∷ [])
    -- a step for each inode
    ∷ row (create_a ∷ call.SnapshotOrCleaner on.Snap ∷ []) (call.SnapshotOrCleaner (on.Show 1))
    (named.Pin ∷ named.Show 0 ∷ named.Show 1 ∷ named.Unpin ∷ [])
    -- the last record of its number ends a drain, and a pick that finds nothing
    ∷ row two_deferred (call.SnapshotOrCleaner (on.Drain 2))
    (named.Pick ∷ named.LockPicked 1 ∷ named.Release 1 ∷ named.Unlock 1
    ∷ named.Pick ∷ named.LockPicked 1 ∷ named.Release 1 ∷ named.Unlock 1 ∷ named.Give 1 ∷ [])
    ∷ row two_deferred (call.SnapshotOrCleaner (on.Drain 3))
    (named.Pick ∷ named.LockPicked 1 ∷ named.Release 1 ∷ named.Unlock 1
    ∷ named.Pick ∷ named.LockPicked 1 ∷ named.Release 1 ∷ named.Unlock 1 ∷ named.Give 1 ∷ named.Pick ∷ [])
    ∷ []

-- a file whose page was written over, so that one entry of its log may go
abbrev pub written_over : List Call
written_over = create_a ∷ write_a ∷ write_a ∷ []

-- the rows of cleaners
abbrev pub rows_of_cleaners : List Row
rows_of_cleaners =
    -- whole pages: a step that cleans, also where nothing goes
    row written_over (call.SnapshotOrCleaner (on.Fast 1)) (named.LockCleaned 1 ∷ named.PlanCleaning ∷ named.Unlink 1 ∷ named.Unlock 1 ∷ [])
    -- entry by entry: fresh pages first, and the old ones go back
    ∷ row written_over (call.SnapshotOrCleaner (on.Thorough 1))
    (named.LockCleaned 1 ∷ named.PlanCleaning ∷ named.Fresh 1 ∷ named.Compact 1 ∷ named.Unlock 1 ∷ named.Give 1 ∷ [])
    -- where no entry may go it ends at its planning
    ∷ row (create_a ∷ []) (call.SnapshotOrCleaner (on.Thorough 1)) (named.LockCleaned 1 ∷ named.PlanCleaning ∷ named.Unlock 1 ∷ [])
    ∷ row written_over (call.SnapshotOrCleaner (on.Auto 1)) (named.LockCleaned 1 ∷ named.PlanCleaning ∷ named.Unlink 1 ∷ named.Unlock 1 ∷ [])
    -- a number without a slot has no lock
    ∷ row [] (call.SnapshotOrCleaner (on.Fast 99)) (named.PlanCleaning ∷ [])
    ∷ []
