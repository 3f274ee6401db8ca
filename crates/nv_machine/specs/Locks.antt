-- Which locks a call holds, and what a step may wait for.
use Rattle.std.specs.Prelude.{◌≡◌, ◌≢◌, ℕ, ◌<◌, ◌==◌, Bool, true, false, List, [], drop, length, take, Option, Some, None}
use Rattle.std.specs.List.{AllByRecursion}
use Rattle.nv_alloc.specs.Numbers.{IsRising, has}
use Rattle.nv_book.specs.Book.{BookState}
use Rattle.nv_book.specs.declared.manifest.Manifest.{Manifest}
use Rattle.nv_book.specs.declared.record.Record.{Record}
use Rattle.nv_machine.specs.Frame.{lent}
use Rattle.nv_machine.specs.Reads.{slot_at, written_slots}
use Rattle.nv_machine.specs.Sequence.{directories, nothing_looked, slots_on}
use Rattle.nv_machine.specs.Step.{handle_at}
use Rattle.nv_calls.specs.Locked.{handles}
use Rattle.nv_machine.specs.SnapshotOrCleaner.{visited}
use Rattle.nv_machine.specs.World.{Append, ReturnNumber, Close, Compact, Enter, Fresh, Give, PlanCleaning, Leave, Lock, LockCleaned, LockPicked, Look, Next, Number, Open, Publish, Release, Retire, Running, Shared, Show, SnapshotOrCleanerStep, SnapshotOrCleaner, Unlink, Unlock, Visit, World, actor_at, owner_at}

-- ---- what a call holds

-- a drain has locked the inode of a record that it releases, and a cleaner the slot that it plans and cleans
abbrev pub held_on : SnapshotOrCleanerStep → List ℕ → List ℕ
held_on (Release draining picked) slots = slots
held_on (PlanCleaning manner slot) slots = slots
held_on (Fresh ino asked wanted) slots = slots
held_on (Unlink ino) slots = slots
held_on (Compact ino) slots = slots
held_on other slots = []

-- THE SLOTS THAT A CALL HOLDS before a step: those that it has locked and not yet unlocked
abbrev pub held_at : Next → List ℕ → List ℕ
held_at Number slots = []
held_at (Look place) slots = []
held_at (Lock place) slots = take place slots
held_at (Unlock place) slots = drop place slots
held_at (Give cpu) slots = []
held_at ReturnNumber slots = []
held_at Visit slots = []
held_at (SnapshotOrCleaner step) slots = held_on step slots
held_at other slots = slots

-- the call holds the commit lock before this step: from its `enter` to its `leave`
abbrev pub commits_at : Next → Bool
commits_at (Append place) = true
commits_at Open = true
commits_at (Publish place) = true
commits_at Close = true
commits_at (Retire place) = true
commits_at Leave = true
commits_at other = false

-- the slots that an actor's call has locked
abbrev pub held_by : Option Running → List ℕ
held_by None = []
held_by (Some r) = held_at r.next r.slots

-- an actor's call holds the commit lock
abbrev pub commits_by : Option Running → Bool
commits_by None = false
commits_by (Some r) = commits_at r.next

-- the lock is this actor's
abbrev pub is_owner : ℕ → Option ℕ → Bool
is_owner actor None = false
is_owner actor (Some other) = other == actor

-- the slots of a call, where the world has so many
pub record AreSlots (slots : ℕ) (list : List ℕ) : Type 0 where
  -- they rise, so that each is locked once
  pub rising : IsRising list
  -- each is a slot of the world
  pub inside : AllByRecursion (λ ino. ino < slots) list

-- a loop stands at one of the places that it goes over; a visit has no slots
abbrev pub IsInside : Next → Running → Type 0
IsInside (Lock place) r = place < length r.slots
IsInside (Unlock place) r = place < length r.slots
IsInside (Append place) r = place < length (written_slots r)
IsInside (Publish place) r = place < length (written_slots r)
IsInside (Retire place) r = place < length (written_slots r)
IsInside Visit r = r.slots ≡ []
IsInside (SnapshotOrCleaner step) r = r.slots ≡ slots_on step
IsInside other r = Unit {0}

-- the slots of an actor's call rise and are there
abbrev pub HasSlots : ℕ → Option Running → Type 0
HasSlots slots None = Unit {0}
HasSlots slots (Some r) = AreSlots slots r.slots × IsInside r.next r

-- an actor holds exactly the locks of its call
pub record HoldsIts (s : Shared) (actor : ℕ) (running : Option Running) : Type 0 where
  -- it has the lock of a slot exactly where its call holds that slot
  pub owners : (ino : ℕ) → is_owner actor (owner_at s ino) ≡ has (held_by running) ino
  -- it has the commit lock exactly from its `enter` to its `leave`
  pub holder : is_owner actor s.holder ≡ commits_by running
  -- the slots of its call rise and are there, and a loop stands at one that it goes over
  pub slots : HasSlots (length s.owners) running

-- each record of a book meets this
pub record AllRecords (P : Record → Type 0) (b : BookState) : Type 0 where
  -- each record of a manifest does
  pub filed : AllByRecursion (λ (m : Manifest). AllByRecursion P m.records) b.manifests
  -- each deferred record does
  pub deferred : AllByRecursion P b.deferred

-- a record is of a slot of the world
abbrev pub IsOfSlot : ℕ → Record → Type 0
IsOfSlot slots d = d.ino < slots

-- what holds of the locks of each world
pub record AreLocks (w : World) : Type 0 where
  -- each actor holds exactly the locks of its call
  pub each : (actor : ℕ) → HoldsIts w.shared actor (actor_at w actor).running
  -- each slot has its lock
  pub wide : length w.shared.owners ≡ length w.shared.cells
  -- each record is of a slot of the world, so that a drain finds its lock
  pub records : AllRecords (IsOfSlot (length w.shared.owners)) w.shared.book

-- ---- what a step waits for

-- another actor has the lock
abbrev pub IsHeldByOther : ℕ → Option ℕ → Type 0
IsHeldByOther actor owner = (other : ℕ) × (owner ≡ Some other) × (other ≢ actor)

-- what a step of a call on snapshots or of a cleaner waits for
abbrev pub WaitsOn : Shared → ℕ → SnapshotOrCleanerStep → Type 0
WaitsOn s actor (Show snapshot showing) = IsHeldByOther actor (owner_at s (visited showing.visits).ino)
WaitsOn s actor (LockPicked draining picked) = IsHeldByOther actor (owner_at s picked.ino)
WaitsOn s actor (Release draining picked) = ⊥
WaitsOn s actor (LockCleaned manner ino) = IsHeldByOther actor (owner_at s ino)
WaitsOn s actor (PlanCleaning manner slot) = ⊥
WaitsOn s actor (Fresh ino asked wanted) = ⊥
WaitsOn s actor (Unlink ino) = ⊥
WaitsOn s actor (Compact ino) = ⊥
WaitsOn s actor other = IsHeldByOther actor s.holder

-- WHAT A STEP WAITS FOR: that another actor holds the lock which it needs. `look`, `lock`,
-- `visit`, `show`, `lock picked` and `lock cleaned` need that of an inode slot. `enter`, `make`,
-- `drop`, `pin`, `unpin` and `pick` need the commit lock. Every other step needs none. Example: a
-- `create` call has made its `number` step and one `lock` step. A second one that has its number
-- waits at the lock of the root.
abbrev pub WaitsFor : Shared → ℕ → Running → Next → Type 0
WaitsFor s actor r (Look place) = IsHeldByOther actor (owner_at s (handle_at (directories r.call) place).ino)
WaitsFor s actor r (Lock place) = IsHeldByOther actor (owner_at s (slot_at r.slots place))
WaitsFor s actor r Enter = IsHeldByOther actor s.holder
WaitsFor s actor r Visit = IsHeldByOther actor (owner_at s (handle_at (handles nothing_looked r.call) 0).ino)
WaitsFor s actor r (SnapshotOrCleaner step) = WaitsOn s actor step
WaitsFor s actor r other = ⊥

-- ---- what is lent

-- what a step is lent is locked by its actor
pub record HasLent (s : Shared) (actor : ℕ) (r : Running) : Type 0 where
  -- the cell that a step is lent is locked by its actor
  pub cell : (ino : ℕ) → (lent r.next (length s.lists) actor r).cell ≡ Some ino → owner_at s ino ≡ Some actor
  -- from `enter` to `leave` the commit lock is the actor's
  pub holder : commits_at r.next ≡ true → s.holder ≡ Some actor
