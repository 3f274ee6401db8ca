-- What of a running call the machine does not tell: whether it is of the kind that its next step wants, the room in its
-- hand, and what its check found and its growths made.
use Rattle.std.specs.Prelude.{◌≡◌, ℕ, ◌+◌, ◌<◌, ◌≤◌, ◌%◌, Bool, true, false, List, [], length, min, Option, Some, None, unwrap_or}
use Rattle.std.specs.List.{AllByRecursion}
use Rattle.nv_alloc.specs.declared.hand.Hand.{Hand}
use Rattle.nv_base.specs.declared.geometry.GeometryNumbers.{GeometryNumbers}
use Rattle.nv_base.specs.declared.limits.TheConstants.{DRAIN}
use Rattle.nv_base.specs.declared.numbers.Handle.{Handle}
use Rattle.nv_calls.specs.AllCalls.{is_nothing, refusal}
use Rattle.nv_calls.specs.AllCalls.{looked as found_in}
use Rattle.nv_calls.specs.Cells.{AreCells}
use Rattle.nv_calls.specs.Locked.{handles}
use Rattle.nv_calls.specs.Nodes.{nodes_in}
use Rattle.nv_calls.specs.PagesWanted.{pages_wanted}
use Rattle.nv_calls.specs.Prepared.{CanReady, HasNumberFor, IsReadyBy, IsStill, HaveNoLessRoom, handle_made_by, makes, no_handle, planned_by}
use Rattle.nv_calls.specs.Ready.{ReadyValue}
use Rattle.nv_calls.specs.Refusals.{passes}
use Rattle.nv_calls.specs.SlotCells.{lent_cells}
use Rattle.nv_calls.specs.Updates.{blank_call}
use Rattle.nv_calls.specs.declared.log_pages.TheConstants.{MORE_PAGES}
use Rattle.nv_calls.specs.declared.looked.LookupResult.{LookupResult}
use Rattle.nv_calls.specs.declared.update.Update.{Update}
use Rattle.nv_cell.specs.Cell.{CellValue}
use Rattle.nv_machine.specs.Sequence.{directories, nothing_looked}
use Rattle.nv_reader.specs.Showing.{is_over}
use Rattle.nv_core.specs.Cleaning.{CanCompact, CanUnlink, TakesFresh}
use Rattle.nv_core.specs.Committing.{IsCommitting}
use Rattle.nv_core.specs.Nodes.{CanRead, wanted_over}
use Rattle.nv_core.specs.Shown.{slots_in}
use Rattle.nv_core.specs.GhostCalls.{IsChangeWith, IsLookAt, IsSnapshotOrCleaner, IsVisitOf, is_change, makes_inode}
use Rattle.nv_core.specs.declared.reservation.Reservation.{Reservation}
use Rattle.nv_core.specs.declared.reservation.Reservation.TheVariants as reserved
use Rattle.nv_core.specs.declared.request.Request.{Request}
use Rattle.nv_core.specs.declared.request.Request.TheVariants as request
use Rattle.nv_core.specs.declared.next.Ending.{Ending}
use Rattle.nv_core.specs.declared.next.Ending.TheVariants as ending
use Rattle.nv_core.specs.declared.next.Next.{Next}
use Rattle.nv_core.specs.declared.next.Next.TheVariants as next
use Rattle.nv_core.specs.declared.next.SnapshotOrCleanerStep.{SnapshotOrCleanerStep}
use Rattle.nv_core.specs.declared.next.SnapshotOrCleanerStep.TheVariants as on
use Rattle.nv_core.specs.declared.running.Running.{Running}
use Rattle.nv_core.specs.declared.shared.Shared.{Shared}
use Rattle.nv_core.specs.declared.turn.Turn.{Turn}
use Rattle.nv_core.specs.declared.turn.Turn.TheVariants as turn

-- ---- the call

-- the request is of a call that goes through its last steps, and no visit
abbrev pub IsNoVisit : Request → Type 0
IsNoVisit (request.Visit c) = ⊥
IsNoVisit other = Unit {0}

-- the request is of the kind that this step of a call wants
abbrev pub FitsNext : Next → Request → Type 0
FitsNext next.Number j = makes_inode j ≡ true
FitsNext (next.Look place) j = IsLookAt place j
FitsNext next.Visit j = IsVisitOf j
FitsNext (next.SnapshotOrCleaner step) j = IsSnapshotOrCleaner j
FitsNext (next.Unlock place) j = IsNoVisit j
FitsNext (next.Give cpu) j = IsNoVisit j
FitsNext next.ReturnNumber j = IsNoVisit j
FitsNext before j = is_change j ≡ true

-- a call that looks nothing up has found nothing
abbrev pub LooksAsTold : Request → LookupResult → Type 0
LooksAsTold (request.Change plan text) looked = directories (blank_call plan) ≡ [] → looked ≡ nothing_looked
LooksAsTold other looked = Unit {0}

-- the step is of a call on snapshots, or of a cleaner
abbrev pub IsSnapshotOrCleanerStep : Next → Type 0
IsSnapshotOrCleanerStep (next.SnapshotOrCleaner step) = Unit {0}
IsSnapshotOrCleanerStep other = ⊥

-- the step is of a call on snapshots, and is lent the book
abbrev pub IsOnBook : Next → Type 0
IsOnBook (next.SnapshotOrCleaner (on.Show snapshot showing)) = ⊥
IsOnBook (next.SnapshotOrCleaner (on.LockPicked draining picked)) = ⊥
IsOnBook (next.SnapshotOrCleaner (on.Release draining picked)) = ⊥
IsOnBook (next.SnapshotOrCleaner (on.LockCleaned log)) = ⊥
IsOnBook (next.SnapshotOrCleaner (on.PlanCleaning manner slot)) = ⊥
IsOnBook (next.SnapshotOrCleaner (on.Fresh fresh)) = ⊥
IsOnBook (next.SnapshotOrCleaner (on.Unlink plan)) = ⊥
IsOnBook (next.SnapshotOrCleaner (on.Compact plan)) = ⊥
IsOnBook (next.SnapshotOrCleaner step) = Unit {0}
IsOnBook other = ⊥

-- the step is of a cleaner, behind its planning
abbrev pub IsCleaning : Next → Type 0
IsCleaning (next.SnapshotOrCleaner (on.Fresh fresh)) = Unit {0}
IsCleaning (next.SnapshotOrCleaner (on.Unlink plan)) = Unit {0}
IsCleaning (next.SnapshotOrCleaner (on.Compact plan)) = Unit {0}
IsCleaning other = ⊥

-- the step reads a node of a show
abbrev pub IsShow : Next → Type 0
IsShow (next.SnapshotOrCleaner (on.Show snapshot showing)) = Unit {0}
IsShow other = ⊥

-- the step takes a pin off
abbrev pub IsUnpin : Next → Type 0
IsUnpin (next.SnapshotOrCleaner (on.Unpin snapshot seen)) = Unit {0}
IsUnpin other = ⊥

-- the next step of a call fits its request
pub record FitsCall (running : Running) : Type 0 where
  -- the request is of the kind that the next step wants
  pub before : FitsNext running.next running.request
  -- a call that looks no name up has found nothing
  pub looks : LooksAsTold running.request running.looked
  -- a call whose names were bound anew has a look to begin again with
  pub overtaken : running.ending ≡ ending.BoundAnew → IsLookAt 0 running.request

-- a call can turn to its last steps, to end so
pub record CanEnd (running : Running) (how : Ending) : Type 0 where
  -- it is no visit, which has no last steps
  pub request : IsNoVisit running.request
  -- a call that looks no name up has found nothing
  pub looks : LooksAsTold running.request running.looked
  -- where its names were bound anew, it has a look to begin again with
  pub overtaken : how ≡ ending.BoundAnew → IsLookAt 0 running.request

-- ---- hands

-- a hand is for blocks of the device's size
pub record IsHandOf (g : GeometryNumbers) (hand : Hand) : Type 0 where
  -- its data blocks have the device's size
  pub blocks : hand.«data».size ≡ g.block
  -- its log pages have the device's size
  pub pages : hand.pages.size ≡ g.block

-- the hand of a reservation, in whichever phase that is
abbrev pub hand_held : Reservation → Hand
hand_held (reserved.Hand hand) = hand
hand_held (reserved.Ready ready) = ready.hand
hand_held (reserved.Commit commit) = commit.hand

-- ---- from the check to the growths

-- a call has passed its check over the cells of its slots, and has something to commit
pub record IsChecked (shared : Shared) (slots : List ℕ) (hand : Hand) (looked : LookupResult) (u : Update) : Type 0 where
  -- the nodes that it reads are those of the cells that it holds
  pub read : CanRead shared slots (handles looked (blank_call u))
  -- these cells are at most four, by rising number
  pub lent : AreCells (lent_cells slots shared.cells.items)
  -- it holds at least one slot
  pub some : 0 < length slots
  -- each of its cells has blocks of the device's size, and no entry past the tail
  pub still : AllByRecursion (λ (c : ℕ × CellValue). IsStill shared.geometry.numbers.block c.1.state) (lent_cells slots shared.cells.items)
  -- the plain world does not refuse it over these nodes
  pub passed : refusal shared.geometry.numbers.block (nodes_in (lent_cells slots shared.cells.items)) (blank_call u) ≡ passes
  -- it has something to commit
  pub something : is_nothing (blank_call u) ≡ false
  -- its names lead to what its looks found
  pub same : found_in (nodes_in (lent_cells slots shared.cells.items)) (blank_call u) ≡ looked
  -- a call that makes an inode has the number of an empty slot, and any other has none
  pub number : HasNumberFor (lent_cells slots shared.cells.items) (makes u) hand.ino
  -- the hand has no chain of an erased inode
  pub chain : hand.chain ≡ []

-- the handle of the inode that it makes is that of the number in its hand
abbrev pub HasMade : Shared → List ℕ → Hand → Handle → Update → Type 0
HasMade shared slots hand made u =
    makes u ≡ true → made ≡ unwrap_or (handle_made_by (lent_cells slots shared.cells.items) hand.ino u) no_handle

-- how many data blocks a call takes
abbrev pub blocks_to_take : Shared → List ℕ → Update → ℕ
blocks_to_take shared slots u = wanted_over shared.geometry.numbers.block (lent_cells slots shared.cells.items) u

-- how many log pages a call takes for its plan
abbrev pub pages_to_take : Shared → List ℕ → Hand → Update → ℕ
pages_to_take shared slots hand u =
    pages_wanted (lent_cells slots shared.cells.items) (planned_by (lent_cells slots shared.cells.items) hand u)

-- a call has all data blocks that it takes, and no log page yet
pub record HasItsBlocks (shared : Shared) (slots : List ℕ) (hand : Hand) (u : Update) : Type 0 where
  -- the hand has as many data blocks as it takes
  pub blocks : length hand.«data».blocks ≡ blocks_to_take shared slots u
  -- the hand has no log page
  pub none : hand.pages.blocks ≡ []
  -- there is room for the log pages that it takes, or for as many as it can need
  pub room : min (pages_to_take shared slots hand u) (length hand.«data».blocks + MORE_PAGES) ≤ hand.pages.room

-- a call takes data blocks, from the list that is asked next
pub record TakesBlocks (shared : Shared) (slots : List ℕ) (hand : Hand) (asked wanted : ℕ) (u : Update) : Type 0 where
  -- those in the hand and those still wanted are as many as it takes
  pub count : length hand.«data».blocks + wanted ≡ blocks_to_take shared slots u
  -- the hand has no log page yet
  pub none : hand.pages.blocks ≡ []
  -- there is room for the data blocks still wanted
  pub room : wanted ≤ hand.«data».room
  -- there is room for as many log pages as it can need afterwards
  pub pages : length hand.«data».blocks + wanted + MORE_PAGES ≤ hand.pages.room
  -- the list that is asked next is there
  pub list : asked < length shared.lists.items

-- a call takes log pages, from the list that is asked next
pub record TakesPages (shared : Shared) (slots : List ℕ) (hand : Hand) (asked wanted : ℕ) (u : Update) : Type 0 where
  -- the hand has as many data blocks as it takes
  pub blocks : length hand.«data».blocks ≡ blocks_to_take shared slots u
  -- the log pages in the hand and those still wanted are as many as its plan needs
  pub count : length hand.pages.blocks + wanted ≡ pages_to_take shared slots hand u
  -- there is room for the log pages still wanted
  pub room : wanted ≤ hand.pages.room
  -- the list that is asked next is there
  pub list : asked < length shared.lists.items

-- a call has all that it takes
pub record HasTaken (shared : Shared) (slots : List ℕ) (hand : Hand) (u : Update) : Type 0 where
  -- the hand has as many data blocks as it takes
  pub blocks : length hand.«data».blocks ≡ blocks_to_take shared slots u
  -- the hand has as many log pages as its plan needs
  pub pages : length hand.pages.blocks ≡ pages_to_take shared slots hand u

-- a call that takes blocks, or has just taken them all, has passed its check, and its hand has
-- room
abbrev pub Takes : Next → Shared → List ℕ → Hand → ℕ → LookupResult → Update → Type 0
Takes (next.TakeBlocks asked) shared slots hand wanted looked u =
    IsChecked shared slots hand looked u × TakesBlocks shared slots hand asked wanted u
Takes (next.TakeLogPages asked) shared slots hand wanted looked u =
    IsChecked shared slots hand looked u × TakesPages shared slots hand asked wanted u
Takes next.Ready shared slots hand wanted looked u = IsChecked shared slots hand looked u × HasTaken shared slots hand u
Takes other shared slots hand wanted looked u = Unit {0}

-- the step takes blocks, or is the one behind the takings
abbrev pub takes : Next → Bool
takes (next.TakeBlocks asked) = true
takes (next.TakeLogPages asked) = true
takes next.Ready = true
takes other = false

-- where the next step is such, the call of the request takes so
abbrev pub TakesIf : Bool → Shared → Hand → Running → Type 0
TakesIf false shared hand running = Unit {0}
TakesIf true shared hand running =
    IsChangeWith (λ u. HasMade shared (slots_in running.slots) hand running.made u
    × Takes running.next shared (slots_in running.slots) hand running.wanted running.looked u) running.request

-- the call of a request is checked, and has as many data blocks as it takes
abbrev pub CanCountPages : Shared → Hand → Running → Type 0
CanCountPages shared hand running =
    IsChangeWith (λ u. IsChecked shared (slots_in running.slots) hand running.looked u
    × (length hand.«data».blocks ≡ blocks_to_take shared (slots_in running.slots) u)) running.request

-- the call of a request is checked, and has its data blocks and room for its log pages
abbrev pub CanWantPages : Shared → Hand → Running → Type 0
CanWantPages shared hand running =
    IsChangeWith (λ u. HasMade shared (slots_in running.slots) hand running.made u
    × IsChecked shared (slots_in running.slots) hand running.looked u × HasItsBlocks shared (slots_in running.slots) hand u) running.request

-- the call of a request is checked, and takes so many data blocks
abbrev pub WantsBlocks : ℕ → Shared → Hand → Running → Type 0
WantsBlocks wanted shared hand running =
    IsChangeWith (λ u. HasMade shared (slots_in running.slots) hand running.made u
    × IsChecked shared (slots_in running.slots) hand running.looked u ×
    (wanted ≡ blocks_to_take shared (slots_in running.slots) u)) running.request

-- the hand has room for so many data blocks, and for the log pages that the call takes after them
pub record HasRoomFor (wanted : ℕ) (shared : Shared) (hand : Hand) (running : Running) : Type 0 where
  -- there is room for the data blocks
  pub blocks : wanted ≤ hand.«data».room
  -- where there are any, there is room for as many log pages as the call can need with them
  pub most : 0 < wanted → wanted + MORE_PAGES ≤ hand.pages.room
  -- where there are none, there is room for the log pages of its plan
  pub own : wanted ≡ 0 → IsChangeWith (λ u. pages_to_take shared (slots_in running.slots) hand u ≤ hand.pages.room) running.request

-- ---- calls on snapshots, and cleaners

-- a hand has room for a block once what it holds is given back
abbrev pub HoldsOne : Hand → Type 0
HoldsOne hand = 0 < hand.«data».room + length hand.«data».blocks

-- what the next step of a show, a drain or a cleaner asks of its hand: a show has another visit to
-- make; a drain releases no more than it may, and behind its first pick it has room for the block
-- of a record; a cleaner has the walk of the cell that it holds, and room for the log pages that
-- move
abbrev pub HasStepRoom : SnapshotOrCleanerStep → Shared → Hand → Type 0
HasStepRoom (on.Show snapshot showing) shared hand = is_over showing ≡ false
HasStepRoom (on.Pick draining) shared hand =
    (draining.released + draining.left < DRAIN) × (0 < draining.released → HoldsOne hand)
HasStepRoom (on.LockPicked draining picked) shared hand = (draining.released + draining.left < DRAIN) × HoldsOne hand
HasStepRoom (on.Release draining picked) shared hand = (draining.released + draining.left < DRAIN) × HoldsOne hand
HasStepRoom (on.Fresh fresh) shared hand = TakesFresh shared hand fresh
HasStepRoom (on.Unlink plan) shared hand = CanUnlink shared hand plan
HasStepRoom (on.Compact plan) shared hand = CanCompact shared hand plan
HasStepRoom other shared hand = Unit {0}

-- a drain that may go on to its next record is a call on snapshots, and has room for that record's
-- block
abbrev pub CanDrain : Ending → Request → Hand → Type 0
CanDrain (ending.Drains draining) j hand = IsSnapshotOrCleaner j × (draining.released + draining.left ≤ DRAIN) × HoldsOne hand
CanDrain other j hand = Unit {0}

-- what the next step of a call asks of its hand and of its request
abbrev pub HasNextRoom : Next → Ending → Request → Shared → Hand → Type 0
HasNextRoom (next.SnapshotOrCleaner step) how j shared hand = HasStepRoom step shared hand
HasNextRoom (next.Unlock place) how j shared hand = CanDrain how j hand
HasNextRoom (next.Give cpu) how j shared hand = CanDrain how j hand
HasNextRoom next.ReturnNumber how j shared hand = CanDrain how j hand
HasNextRoom other how j shared hand = Unit {0}

-- this ending is not that of a drain, which may go on
abbrev pub IsNoDrain : Ending → Type 0
IsNoDrain (ending.Drains draining) = ⊥
IsNoDrain other = Unit {0}

-- ---- ready

-- the call was made ready over its cells, which have lost no room since
pub record IsReadyOver (now : List (ℕ × CellValue)) (ready : ReadyValue) : Type 0 where
  -- the cells as they were when it was made ready
  pub cells : List (ℕ × CellValue)
  -- the hand as it was then
  pub hand : Hand
  -- the change that it makes
  pub update : Update
  -- it could be made ready over these cells, with this hand
  pub can : CanReady cells hand update
  -- the cells of now are these, with no less room
  pub more : HaveNoLessRoom cells now
  -- what is ready was made of these
  pub is : IsReadyBy cells hand update now ready

-- ---- what holds of a running call beside what is shown of it

-- the CPU of the actor that has the commit lock
abbrev pub committing_cpu : Shared → ℕ
committing_cpu shared = unwrap_or shared.holder 0 % length shared.lists.items

-- ROOMS: what holds of a running call beside what is shown of it, so that its next step needs
-- nothing else
abbrev pub HasRooms : Shared → Reservation → Running → Type 0
HasRooms shared (reserved.Hand hand) running =
    FitsCall running × IsHandOf shared.geometry.numbers hand × TakesIf (takes running.next) shared hand running
    × HasNextRoom running.next running.ending running.request shared hand
HasRooms shared (reserved.Ready ready) running =
    (running.request ≡ request.Taken) × (running.ending ≡ ending.Answers) × IsHandOf shared.geometry.numbers ready.hand
    × IsReadyOver (lent_cells (slots_in running.slots) shared.cells.items) ready
HasRooms shared (reserved.Commit commit) running =
    (running.request ≡ request.Taken) × (running.ending ≡ ending.Answers) × IsHandOf shared.geometry.numbers commit.hand
    × IsCommitting (committing_cpu shared) (lent_cells (slots_in running.slots) shared.cells.items) shared.book commit

-- an actor without a call has its hand alone
abbrev pub IsIdle : Shared → Reservation → Type 0
IsIdle shared (reserved.Hand hand) = IsHandOf shared.geometry.numbers hand
IsIdle shared other = ⊥

-- what an actor has between two steps is as its call asks
abbrev pub HasActorRooms : Shared → Reservation → Option Running → Type 0
HasActorRooms shared reserved None = IsIdle shared reserved
HasActorRooms shared reserved (Some running) = HasRooms shared reserved running

-- what holds of an actor after a turn: of a call that goes on its rooms, and else of the hand
-- alone
abbrev pub HasRoomsAfter : Turn → Shared → Reservation → Running → Type 0
HasRoomsAfter turn.Ends shared reserved running = IsIdle shared reserved
HasRoomsAfter other shared reserved running = HasRooms shared reserved running
