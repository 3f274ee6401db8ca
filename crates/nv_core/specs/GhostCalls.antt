-- How the machine's running call goes with the code's, of which parts are used up on the way.
use Rattle.std.specs.Prelude.{◌≡◌, ℕ, ◌+◌, ◌<◌, ◌≤◌, ◌⊎◌, if◌then◌else◌, nat_lt, Bool, true, false, List, [], filter, length, map, None}
use Rattle.nv_base.specs.declared.numbers.Handle.{Handle}
use Rattle.nv_book.specs.Book.{BookState}
use Rattle.nv_calls.specs.AllCalls.{answer}
use Rattle.nv_calls.specs.Commit.{CommitValue, to_append}
use Rattle.nv_calls.specs.Progress.{is_open}
use Rattle.nv_calls.specs.Ready.{CellCommitValue, ReadyValue, plan_at}
use Rattle.nv_calls.specs.Slots.{items_for, place_in}
use Rattle.nv_calls.specs.Updates.{blank_call, call_of, text_len}
use Rattle.nv_calls.specs.declared.call.Call.{Call}
use Rattle.nv_calls.specs.declared.call.Call.TheVariants as call
use Rattle.nv_calls.specs.Prepared.{makes}
use Rattle.nv_calls.specs.declared.plan.InodePlan.{InodePlan}
use Rattle.nv_calls.specs.declared.update.Update.{Update}
use Rattle.nv_machine.specs.Reads.{is_written, plan_by, slot_at}
use Rattle.nv_machine.specs.Sequence.{Visits, beginning, directories, locking}
use Rattle.nv_machine.specs.World as machine
use Rattle.nv_machine.specs.World.{HandState, Look, Next, Shared, Turn}
use Rattle.nv_core.specs.declared.reservation.Reservation.{Reservation}
use Rattle.nv_core.specs.declared.reservation.Reservation.TheVariants as reserved
use Rattle.nv_core.specs.declared.request.Request.{Request}
use Rattle.nv_core.specs.declared.request.Request.TheVariants as request
use Rattle.nv_core.specs.declared.request.PendingAnswer.{PendingAnswer}
use Rattle.nv_core.specs.declared.next.Ending.{Ending}
use Rattle.nv_core.specs.declared.next.Ending.TheVariants as ending
use Rattle.nv_core.specs.declared.running.Running.{Running}
use Rattle.nv_core.specs.CallNames.{IsNamed}
use Rattle.nv_core.specs.Shown.{ShownCall, answered}

-- ---- the call

-- what is owed to a call is its answer, whatever handle its new inode has
abbrev pub IsOwed : PendingAnswer → Call → Type 0
IsOwed owed c = (made : Handle) → answer (λ handle. None) made c ≡ answered owed made

-- the request is of this call; where a commit has used it up, what is owed still tells the call's
-- name and its answer
abbrev pub IsRequestOf : Request → PendingAnswer → Call → Type 0
IsRequestOf (request.Change plan text) owed c =
    (c ≡ call_of plan text) × (text_len plan ≡ length text) × IsNamed owed c × IsOwed owed c
IsRequestOf (request.Visit visit) owed c = c ≡ visit
IsRequestOf (request.SnapshotOrCleaner on) owed c = (c ≡ call.SnapshotOrCleaner on) × IsNamed owed c × IsOwed owed c
IsRequestOf request.Taken owed c = IsNamed owed c × IsOwed owed c

-- what is left of a running call's request is of the call that is told
abbrev pub IsShownCallOf : Running → ShownCall → Type 0
IsShownCallOf running told = IsRequestOf running.request running.owed told.call

-- a running call with the request of another
pub record KeepsRequest (old new : Running) : Type 0 where
  -- what is left of the request is the same
  pub request : new.request ≡ old.request
  -- what is owed to the call is the same
  pub owed : new.owed ≡ old.owed

-- ---- the plan

-- plans of the cells of a call's slots are those of the machine's plan
pub record ArePlansOf (slots : List ℕ) (plan : List InodePlan) (from : ℕ) (plans : List CellCommitValue) : Type 0 where
  -- they are of exactly the slots that the plan writes, in order
  pub written : filter (is_written plan) slots ≡ map (λ p. slot_at slots p.at) plans
  -- those from a place on have the items that the plan says
  pub items : (j : ℕ) → from ≤ j → j < length plans
      → (plan_at plans j).items ≡ items_for plan (slot_at slots (plan_at plans j).at)

-- what is ready is what the plan says
abbrev pub IsReadyOf : List ℕ → ReadyValue → ShownCall → Type 0
IsReadyOf slots ready told = ArePlansOf slots told.plan 0 ready.plans

-- a commit is of the call that is told
pub record IsCommitOf (slots : List ℕ) (commit : CommitValue) (told : ShownCall) : Type 0 where
  -- its number is the one that is told
  pub number : commit.stamp.commit ≡ told.commit
  -- its epoch is the one that is told
  pub epoch : commit.stamp.epoch ≡ told.epoch
  -- the entries that it has yet to append are those of the plan
  pub plans : ArePlansOf slots told.plan commit.appended commit.plans

-- the next entries that a commit appends have the places that the plan says
abbrev pub IsPlaceOf : List ℕ → CommitValue → ShownCall → Type 0
IsPlaceOf slots commit told =
    commit.appended < length commit.plans → commit.place ≡ place_in told.plan (slot_at slots (to_append commit).at)

-- ---- memory

-- the turn where the memory was there that the step asked for, or the one where it was refused
abbrev pub IsEither : (Bool → Turn) → Turn → Type 0
IsEither by result = (by true ≡ result) ⊎ (by false ≡ result)

-- ---- visits

-- a call that reads one node and changes none
abbrev pub IsVisit : Call → Type 0
IsVisit c = beginning c ≡ Visits

-- ---- what a request is

-- the request is a change of nodes, whose text and plan it still has
abbrev pub is_change : Request → Bool
is_change (request.Change plan text) = true
is_change other = false

-- the request is a change of nodes, by this update
abbrev pub IsChangeBy : Request → Update → Type 0
IsChangeBy (request.Change plan text) by = plan ≡ by
IsChangeBy other by = ⊥

-- the request makes a new inode
abbrev pub makes_inode : Request → Bool
makes_inode (request.Change plan text) = makes plan
makes_inode other = false

-- where a call is to end with its answer, that is what is owed to it
abbrev pub OwesAt : Ending → Running → ShownCall → Type 0
OwesAt how running told = how ≡ ending.Answers → IsOwed running.owed told.call

-- ---- the sequence, where the call stands apart

-- the next step in the loop of looks, in the code's words
abbrev pub looking_at : ℕ → List ℕ → Call → Next
looking_at place slots c = if nat_lt place (length (directories c)) then Look place else locking 0 slots

-- what is told of a call that starts
abbrev pub starting : Call → ShownCall
starting c = record { call = c; plan = []; commit = 0; epoch = 0 }

-- ---- commits on their way

-- how far a commit has come: inode by inode its entries are appended, then published, then retired
pub record IsOnItsWay (commit : CommitValue) : Type 0 where
  -- no more inodes are appended than there are plans
  pub appended : commit.appended ≤ length commit.plans
  -- no more are published
  pub published : commit.published ≤ length commit.plans
  -- no more are retired
  pub retired : commit.retired ≤ length commit.plans
  -- none is published while one is yet to be appended
  pub appends : commit.appended < length commit.plans → commit.published ≡ 0
  -- none is retired while one is yet to be published
  pub publishes : commit.published < length commit.plans → commit.retired ≡ 0
  -- the journal is open only behind the appends of two or more inodes, before any is retired
  pub opened : is_open commit ≡ true → (2 ≤ length commit.plans) × (commit.appended ≡ length commit.plans) × (commit.retired ≡ 0)
  -- it is open between the first publish and the last of two or more inodes
  pub between : 2 ≤ length commit.plans → 0 < commit.published → commit.published < length commit.plans → is_open commit ≡ true

-- what is told of a call that enters: the next number of the book, and its epoch
abbrev pub entered : BookState → ShownCall → ShownCall
entered book told = record told { commit = book.commit + 1; epoch = book.snaps.epoch }

-- what is told of a call; one that is in a commit has entered
abbrev pub shown_in : Reservation → BookState → ShownCall → ShownCall
shown_in (reserved.Commit commit) book told = entered book told
shown_in other book told = told

-- what is ready, or on its way, has the entries of the plan that is told
abbrev pub IsReservationOf : List ℕ → Reservation → ShownCall → Type 0
IsReservationOf slots (reserved.Hand hand) told = Unit {0}
IsReservationOf slots (reserved.Ready ready) told = IsReadyOf slots ready told
IsReservationOf slots (reserved.Commit commit) told = IsCommitOf slots commit told

-- the request is a change of nodes, by an update of which this holds
abbrev pub IsChangeWith : (Update → Type 0) → Request → Type 0
IsChangeWith P (request.Change plan text) = P plan
IsChangeWith P other = ⊥

-- the request is a call that reads one node
abbrev pub IsVisitOf : Request → Type 0
IsVisitOf (request.Visit visit) = IsVisit visit
IsVisitOf other = ⊥

-- the request is a call on snapshots, or a cleaner
abbrev pub IsSnapshotOrCleaner : Request → Type 0
IsSnapshotOrCleaner (request.SnapshotOrCleaner on) = Unit {0}
IsSnapshotOrCleaner other = ⊥

-- a request before the first step of its call
abbrev pub IsAtStart : Request → Type 0
IsAtStart (request.Change plan text) = Unit {0}
IsAtStart (request.Visit visit) = IsVisit visit
IsAtStart (request.SnapshotOrCleaner on) = Unit {0}
IsAtStart request.Taken = ⊥

-- the request is a change of nodes that has a look at this place
abbrev pub IsLookAt : ℕ → Request → Type 0
IsLookAt place j = IsChangeWith (λ u. place < length (directories (blank_call u))) j

-- what is told of a call: one that is ready has its plan
abbrev pub planned : Reservation → ℕ → Shared → HandState → machine.Running → ShownCall → ShownCall
planned (reserved.Ready ready) block s h r told = record told { plan = plan_by block s h r }
planned other block s h r told = told
