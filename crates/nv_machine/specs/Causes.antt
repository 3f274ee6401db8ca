-- For what a step refuses its call.
use Rattle.std.specs.Prelude.{◌≡◌, ℕ, ◌+◌, ◌<◌, ◌≤◌, ◌⊎◌, Bool, true, false, [], length, Option, Some, None, Result, Ok, Err}
use Rattle.nv_base.specs.declared.fault.Fault.{Fault}
use Rattle.nv_base.specs.declared.fault.Fault.TheVariants.{CommitLimit, Contended, NoInode, NoSnapshot, NoSpace, Stale}
use Rattle.nv_base.specs.Memory.{out_of_memory}
use Rattle.nv_base.specs.declared.limits.TheConstants.{NUMBER}
use Rattle.nv_base.specs.declared.numbers.Handle.{Handle}
use Rattle.nv_entry.specs.declared.node.NodeCopy.{NodeCopy}
use Rattle.nv_calls.specs.AllCalls.{early, look_refusal, looked, refusal}
use Rattle.nv_calls.specs.Refusals.{passes}
use Rattle.nv_calls.specs.declared.answer.Answer.{Answer}
use Rattle.nv_machine.specs.Answered.{IsEnding}
use Rattle.nv_machine.specs.Kinds.{asked_list}
use Rattle.nv_cell.specs.Readers.{has_inode}
use Rattle.nv_machine.specs.Sequence.{beginning}
use Rattle.nv_epoch.specs.SnapList.{pins_of}
use Rattle.nv_machine.specs.SnapshotOrCleaner.{drop_tests, is_first, make_tests}
use Rattle.nv_machine.specs.Step.{check_grows, is_numbered, same_looked, visit_grows}
use Rattle.nv_machine.specs.World.{Answers, Check, Cleans, Drains, Drop, Ending, Ends, Enter, Fresh, HandState, PlanCleaning, Look, Make, Moves, Next, BoundAnew, Pick, Pin, Ready, Refuses, Running, Shared, Show, SnapshotOrCleanerStep, SnapshotOrCleaner, TakeBlocks, TakeLogPages, Turn, Visit, Waits, cell_at, list_at}

-- ---- causes

-- the plain world refuses the call with this fault, over these nodes
abbrev pub IsRefusal : ℕ → (Handle → Option NodeCopy) → Running → Fault → Type 0
IsRefusal block nodes r fault = refusal block nodes r.call ≡ Err fault

-- memory that the step asks for is not granted
abbrev pub IsDenied : Bool → Fault → Type 0
IsDenied granted fault = (fault ≡ out_of_memory) × (granted ≡ false)

-- the plain world does not refuse the call, over these nodes
abbrev pub Passes : ℕ → (Handle → Option NodeCopy) → Running → Type 0
Passes block nodes r = refusal block nodes r.call ≡ passes

-- the call makes an inode, and has no number: its number step found none free
abbrev pub IsWithoutNumber : HandState → Running → Fault → Type 0
IsWithoutNumber h r fault = (fault ≡ NoInode) × (is_numbered (beginning r.call) h.ino ≡ false)

-- the last list is asked, and too few blocks are there
pub record IsShort (s : Shared) (cpu asked wanted : ℕ) (fault : Fault) : Type 0 where
  -- the fault is `NoSpace`
  pub is : fault ≡ NoSpace
  -- no list is left to ask
  pub last : length s.lists ≤ asked + 1
  -- this one has fewer blocks than are still wanted
  pub short : length (list_at s cpu).blocks < wanted

-- no further commit number is there
abbrev pub IsAtLimit : Shared → Fault → Type 0
IsAtLimit s fault = (fault ≡ CommitLimit) × (NUMBER ≤ s.book.commit)

-- the tests before the names pass, and a name is bound anew since the looks
abbrev pub IsOvertaken : (Handle → Option NodeCopy) → Running → Type 0
IsOvertaken nodes r = (early nodes r.call ≡ passes) × (same_looked (looked nodes r.call) r.looked ≡ false)

-- a name is bound anew, nothing is locked, and no round of looks is left
abbrev pub IsLastRound : (Handle → Option NodeCopy) → Running → Fault → Type 0
IsLastRound nodes r fault = (fault ≡ Contended) × IsOvertaken nodes r × (r.slots ≡ []) × (r.rounds ≡ 0)

-- no round of looks is left
abbrev pub IsRoundless : Running → Fault → Type 0
IsRoundless r fault = (fault ≡ Contended) × (r.rounds ≡ 0)

-- the slot of a number has an inode; a number without a slot has none
abbrev pub is_cleanable : Option ℕ → Shared → Bool
is_cleanable None s = false
is_cleanable (Some ino) s = has_inode (cell_at s ino)

-- for what a step of a call on snapshots or of a cleaner may refuse its call, and when
abbrev pub IsCauseOn : SnapshotOrCleanerStep → ℕ → Bool → Shared → Fault → Type 0
IsCauseOn Make actor granted s fault = make_tests s.book.snaps ≡ Err fault
IsCauseOn (Drop snapshot) actor granted s fault = drop_tests (pins_of s.book.snaps snapshot) ≡ Err fault
IsCauseOn (Pin snapshot) actor granted s fault = (fault ≡ NoSnapshot) × (pins_of s.book.snaps snapshot ≡ None)
IsCauseOn (Show snapshot showing) actor granted s fault = IsDenied granted fault
IsCauseOn (Pick draining) actor granted s fault = IsDenied granted fault × (is_first draining ≡ true)
IsCauseOn (PlanCleaning manner slot) actor granted s fault =
    ((fault ≡ Stale) × (is_cleanable slot s ≡ false)) ⊎ (IsDenied granted fault × (is_cleanable slot s ≡ true))
IsCauseOn (Fresh ino asked wanted) actor granted s fault =
    IsShort s (asked_list (length s.lists) actor asked) asked wanted fault
IsCauseOn other actor granted s fault = ⊥

-- A CAUSE: for what each step may refuse its call, and when, where it reads these nodes
abbrev pub IsCause : Next → ℕ → ℕ → Bool → (Handle → Option NodeCopy) → Shared → HandState → Running → Fault → Type 0
IsCause (Look place) block actor granted nodes s h r fault = look_refusal nodes r.call ≡ Err fault
IsCause Check block actor granted nodes s h r fault =
    IsRefusal block nodes r fault ⊎ (IsWithoutNumber h r fault × Passes block nodes r)
    ⊎ (IsDenied granted fault × (check_grows block s h r ≡ true) × Passes block nodes r)
    ⊎ IsLastRound nodes r fault
IsCause (TakeBlocks asked) block actor granted nodes s h r fault =
    IsShort s (asked_list (length s.lists) actor asked) asked r.wanted fault
IsCause (TakeLogPages asked) block actor granted nodes s h r fault =
    IsShort s (asked_list (length s.lists) actor asked) asked r.wanted fault
IsCause Ready block actor granted nodes s h r fault = IsDenied granted fault
IsCause Enter block actor granted nodes s h r fault = IsAtLimit s fault ⊎ IsDenied granted fault
IsCause Visit block actor granted nodes s h r fault =
    IsRefusal block nodes r fault ⊎ (IsDenied granted fault × (visit_grows r.call ≡ true) × Passes block nodes r)
IsCause (SnapshotOrCleaner step) block actor granted nodes s h r fault = IsCauseOn step actor granted s fault
IsCause other block actor granted nodes s h r fault = ⊥

-- a call may be overtaken at its check alone
abbrev pub MayBeOvertaken : Next → (Handle → Option NodeCopy) → Running → Type 0
MayBeOvertaken Check nodes r = IsOvertaken nodes r
MayBeOvertaken other nodes r = ⊥

-- ---- a step that refuses its call

-- where a call is to end with a fault, the fault meets `P` and only last steps are left; where a
-- name was bound anew, `Q` holds
abbrev pub EndsFor : (Fault → Type 0) → Type 0 → Next → Ending → Type 0
EndsFor P Q next (Refuses fault) = P fault × IsEnding next
EndsFor P Q next Answers = Unit {0}
EndsFor P Q next BoundAnew = Q
EndsFor P Q next (Drains draining) = Unit {0}
EndsFor P Q next (Cleans cleaned) = Unit {0}

-- the fault of a result is one of these
abbrev pub ResultFor : (Fault → Type 0) → Result Answer Fault → Type 0
ResultFor P (Ok found) = Unit {0}
ResultFor P (Err fault) = P fault

-- whatever fault a turn refuses its call for meets `P`; where it finds a name bound anew, `Q`
-- holds
abbrev pub RefusesFor : (Fault → Type 0) → Type 0 → Turn → Type 0
RefusesFor P Q (Moves s h r) = EndsFor P Q r.next r.ending
RefusesFor P Q Waits = Unit {0}
RefusesFor P Q (Ends result s h) = ResultFor P result

-- a step leaves its call without a number only where no number is free
abbrev pub FindsNone : Shared → Turn → Type 0
FindsNone s (Moves t h r) = h.ino ≡ None → s.pool.numbers ≡ []
FindsNone s Waits = Unit {0}
FindsNone s (Ends result t h) = Unit {0}
