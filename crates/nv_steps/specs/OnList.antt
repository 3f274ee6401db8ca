-- Turns on one free list: blocks are taken from it, or go home to it.
use Rattle.std.specs.Prelude.{◌≡◌, ℕ, zero, suc, ◌+◌, ◌<◌, ◌≤◌, true, List, [], ◌∷◌, ◌++◌, length, IsSome, Option, Some, None}
use Rattle.nv_alloc.specs.Block.{BlockValue}
use Rattle.nv_alloc.specs.FreeList.{FreeBlocks}
use Rattle.nv_base.specs.declared.fault.Fault.{Fault}
use Rattle.nv_base.specs.declared.fault.Fault.TheVariants.{NoSpace}
use Rattle.nv_base.specs.declared.geometry.GeometryNumbers.{GeometryNumbers}
use Rattle.nv_machine.specs.Reads.{pages_wanted, plan_by}
use Rattle.nv_machine.specs.World.{Compact, Fresh, Give, HandState, Next, Ready, Refuses, ReturnNumber, Running, Shared, SnapshotOrCleaner, TakeBlocks, TakeLogPages, Unlock, go_to}
use Rattle.nv_steps.specs.LastSteps.{IsLast}
use Rattle.nv_steps.specs.Parts.{Has, IsOf, ListIs, Part}
use Rattle.nv_steps.specs.Turns.{IsMove, Made}
use Rattle.nv_steps.specs.declared.lists.LeftInHand.{LeftInHand}
use Rattle.nv_steps.specs.declared.lists.LeftInHand.TheVariants as left_in
use Rattle.nv_steps.specs.declared.lists.Taken.{Taken}
use Rattle.nv_steps.specs.declared.lists.Taken.TheVariants as taken

-- a turn that found the list of a CPU, and left it so
abbrev pub on_list : Running → HandState → ℕ → FreeBlocks → FreeBlocks → Made
on_list r h cpu found left = record {
  running = r;
  hand = h;
  granted = true;
  found = ListIs cpu found ∷ [];
  left = ListIs cpu left ∷ [];
}

-- ---- what is taken

-- what a call takes blocks for
pub data Taking : Type 0 where
  -- for its data
  DataBlocks : Taking
  -- for the log pages that its plan wants
  LogPages : Taking
  -- for the log pages that a thorough cleaning of this slot wants
  FreshPages : (ino : ℕ) → Taking

-- the step of a taking: so many lists were asked, and so many blocks are wanted yet
abbrev pub step_of : Taking → ℕ → ℕ → Next
step_of DataBlocks asked wanted = TakeBlocks asked
step_of LogPages asked wanted = TakeLogPages asked
step_of (FreshPages ino) asked wanted = SnapshotOrCleaner (Fresh ino asked wanted)

-- a call before that step
abbrev pub taking_on : Taking → ℕ → ℕ → Running → Running
taking_on (FreshPages ino) asked wanted r = go_to (step_of (FreshPages ino) asked wanted) r
taking_on taking asked wanted r = record r { wanted = wanted; next = step_of taking asked wanted }

-- the hand with these blocks behind those that were taken before
abbrev pub with_taken : Taking → List BlockValue → HandState → HandState
with_taken DataBlocks blocks h = record h { blocks = h.blocks ++ blocks }
with_taken other blocks h = record h { pages = h.pages ++ blocks }

-- what is told of a taking of so many from a list that had so many, where so many of so many lists were asked before: it has
-- all; so many are wanted yet, and there is another list; or there is none
abbrev pub IsTold : ℕ → ℕ → ℕ → ℕ → Taken → Type 0
IsTold wanted there asked lists taken.All = wanted ≤ there
IsTold wanted there asked lists (taken.Lacks left) = (0 < left) × (there + left ≡ wanted) × (asked + 1 < lists)
IsTold wanted there asked lists taken.TooFew = (there < wanted) × (lists ≤ asked + 1)

-- ---- takings

-- a call that is refused, and holds a slot, unlocks next
abbrev pub once_refused : Fault → Running → Running
once_refused fault r = record r { ending = Refuses fault; next = Unlock 0 }

-- a call whose plan wants so many log pages takes them next; where it wants none, it is ready
abbrev pub once_planned : ℕ → Running → Running
once_planned zero r = record r { wanted = 0; next = Ready }
once_planned (suc n) r = taking_on LogPages 0 (suc n) r

-- with this hand the plan of a call wants so many log pages, by these cells alone
abbrev pub WantsPages : GeometryNumbers → List Part → HandState → Running → ℕ → Type 0
WantsPages numbers cells h r pages =
    (s : Shared) → IsOf numbers s → Has s cells → pages_wanted s r.slots (plan_by numbers.block s h r) ≡ pages

-- behind its data blocks the call goes on as its plan wants, by the cells that it finds too
abbrev pub IsPlanned : GeometryNumbers → ℕ → Made → HandState → Type 0
IsPlanned numbers actor t h = (cells : List Part) (pages : ℕ) → WantsPages numbers cells h t.running pages
    → IsMove numbers actor (record t { found = t.found ++ cells }) h (once_planned pages t.running)

-- A TAKING IS THE MACHINE'S TURN: the call goes on where it has all; it asks the next list for what it lacks; or it is
-- refused, where each was asked. Such a call holds a slot.
abbrev pub IsTaking : Taking → ℕ → GeometryNumbers → ℕ → Made → Taken → HandState → Type 0
IsTaking taking asked numbers actor t (taken.Lacks left) h = IsMove numbers actor t h (taking_on taking (asked + 1) left t.running)
IsTaking taking asked numbers actor t taken.TooFew h =
    0 < length t.running.slots → IsMove numbers actor t h (once_refused NoSpace t.running)
IsTaking DataBlocks asked numbers actor t taken.All h = IsPlanned numbers actor t h
IsTaking LogPages asked numbers actor t taken.All h = IsMove numbers actor t h (once_planned 0 t.running)
IsTaking (FreshPages ino) asked numbers actor t taken.All h = IsMove numbers actor t h (go_to (SnapshotOrCleaner (Compact ino)) t.running)

-- ---- gives

-- the same home ranges
pub record HaveSameHomes (one other : GeometryNumbers) : Type 0 where
  -- of as many blocks
  pub blocks : one.blocks ≡ other.blocks
  -- for as many CPUs
  pub cpus : one.cpus ≡ other.cpus

-- the CPU that is home of blocks which are left, if any are
abbrev pub home_left : LeftInHand → Option ℕ
home_left (left_in.Blocks cpu) = Some cpu
home_left other = None

-- a number is told to be left, or nothing, as there is one in the hand
abbrev pub HasNumber : LeftInHand → Option ℕ → Type 0
HasNumber (left_in.Blocks cpu) number = Unit {0}
HasNumber left_in.Number number = IsSome number
HasNumber left_in.Nothing number = number ≡ None

-- A GIVE IS THE MACHINE'S TURN: blocks that are left go home next, CPU by CPU, then a number goes back, and then it was the
-- last step
abbrev pub IsGive : GeometryNumbers → ℕ → Made → LeftInHand → HandState → Type 0
IsGive numbers actor t (left_in.Blocks cpu) h = IsMove numbers actor t h (go_to (Give cpu) t.running)
IsGive numbers actor t left_in.Number h = IsMove numbers actor t h (go_to ReturnNumber t.running)
IsGive numbers actor t left_in.Nothing h = IsLast numbers actor t t.running.ending h
