-- A CALL AS A RUN of its own turns, between which others may change what it does not hold.
use Rattle.std.specs.Prelude.{◌≡◌, ℕ, ◌==◌, if◌then◌else◌, List, [], ◌∷◌, Option, Some, None, Result}
use Rattle.std.specs.List.{AllByRecursion}
use Rattle.nv_base.specs.declared.fault.Fault.{Fault}
use Rattle.nv_base.specs.declared.geometry.GeometryNumbers.{GeometryNumbers}
use Rattle.nv_book.specs.Book.{BookState}
use Rattle.nv_calls.specs.declared.answer.Answer.{Answer}
use Rattle.nv_cell.specs.Cell.{CellState}
use Rattle.nv_machine.specs.World.{HandState, Running}
use Rattle.nv_steps.specs.Parts.{BookIs, CellIs, HolderIs, IsThere, OwnerIs, Part}
use Rattle.nv_steps.specs.Turns.{IsEnd, IsMove, Made}

-- ---- what parts tell

-- the cell of a slot, if one of these parts is it
abbrev pub cell_in : List Part → ℕ → Option CellState
cell_in [] ino = None
cell_in (CellIs other cell ∷ parts) ino = if other == ino then Some cell else cell_in parts ino
cell_in (other ∷ parts) ino = cell_in parts ino

-- the owner of a slot's lock, if one of these parts is it
abbrev pub owner_in : List Part → ℕ → Option (Option ℕ)
owner_in [] ino = None
owner_in (OwnerIs other owner ∷ parts) ino = if other == ino then Some owner else owner_in parts ino
owner_in (other ∷ parts) ino = owner_in parts ino

-- the book, if one of these parts is it
abbrev pub book_in : List Part → Option BookState
book_in [] = None
book_in (BookIs book ∷ parts) = Some book
book_in (other ∷ parts) = book_in parts

-- the holder of the commit lock, if one of these parts is it
abbrev pub holder_in : List Part → Option (Option ℕ)
holder_in [] = None
holder_in (HolderIs holder ∷ parts) = Some holder
holder_in (other ∷ parts) = holder_in parts

-- behind a turn a part is as the turn left it, or else as it found it
abbrev pub left_or_found : {A : Type 0} → Option A → Option A → Option A
left_or_found (Some left) found = Some left
left_or_found None found = found

-- ---- what a run knows

-- what a run knows of a part behind a lock
pub data Known (A : Type 0) : Type 0 where
  -- nothing: the lock is not its own
  Unheld : Known A
  -- nothing yet: it has locked the part alone
  Unseen : Known A
  -- how it left the part
  LeftAs : A → Known A

-- with the lock as its own
abbrev pub held : {A : Type 0} → Known A → Known A
held Unheld = Unseen
held known = known

-- behind a turn by this actor that tells the owner of the lock, if it does
abbrev pub locked : {A : Type 0} → ℕ → Option (Option ℕ) → Known A → Known A
locked actor None known = known
locked actor (Some None) known = Unheld
locked actor (Some (Some owner)) known = if owner == actor then held known else Unheld

-- behind a turn that tells the part, if it does
abbrev pub seen : {A : Type 0} → Option A → Known A → Known A
seen None known = known
seen (Some value) Unheld = Unheld
seen (Some value) known = LeftAs value

-- what these turns of an actor, the last one first, know of the cell of a slot
abbrev pub known_cell : ℕ → List Made → ℕ → Known CellState
known_cell actor [] ino = Unheld
known_cell actor (t ∷ before) ino =
    seen (left_or_found (cell_in t.left ino) (cell_in t.found ino))
    (locked actor (left_or_found (owner_in t.left ino) (owner_in t.found ino)) (known_cell actor before ino))

-- and of the book
abbrev pub known_book : ℕ → List Made → Known BookState
known_book actor [] = Unheld
known_book actor (t ∷ before) =
    seen (left_or_found (book_in t.left) (book_in t.found))
    (locked actor (left_or_found (holder_in t.left) (holder_in t.found)) (known_book actor before))

-- ---- what fits it

-- a part that the run holds is found as it was last left
abbrev pub IsAsLeft : {A : Type 0} → Known A → A → Type 0
IsAsLeft (LeftAs left) found = found ≡ left
IsAsLeft other found = Unit {0}

-- a lock that the run holds is found as its own
abbrev pub IsOwn : {A : Type 0} → ℕ → Known A → Option ℕ → Type 0
IsOwn actor Unheld owner = Unit {0}
IsOwn actor other owner = owner ≡ Some actor

-- a part fits what these turns know
abbrev pub FitsPart : ℕ → List Made → Part → Type 0
FitsPart actor before (CellIs ino cell) = IsAsLeft (known_cell actor before ino) cell
FitsPart actor before (OwnerIs ino owner) = IsOwn actor (known_cell actor before ino) owner
FitsPart actor before (BookIs book) = IsAsLeft (known_book actor before) book
FitsPart actor before (HolderIs holder) = IsOwn actor (known_book actor before) holder
FitsPart actor before other = Unit {0}

-- WHAT A RUN HOLDS IS FOUND AS IT LEFT IT: a cell, or the book, since its own lock. What it does not hold may be anything
abbrev pub Fits : ℕ → List Made → List Part → Type 0
Fits actor before parts = AllByRecursion (FitsPart actor before) parts

-- ---- runs

-- these turns of an actor, the last one first, lead from the first hand and call to these
abbrev pub Leads : GeometryNumbers → ℕ → HandState → Running → List Made → HandState → Running → Type 0
Leads numbers actor h0 r0 [] h r = (h ≡ h0) × (r ≡ r0)
Leads numbers actor h0 r0 (t ∷ before) h r =
    Leads numbers actor h0 r0 before t.hand t.running × Fits actor before t.found × IsThere numbers t.found × IsMove numbers actor t h r

-- A CALL IS A RUN of its actor's turns, from its start to its end
pub record IsRun (numbers : GeometryNumbers) (actor : ℕ) (h0 : HandState) (r0 : Running) (result : Result Answer Fault) (h : HandState)
    : Type 0 where
  -- the turns before the last one, of which the last is first
  pub turns : List Made
  -- the last turn
  pub last : Made
  -- they lead to the last one
  pub leads : Leads numbers actor h0 r0 turns last.hand last.running
  -- it fits them
  pub fits : Fits actor turns last.found
  -- some state has what it found
  pub there : IsThere numbers last.found
  -- it ends the call
  pub ends : IsEnd numbers actor last result h
