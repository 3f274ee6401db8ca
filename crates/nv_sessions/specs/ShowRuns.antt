-- A SHOW OF A SESSION: a pin, a visit of one cell after another, and an unpin.
use Rattle.std.specs.Prelude.{◌≡◌, ◌⊎◌, ℕ, ◌<◌, ◌≤◌, ◌==◌, if◌then◌else◌, Bool, true, false, get_or, List, [], ◌∷◌, Option, Some, None, Result, Ok, Err, IfOk, OnOk, is_ok}
use Rattle.std.specs.List.{AllByRecursion}
use Rattle.std.specs.Option.{ForSome, IsSomeAnd}
use Rattle.nv_base.specs.Memory.{out_of_memory}
use Rattle.nv_base.specs.declared.fault.Fault.{Fault}
use Rattle.nv_base.specs.declared.fault.Fault.TheVariants.{Mismatch, OutOfMemory}
use Rattle.nv_base.specs.declared.fault.MismatchPart.{MismatchPart}
use Rattle.nv_base.specs.declared.fault.MismatchPart.TheVariants.{Lists, Names, Records}
use Rattle.nv_base.specs.declared.limits.TheConstants.{PINS}
use Rattle.nv_base.specs.declared.geometry.GeometryNumbers.{GeometryNumbers}
use Rattle.nv_base.specs.declared.numbers.Handle.{Handle}
use Rattle.nv_book.specs.Book.{BookState}
use Rattle.nv_calls.specs.declared.answer.Answer.{Answer}
use Rattle.nv_calls.specs.declared.answer.Answer.TheVariants as answers
use Rattle.nv_calls.specs.declared.call.Call.TheVariants as call
use Rattle.nv_calls.specs.declared.snapshot_or_cleaner_call.SnapshotOrCleanerCall.TheVariants as on
use Rattle.nv_cell.specs.Cell.{CellState, CellValue, log_of}
use Rattle.nv_entry.specs.Log.{up_to}
use Rattle.nv_entry.specs.declared.node.NodeCopy.{NodeCopy}
use Rattle.nv_entry.specs.declared.tree.TreeNode.{TreeNode}
use Rattle.nv_machine.specs.Reads.{bytes_among}
use Rattle.nv_machine.specs.Sequence.{started}
use Rattle.nv_machine.specs.SnapshotOrCleaner.{shown_by}
use Rattle.nv_machine.specs.World.{Pin, Running, Show, SnapshotOrCleaner, Unpin, empty_hand}
use Rattle.nv_reader.specs.Cells.{own_node}
use Rattle.nv_reader.specs.Nodes.{IsWhole}
use Rattle.nv_reader.specs.Showing.{Showing, is_over, seen_on, visited}
use Rattle.nv_steps.specs.OnBook.{IsBefore, IsTurnTo, answer_of_show, on_book, once_pinned}
use Rattle.nv_steps.specs.Reading.{once_shown, reading}
use Rattle.nv_epoch.specs.SnapList.{pins_of}
use Rattle.nv_steps.specs.Runs.{IsRun, Leads}
use Rattle.nv_steps.specs.Turns.{IsEnd, IsMove, Made}
use Rattle.nv_sessions.specs.Locked.{LockedValue}
use Rattle.nv_sessions.specs.Misfits.{IsMisplaced}
use Rattle.nv_sessions.specs.SessionRuns.{IsBrokenOff}

-- a call that shows this snapshot, as it starts
abbrev pub showing : ℕ → Running
showing snapshot = started (call.SnapshotOrCleaner (on.Show snapshot)) (SnapshotOrCleaner (Pin snapshot)) []

-- ---- its turns on the book

-- A PIN IS THE MACHINE'S TURN on a book that it found: so the show goes on behind it, or is refused
pub record IsPinTurn (numbers : GeometryNumbers) (snapshot : ℕ) (result : Result Showing Fault) : Type 0 where
  -- the book that it found
  pub found : BookState
  -- the book that it left
  pub left : BookState
  -- it is the turn of any actor
  pub turn : (actor : ℕ) (r : Running) → IsBefore (Pin snapshot) r
      → IsTurnTo numbers actor (on_book r empty_hand true found left) (once_pinned snapshot r) result empty_hand

-- AN UNPIN IS THE SHOW'S LAST TURN, on a book that it found
pub record IsUnpinTurn (numbers : GeometryNumbers) (snapshot : ℕ) (shown : Result (List TreeNode) Fault) : Type 0 where
  -- the book that it found
  pub found : BookState
  -- the book that it left
  pub left : BookState
  -- it is the turn of any actor, which answers what was seen, or for what the show is refused
  pub turn : (actor : ℕ) (r : Running) (seen : List TreeNode) → r.next ≡ SnapshotOrCleaner (Unpin snapshot seen)
      → shown_by r.ending seen ≡ answer_of_show shown
      → IsEnd numbers actor (on_book r empty_hand true found left) (answer_of_show shown) empty_hand

-- it is pinned by that turn; or its snapshot takes no more pins
abbrev pub FindsPin : GeometryNumbers → ℕ → Result Showing Fault → Type 0
FindsPin numbers snapshot (Err (Mismatch what)) =
    (what ≡ Records) × (book : BookState) × (¬ ForSome (pins_of book.snaps snapshot) (λ pins. pins < PINS))
FindsPin numbers snapshot result = IsPinTurn numbers snapshot result

-- its pin goes by that turn; or its snapshot has no pin
abbrev pub FindsUnpin : GeometryNumbers → ℕ → Result (List TreeNode) Fault → Result Answer Fault → Type 0
FindsUnpin numbers snapshot shown told =
    ((told ≡ Err (Mismatch Records)) × (book : BookState) × (¬ IsSomeAnd (pins_of book.snaps snapshot) (λ pins. 0 < pins)))
    ⊎ ((told ≡ answer_of_show shown) × IsUnpinTurn numbers snapshot shown)

-- ---- its visits

-- the node under a handle at the end of an epoch, by the own blocks of the cell of its slot
abbrev pub own_copy : CellState → ℕ → Handle → Option NodeCopy
own_copy cell epoch handle = if handle.generation == cell.generation then own_node cell (up_to epoch (log_of cell)) else None

-- a visit that is made
pub record Visited : Type 0 where
  -- how the show stood before it
  pub before : Showing
  -- the cell that it found
  pub cell : CellValue

-- the cell has each block of the node at the snapshot's epoch, and no other block of that number: laws over all parts of a
-- world give that, and nothing behind one lock does
abbrev pub FoundWhole : ℕ → Visited → Type 0
FoundWhole snapshot v = IsWhole (bytes_among v.cell.state.blocks) snapshot v.cell.state

-- A VISIT SAW THE NODE OF THE CELL THAT IT FOUND, at the snapshot's epoch, by the cell's own blocks; or it wanted memory. It is
-- the machine's turn, where it saw a node only if the cell is whole.
pub record IsVisit (numbers : GeometryNumbers) (snapshot : ℕ) (v : Visited) (result : Result Showing Fault) : Type 0 where
  -- a visit was left to make
  pub more : is_over v.before ≡ false
  -- its handle is of a slot of the device
  pub inside : (visited v.before.visits).ino < numbers.inodes
  -- the show behind it
  pub own : IfOk result (λ after. after ≡ seen_on (own_copy v.cell.state snapshot (visited v.before.visits)) v.before)
  -- it is the turn of any actor
  pub turn : (actor : ℕ) (r : Running) → r.next ≡ SnapshotOrCleaner (Show snapshot v.before) → OnOk result (FoundWhole snapshot v)
      → IsMove numbers actor (reading (visited v.before.visits).ino r empty_hand (is_ok result) (Some v.cell.state)) empty_hand
      (once_shown snapshot result r)

-- a slot is marked as one that was visited
abbrev pub IsMarked : List Bool → ℕ → Type 0
IsMarked marks ino = get_or marks ino false ≡ true

-- THE NEXT VISIT OF A SHOW TAKES WHAT DOES NOT FIT IT, and the fault names what that is, where such slots were visited before
pub data IsMisfitVisit (numbers : GeometryNumbers) (snapshot : ℕ) (met : ℕ → Type 0) (before : Showing) (what : MismatchPart) : Type 0 where
  -- a handle of no slot of the device
  NoSlot : numbers.inodes ≤ (visited before.visits).ino → what ≡ Names → IsMisfitVisit numbers snapshot met before what
  -- the place of another inode, or an empty one
  Displaced : (place : LockedValue) → IsMisplaced (visited before.visits).ino place → what ≡ Lists
      → IsMisfitVisit numbers snapshot met before what
  -- a handle of a slot that was visited before
  Met : met (visited before.visits).ino → what ≡ Names → IsMisfitVisit numbers snapshot met before what
  -- a cell that has no node under the handle at the snapshot's epoch
  NoNode : (cell : CellState) → own_copy cell snapshot (visited before.visits) ≡ None → what ≡ Names
      → IsMisfitVisit numbers snapshot met before what

-- a visit of this cell; or the cell has no node for it
abbrev pub SeesCell : GeometryNumbers → ℕ → Showing → CellValue → Result Showing Fault → Type 0
SeesCell numbers snapshot before cell (Err (Mismatch what)) =
    (own_copy cell.state snapshot (visited before.visits) ≡ None) × (what ≡ Names)
SeesCell numbers snapshot before cell result = IsVisit numbers snapshot (record { before = before; cell = cell }) result

-- a visit found a cell; or a test broke it off, where such slots were visited before
abbrev pub FindsCell : GeometryNumbers → ℕ → (ℕ → Type 0) → Showing → Result Showing Fault → Type 0
FindsCell numbers snapshot met before (Err (Mismatch what)) = IsMisfitVisit numbers snapshot met before what
FindsCell numbers snapshot met before result = (cell : CellValue) × IsVisit numbers snapshot (record { before = before; cell = cell }) result

-- visits, the last one first, lead from a show to another
abbrev pub AreVisits : GeometryNumbers → ℕ → Showing → List Visited → Showing → Type 0
AreVisits numbers snapshot first [] shown = shown ≡ first
AreVisits numbers snapshot first (v ∷ earlier) shown = AreVisits numbers snapshot first earlier v.before × IsVisit numbers snapshot v (Ok shown)

-- one of these visits was of this slot
abbrev pub HasMet : List Visited → ℕ → Type 0
HasMet [] ino = ⊥
HasMet (v ∷ earlier) ino = (ino ≡ (visited v.before.visits).ino) ⊎ HasMet earlier ino

-- behind these visits all are made, and these nodes were seen; or the next one takes what does not fit it, or wanted memory
abbrev pub EndsVisits : GeometryNumbers → ℕ → List Visited → Showing → Result (List TreeNode) Fault → Type 0
EndsVisits numbers snapshot visits shown (Ok seen) = (is_over shown ≡ true) × (seen ≡ shown.seen)
EndsVisits numbers snapshot visits shown (Err (Mismatch what)) = IsMisfitVisit numbers snapshot (HasMet visits) shown what
EndsVisits numbers snapshot visits shown (Err fault) =
    (fault ≡ out_of_memory) × (cell : CellValue) × IsVisit numbers snapshot (record { before = shown; cell = cell }) (Err fault)

-- the visits of a show from its first one on
pub record AreAllVisits (numbers : GeometryNumbers) (snapshot : ℕ) (first : Showing) (shown : Result (List TreeNode) Fault) : Type 0 where
  -- the visits that were made, the last one first
  pub visits : List Visited
  -- how the show stands behind them
  pub last : Showing
  -- they lead there
  pub are : AreVisits numbers snapshot first visits last
  -- there they end
  pub ends : EndsVisits numbers snapshot visits last shown

-- ---- the show

-- turns lead from the start of a show to its end; or to the visit that a test broke off, which comes behind this
abbrev pub IsShownBy : GeometryNumbers → ℕ → ℕ → Showing → Result (List TreeNode) Fault → Type 0
IsShownBy numbers actor snapshot last (Err (Mismatch what)) =
    (turns : List Made) × Leads numbers actor empty_hand (showing snapshot) turns empty_hand (once_pinned snapshot (showing snapshot) last)
IsShownBy numbers actor snapshot last shown = IsRun numbers actor empty_hand (showing snapshot) (answer_of_show shown) empty_hand

-- A SHOW THAT IS PINNED: its visits, and its end. It is a run of the machine's turns where each cell that saw a node is whole; a
-- test may break it off, and its pin goes then too.
pub record IsShown (numbers : GeometryNumbers) (actor snapshot : ℕ) (shown : Result (List TreeNode) Fault) : Type 0 where
  -- the show behind the pin
  pub first : Showing
  -- the pin
  pub pin : IsPinTurn numbers snapshot (Ok first)
  -- the visits
  pub all : AreAllVisits numbers snapshot first shown
  -- the pin goes
  pub unpin : IsUnpinTurn numbers snapshot shown
  -- these are turns
  pub run : AllByRecursion (FoundWhole snapshot) all.visits → IsShownBy numbers actor snapshot all.last shown

-- A SHOW THAT FINDS ITS PIN GONE behind its visits
pub record IsUnpinned (numbers : GeometryNumbers) (snapshot : ℕ) (what : MismatchPart) : Type 0 where
  -- the show behind the pin
  pub first : Showing
  -- the pin
  pub pin : IsPinTurn numbers snapshot (Ok first)
  -- what was shown
  pub shown : Result (List TreeNode) Fault
  -- the visits
  pub all : AreAllVisits numbers snapshot first shown
  -- the book that the unpin found
  pub book : BookState
  -- the snapshot has no pin
  pub none : ¬ IsSomeAnd (pins_of book.snaps snapshot) (λ pins. 0 < pins)
  -- the fault names the records
  pub records : what ≡ Records

-- A SHOW ANSWERS THE NODES THAT IT HAS SEEN, or wants memory; or it is refused as a run is. A test may break off its pin, a visit
-- or its unpin.
abbrev pub IsShowRun : GeometryNumbers → ℕ → ℕ → Result Answer Fault → Type 0
IsShowRun numbers actor snapshot (Ok answer) = (seen : List TreeNode) × (answer ≡ answers.Tree seen) × IsShown numbers actor snapshot (Ok seen)
IsShowRun numbers actor snapshot (Err (OutOfMemory memory)) = IsShown numbers actor snapshot (Err (OutOfMemory memory))
IsShowRun numbers actor snapshot (Err (Mismatch what)) =
    IsBrokenOff numbers actor empty_hand (showing snapshot) what ⊎ IsShown numbers actor snapshot (Err (Mismatch what))
    ⊎ IsUnpinned numbers snapshot what
IsShowRun numbers actor snapshot refused = IsRun numbers actor empty_hand (showing snapshot) refused empty_hand
