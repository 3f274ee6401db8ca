-- What each world keeps of settled logs: their pages have blocks, and journals note tails of the
-- commit under way alone.
use Rattle.std.specs.Prelude.{◌≡◌, ℕ, ◌+◌, ◌/◌, ◌%◌, ◌^◌, ◌<◌, ◌≤◌, ◌⊎◌, Bool, true, false, nat_lt, List, [], ◌∷◌, drop, length, take, Option, Some, None, slice_index_or, slice_set}
use Rattle.std.specs.List.{AllByRecursion}
use Rattle.std.specs.Option.{option_map}
use Rattle.nv_alloc.specs.Block.{BlockValue, number_of, numbers_of}
use Rattle.nv_alloc.specs.Numbers.{has}
use Rattle.nv_base.specs.declared.limits.TheConstants.{FILE_PAGES}
use Rattle.nv_calls.specs.Plan.{plan_blocks}
use Rattle.nv_calls.specs.Retiring.{name_of}
use Rattle.nv_calls.specs.declared.call.Call.{Call}
use Rattle.nv_calls.specs.declared.call.Call.TheVariants as call
use Rattle.nv_calls.specs.declared.plan.InodePlan.{InodePlan}
use Rattle.nv_cell.specs.Append.{IsWithinFile}
use Rattle.nv_cell.specs.Cell.{CellState, IsCell, log_of, number_in, page_block}
use Rattle.nv_cell.specs.declared.killed.KilledPart.{KilledPart}
use Rattle.nv_entry.specs.Covered.{is_covered, part_total}
use Rattle.nv_entry.specs.declared.item.Entry.{Entry}
use Rattle.nv_journal.specs.Journal.{settled_tail}
use Rattle.nv_journal.specs.declared.old_tail.OldTail.{OldTail}
use Rattle.nv_machine.specs.Hands.{AreTailsLast}
use Rattle.nv_machine.specs.Pages.{PagesOf}
use Rattle.nv_machine.specs.Reads.{written_slots}
use Rattle.nv_machine.specs.Settled.{settled}
use Rattle.nv_machine.specs.World.{Answers, Append, ReturnNumber, Check, Close, Enter, Give, HandState, Leave, Lock, Look, Next, Number, Open, BoundAnew, Publish, Ready, Release, Retire, Running, Shared, SnapshotOrCleaner, TakeBlocks, TakeLogPages, Unlock, Visit, World, actor_at, cell_at, empty_hand}

-- ---- blocks

-- a cell has the blocks of what this log says
pub record HasPages (log : List Entry) (cell : CellState) : Type 0 where
  -- each file page that no later entry of the log covers has the block that its entry says
  pub pages : (n number : ℕ) → is_covered cell.block log n ≡ false → page_block cell.block cell.chain.entries n ≡ Some number
      → option_map number_of (slice_index_or cell.blocks n None) ≡ Some number
  -- each part has a place for its block
  pub len : length cell.blocks ≡ part_total cell.chain.entries
  -- the tail is not past the last entry
  pub within : cell.chain.tail ≤ length cell.chain.entries

-- no two blocks have one number
abbrev pub AreApart : List (Option BlockValue) → Type 0
AreApart slots = (n m : ℕ) (b c : BlockValue) → slice_index_or slots n None ≡ Some b → slice_index_or slots m None ≡ Some c
    → b.number ≡ c.number → n ≡ m

-- the part that a `release` step is to put out is covered in its log
abbrev pub IsReleaseCovered : Shared → Next → Type 0
IsReleaseCovered s (SnapshotOrCleaner (Release draining picked)) =
    is_covered (cell_at s picked.ino).block (log_of (cell_at s picked.ino)) (number_in (cell_at s picked.ino) (name_of picked)) ≡ true
IsReleaseCovered s other = Unit {0}

-- what an actor's call is to release is covered by a later entry
abbrev pub IsReleaseCoveredBy : Shared → Option Running → Type 0
IsReleaseCoveredBy s None = Unit {0}
IsReleaseCoveredBy s (Some r) = IsReleaseCovered s r.next

-- what cleaners ask of a world
pub record AreCleanable (w : World) : Type 0 where
  -- each slot's cell has its chain, its marks and its blocks
  pub cells : (ino : ℕ) → ino < length w.shared.cells → IsCell (cell_at w.shared ino)
  -- each hand has the log pages that the next step of its call is to fill
  pub pages : (actor : ℕ) → PagesOf (actor_at w actor).running w.numbers.block w.shared (actor_at w actor).hand

-- what is known of the blocks of cells and hands, and of what is to be put out
pub record AreBlocksApart (w : World) : Type 0 where
  -- no two blocks of one cell have one number
  pub cells : (ino : ℕ) → AreApart (cell_at w.shared ino).blocks
  -- each data block in a hand has a number below 2 ^ 32
  pub small : (actor : ℕ) → AllByRecursion (λ (b : BlockValue). b.number < 2 ^ 32) (actor_at w actor).hand.blocks
  -- an actor without a call has an empty hand
  pub idle : (actor : ℕ) → (actor_at w actor).running ≡ None → (actor_at w actor).hand ≡ empty_hand
  -- what a `release` step is to put out is covered by a later entry
  pub releases : (actor : ℕ) → IsReleaseCoveredBy w.shared (actor_at w actor).running
  -- each log ends at its tail, except where a commit has yet to publish
  pub tails : AreTailsLast w
  -- cells and hands are as cleaners need them
  pub cleanable : AreCleanable w

-- ---- journals

-- no journal notes anything
abbrev pub AreClosed : List (List OldTail) → Type 0
AreClosed journals = AllByRecursion (λ (tails : List OldTail). tails ≡ []) journals

-- the journal of this CPU has noted the tails of exactly these slots
pub record HasNoted (s : Shared) (cpu : ℕ) (written : List ℕ) : Type 0 where
  -- no journal other than this one notes anything
  pub alone : AreClosed (slice_set s.book.journals cpu [])
  -- a tail is noted for each of these slots, whatever its log's own tail is
  pub noted : (ino tail other : ℕ) → has written ino ≡ true
      → settled_tail s.book.journals ino tail ≡ settled_tail s.book.journals ino other
  -- no tail is noted for another slot
  pub free : (ino tail : ℕ) → has written ino ≡ false → settled_tail s.book.journals ino tail ≡ tail
  -- no noted tail is past the log's own
  pub older : (ino : ℕ) → settled_tail s.book.journals ino (cell_at s ino).chain.tail ≤ (cell_at s ino).chain.tail

-- a commit of several inodes has noted their tails, and one of a single inode has no journal
abbrev pub IsNotedIf : Bool → Shared → ℕ → List ℕ → Type 0
IsNotedIf true s cpu written = HasNoted s cpu written
IsNotedIf false s cpu written = AreClosed s.book.journals

-- ---- what a call has in hand

-- with so many data blocks the pages of a call are pages that a file can have
abbrev pub IsInFile : ℕ → Call → ℕ → Type 0
IsInFile block (call.Write file offset text) count = 0 < length text → offset / block + count ≤ FILE_PAGES
IsInFile block (call.Size file size) count = size / block + count ≤ FILE_PAGES
IsInFile block other count = Unit {0}

-- what is known of a plan, where these blocks were taken for it
pub record IsPlanFor (plan : List InodePlan) (numbers : List ℕ) : Type 0 where
  -- its items are of pages that a file can have
  pub within : AllByRecursion (λ (p : InodePlan). AllByRecursion IsWithinFile p.items) plan
  -- its items use these blocks, all of them in order, or none
  pub blocks : (plan_blocks plan ≡ numbers) ⊎ (plan_blocks plan ≡ [])
  -- where it is of several inodes they use none
  pub several : 1 < length plan → plan_blocks plan ≡ []

-- a hand before anything was taken or killed
pub record HasNothing (h : HandState) : Type 0 where
  -- it has no data block
  pub blocks : h.blocks ≡ []
  -- it has no killed part
  pub killed : h.killed ≡ []

-- each of these parts is covered in a cell's log
abbrev pub AreCovered : CellState → List KilledPart → Type 0
AreCovered cell parts =
    AllByRecursion (λ (k : KilledPart). is_covered cell.block (log_of cell) (number_in cell k.part) ≡ true) parts

-- what publishes have killed, slot by slot
abbrev pub AreKilledIn : Shared → List ℕ → List (List KilledPart) → Type 0
AreKilledIn s [] [] = Unit {0}
AreKilledIn s [] (parts ∷ rest) = ⊥
AreKilledIn s (ino ∷ slots) [] = ⊥
AreKilledIn s (ino ∷ slots) (parts ∷ rest) = AreCovered (cell_at s ino) parts × AreKilledIn s slots rest

-- WHAT A CALL KNOWS before a step
abbrev pub Knows : Next → ℕ → Shared → ℕ → HandState → Running → Type 0
Knows Number block s cpu h r = HasNothing h × (r.ending ≡ Answers)
Knows (Look place) block s cpu h r = HasNothing h × (r.ending ≡ Answers)
Knows (Lock place) block s cpu h r = HasNothing h × (r.ending ≡ Answers)
Knows Check block s cpu h r = HasNothing h × (r.ending ≡ Answers)
Knows (TakeBlocks asked) block s cpu h r = (h.killed ≡ []) × (r.ending ≡ Answers) × IsInFile block r.call (length h.blocks + r.wanted)
Knows (TakeLogPages asked) block s cpu h r = (h.killed ≡ []) × (r.ending ≡ Answers) × IsInFile block r.call (length h.blocks)
Knows Ready block s cpu h r = (h.killed ≡ []) × (r.ending ≡ Answers) × IsInFile block r.call (length h.blocks)
Knows Enter block s cpu h r = (h.killed ≡ []) × (r.ending ≡ Answers) × IsPlanFor r.plan (numbers_of h.blocks)
Knows (Append place) block s cpu h r =
    (h.killed ≡ []) × (r.ending ≡ Answers) × AreClosed s.book.journals
    × ((numbers : List ℕ) → (place ≡ 0 → numbers ≡ numbers_of h.blocks) → IsPlanFor r.plan numbers)
Knows Open block s cpu h r =
    (h.killed ≡ []) × (r.ending ≡ Answers) × AreClosed s.book.journals × (nat_lt 1 (length (written_slots r)) ≡ true)
Knows (Publish place) block s cpu h r =
    AreKilledIn s (take place (written_slots r)) h.killed × (r.ending ≡ Answers)
    × IsNotedIf (nat_lt 1 (length (written_slots r))) s cpu (written_slots r)
Knows Close block s cpu h r = AreKilledIn s (written_slots r) h.killed × (r.ending ≡ Answers) × HasNoted s cpu (written_slots r)
Knows (Retire place) block s cpu h r =
    AreKilledIn s (drop place (written_slots r)) h.killed × (r.ending ≡ Answers) × AreClosed s.book.journals
Knows Leave block s cpu h r = (r.ending ≡ Answers) × AreClosed s.book.journals
Knows (Unlock place) block s cpu h r = r.ending ≡ BoundAnew → HasNothing h
Knows (Give home) block s cpu h r = Unit {0}
Knows ReturnNumber block s cpu h r = Unit {0}
Knows Visit block s cpu h r = Unit {0}
Knows (SnapshotOrCleaner step) block s cpu h r = Unit {0}

-- what the call of an actor knows before the step that comes next
abbrev pub KnowsOf : Option Running → ℕ → Shared → ℕ → HandState → Type 0
KnowsOf None block s cpu h = Unit {0}
KnowsOf (Some r) block s cpu h = Knows r.next block s cpu h r

-- ---- worlds

-- what each world keeps of its settled logs
pub record AreLogsKept (s : Shared) : Type 0 where
  -- each file page of a settled log that no later entry covers has its block in the cell
  pub pages : (ino : ℕ) → HasPages (settled s ino) (cell_at s ino)
  -- no journal notes anything while the commit lock is free
  pub closed : s.holder ≡ None → AreClosed s.book.journals
  -- there are as many journals as lists, one for each CPU
  pub wide : length s.book.journals ≡ length s.lists
  -- there is a list
  pub some : 0 < length s.lists

-- KEPT: what no step takes from settled logs, journals and plans
pub record IsKept (w : World) : Type 0 where
  -- settled logs have their blocks, and journals are closed while the commit lock is free
  pub logs : AreLogsKept w.shared
  -- each call knows what `Knows` says of its next step
  pub each : (actor : ℕ) → KnowsOf (actor_at w actor).running w.numbers.block w.shared (actor % length w.shared.lists)
      (actor_at w actor).hand
  -- a block has at least one byte
  pub some : 0 < w.numbers.block
