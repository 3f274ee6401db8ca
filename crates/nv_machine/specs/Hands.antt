-- What holds of every cell and list, and what an actor's hand has before each step of its call.
use Rattle.std.specs.Prelude.{◌≡◌, ℕ, ◌+◌, ◌/◌, ◌<◌, ◌≤◌, Bool, true, false, List, [], drop, length, slice_index_or, take, Option, Some, None}
use Rattle.std.specs.List.{AllByRecursion, flat_map}
use Rattle.nv_alloc.specs.Block.{AreSized, BlockValue, numbers_of}
use Rattle.nv_alloc.specs.FreeList.{IsHomeList}
use Rattle.nv_alloc.specs.Numbers.{IsEachOnce, has}
use Rattle.nv_base.specs.Homes.{home_start}
use Rattle.nv_base.specs.declared.geometry.GeometryNumbers.{GeometryNumbers}
use Rattle.nv_base.specs.declared.limits.TheConstants.{FILE_PAGES}
use Rattle.nv_calls.specs.Slots.{items_for}
use Rattle.nv_calls.specs.declared.call.Call.{Call}
use Rattle.nv_calls.specs.declared.call.Call.TheVariants as call
use Rattle.nv_calls.specs.declared.plan.InodePlan.{InodePlan}
use Rattle.nv_cell.specs.Append.{IsWithinFile}
use Rattle.nv_cell.specs.Cell.{AreSlotsSized, CellState, log_of, mark_or_fresh, page_block}
use Rattle.nv_cell.specs.Marks.{is_there}
use Rattle.nv_entry.specs.Blocks.{item_blocks}
use Rattle.nv_entry.specs.Covered.{part_total}
use Rattle.nv_machine.specs.Kinds.{blocks_in}
use Rattle.nv_machine.specs.Numbers.{all_blocks}
use Rattle.nv_machine.specs.Reads.{written_slots}
use Rattle.nv_machine.specs.Sequence.{Beginning, Looks, Locks, Numbers, Maintains, Visits, beginning, nothing_looked}
use Rattle.nv_machine.specs.World.{Answers, Append, ReturnNumber, Check, Close, Compact, Enter, Fresh, Give, HandState, Leave, Lock, Look, Next, Number, Open, BoundAnew, Publish, Ready, Retire, Running, Shared, SnapshotOrCleanerStep, SnapshotOrCleaner, TakeBlocks, TakeLogPages, Unlock, Unpin, Visit, World, actor_at, cell_at, empty_hand, list_at}

-- ---- lists and cells

-- the free lists of a device
pub record AreLists (g : GeometryNumbers) (s : Shared) : Type 0 where
  -- each CPU has its list
  pub cpus : length s.lists ≡ g.cpus
  -- each is of its CPU's home range, and has free blocks of the device's size in rising order
  pub each : (cpu : ℕ) → cpu < g.cpus → IsHomeList g cpu (list_at s cpu)

-- a part that has a block is a file page of the log, and the block is the one that its entry says
abbrev pub ArePagesTold : ℕ → CellState → Type 0
ArePagesTold block cell = (n : ℕ) (b : BlockValue) → slice_index_or cell.blocks n None ≡ Some b
    → page_block block cell.chain.entries n ≡ Some b.number

-- what holds of the parts of each cell
pub record IsParted (block : ℕ) (cell : CellState) : Type 0 where
  -- the tail is not past the last entry
  pub within : cell.chain.tail ≤ length cell.chain.entries
  -- each published part has a mark
  pub marks : length cell.marks ≡ part_total (log_of cell)
  -- each part, published or not, has a place for its block
  pub places : length cell.blocks ≡ part_total cell.chain.entries
  -- a part that is out has no block
  pub out : (n : ℕ) → is_there (mark_or_fresh cell.marks n) ≡ false → slice_index_or cell.blocks n None ≡ None
  -- a part that has a block is a file page, in the block that its entry says
  pub told : ArePagesTold block cell
  -- the blocks of parts have this many bytes
  pub sized : AreSlotsSized block cell.blocks
  -- the log pages have this many bytes
  pub pages : AreSized block cell.chain.blocks

-- ---- what is published

-- the slots that a commit has appended to and not yet published
abbrev pub unpublished_at : Next → List ℕ → List ℕ
unpublished_at (Append place) written = take place written
unpublished_at Open written = written
unpublished_at (Publish place) written = drop place written
unpublished_at other written = []

-- the slots that an actor's call has yet to publish
abbrev pub unpublished_by : Option Running → List ℕ
unpublished_by None = []
unpublished_by (Some r) = unpublished_at r.next (written_slots r)

-- each cell's log ends at its tail, except where a commit has appended and not yet published
abbrev pub AreTailsLast : World → Type 0
AreTailsLast w = (ino : ℕ) → ((actor : ℕ) → has (unpublished_by (actor_at w actor).running) ino ≡ false)
    → (cell_at w.shared ino).chain.tail ≡ length (cell_at w.shared ino).chain.entries

-- ---- hands

-- a call whose new inode takes its number first
abbrev pub makes_inode : Beginning → Bool
makes_inode Numbers = true
makes_inode Looks = false
makes_inode Locks = false
makes_inode Visits = false
makes_inode (Maintains what) = false

-- what a hand has before a check has passed
pub record HasTakenNone (h : HandState) (r : Running) : Type 0 where
  -- it has no block
  pub blocks : blocks_in h ≡ []
  -- it has no killed part
  pub killed : h.killed ≡ []
  -- it has an inode number only where its call makes an inode
  pub number : makes_inode (beginning r.call) ≡ false → h.ino ≡ None
  -- such a call has looked up no name
  pub looked : makes_inode (beginning r.call) ≡ true → r.looked ≡ nothing_looked

-- so many blocks from the call's first page on are pages of a file; a call that fills no pages takes none
abbrev pub FitsFile : ℕ → Call → ℕ → Type 0
FitsFile block (call.Write file offset text) count = offset / block + count ≤ FILE_PAGES
FitsFile block (call.Size file size) count = size / block + count ≤ FILE_PAGES
FitsFile block other count = count ≡ 0

-- what a hand has while its call takes blocks, up to `ready`
pub record HasFitting (block : ℕ) (h : HandState) (r : Running) (count : ℕ) : Type 0 where
  -- it has no killed part
  pub killed : h.killed ≡ []
  -- so many blocks, from the call's first page on, are pages that a file can have
  pub fits : FitsFile block r.call count

-- the blocks of the pages that a plan has for these slots
abbrev pub planned_blocks : List InodePlan → List ℕ → List ℕ
planned_blocks plan slots = flat_map (λ ino. flat_map item_blocks (items_for plan ino)) slots

-- what a hand has before the entries of these slots are appended
pub record HasPlanned (h : HandState) (r : Running) (slots : List ℕ) : Type 0 where
  -- it has no killed part
  pub killed : h.killed ≡ []
  -- it has at least as many data blocks as the plan puts pages into
  pub enough : length (planned_blocks r.plan slots) ≤ length h.blocks
  -- the first of them are those that the plan's entries say, in order
  pub first : take (length (planned_blocks r.plan slots)) (numbers_of h.blocks) ≡ planned_blocks r.plan slots
  -- each item of the plan is of pages that a file can have
  pub within : (ino : ℕ) → AllByRecursion IsWithinFile (items_for r.plan ino)

-- all blocks of the hand that were at home on a lower CPU are given
abbrev pub AreGiven : GeometryNumbers → ℕ → List BlockValue → Type 0
AreGiven g cpu blocks = AllByRecursion (λ (b : BlockValue). home_start g.blocks g.cpus cpu ≤ b.number) blocks

-- a call that is to look its names up again
pub record BeginsAnew (h : HandState) (r : Running) : Type 0 where
  -- its hand is empty
  pub empty : h ≡ empty_hand
  -- it makes no inode, so it has no number
  pub looks : makes_inode (beginning r.call) ≡ false

-- a hand has log pages alone
abbrev pub HasPagesAlone : HandState → Type 0
HasPagesAlone h = h ≡ record empty_hand { pages = h.pages }

-- a cleaner has taken log pages at most, and other calls of this kind have nothing before the last steps
abbrev pub HandOn : SnapshotOrCleanerStep → HandState → Type 0
HandOn (Fresh ino asked wanted) h = HasPagesAlone h
HandOn (Compact ino) h = HasPagesAlone h
HandOn other h = h ≡ empty_hand

-- WHAT A HAND HAS before each step
abbrev pub HandAt : GeometryNumbers → Next → HandState → Running → Type 0
HandAt g Number h r = (h ≡ empty_hand) × (makes_inode (beginning r.call) ≡ true) × (r.looked ≡ nothing_looked)
HandAt g (Look place) h r = (h ≡ empty_hand) × (makes_inode (beginning r.call) ≡ false)
HandAt g (Lock place) h r = HasTakenNone h r
HandAt g Check h r = HasTakenNone h r
HandAt g (TakeBlocks asked) h r = HasFitting g.block h r (length h.blocks + r.wanted)
HandAt g (TakeLogPages asked) h r = HasFitting g.block h r (length h.blocks)
HandAt g Ready h r = HasFitting g.block h r (length h.blocks)
HandAt g Enter h r = HasPlanned h r (written_slots r)
HandAt g (Append place) h r = HasPlanned h r (drop place (written_slots r))
HandAt g Open h r = h.killed ≡ []
HandAt g (Publish place) h r = length h.killed ≡ place
HandAt g Close h r = length h.killed ≡ length (written_slots r)
HandAt g (Retire place) h r = length h.killed + place ≡ length (written_slots r)
HandAt g Leave h r = h.killed ≡ []
HandAt g (Unlock place) h r = (h.killed ≡ []) × (r.ending ≡ BoundAnew → BeginsAnew h r)
HandAt g (Give cpu) h r = (h.killed ≡ []) × (cpu < g.cpus) × AreGiven g cpu (blocks_in h)
HandAt g ReturnNumber h r = (h.killed ≡ []) × (blocks_in h ≡ [])
HandAt g Visit h r = h ≡ empty_hand
HandAt g (SnapshotOrCleaner step) h r = HandOn step h

-- until its last steps a call is to be answered; a show takes its pin off whatever it is answered
abbrev pub is_going_on : SnapshotOrCleanerStep → Bool
is_going_on (Unpin snapshot seen) = false
is_going_on other = true

-- the step is none of the last ones of a call
abbrev pub is_going : Next → Bool
is_going (Unlock place) = false
is_going (Give cpu) = false
is_going ReturnNumber = false
is_going (SnapshotOrCleaner step) = is_going_on step
is_going other = true

-- the hand of an actor is as its call's next step says
abbrev pub HandOf : GeometryNumbers → HandState → Option Running → Type 0
HandOf g h None = h ≡ empty_hand
HandOf g h (Some r) = HandAt g r.next h r × (is_going r.next ≡ true → r.ending ≡ Answers)

-- ---- the whole

-- WHAT HOLDS OF THE NUMBERS of each world: the laws of lists, cells and hands are proved from it
pub record AreNumbers (g : GeometryNumbers) (w : World) : Type 0 where
  -- the world has the device's numbers
  pub numbers : w.numbers ≡ g
  -- each block number of the device stands once, in a free list, a cell or a hand
  pub once : IsEachOnce g.blocks (all_blocks w)
  -- the free lists rise, and have blocks of their home ranges
  pub lists : AreLists g w.shared
  -- each cell has a mark and a place for each part, and each block is the one that its entry says
  pub cells : (ino : ℕ) → IsParted g.block (cell_at w.shared ino)
  -- each log ends at its tail, except where a commit has yet to publish
  pub tails : AreTailsLast w
  -- each block in a hand has the device's size
  pub sized : (actor : ℕ) → AreSized g.block (blocks_in (actor_at w actor).hand)
  -- each hand has what the next step of its call says
  pub hands : (actor : ℕ) → HandOf g (actor_at w actor).hand (actor_at w actor).running
