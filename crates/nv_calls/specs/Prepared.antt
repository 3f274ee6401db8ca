-- What a call is made ready with: the runs of its blocks, and its items, cell by cell.
use Rattle.std.specs.Prelude.{◌≡◌, ℕ, ◌+◌, ◌<◌, ◌≤◌, ◌^◌, if◌then◌else◌, Bool, true, false, List, [], ◌∷◌, length, Option, Some, None, option_map, unwrap_or}
use Rattle.std.specs.List.{AllByRecursion, sum_by}
use Rattle.std.specs.Option.{IsSome}
use Rattle.nv_alloc.specs.Block.{numbers_of}
use Rattle.nv_alloc.specs.declared.hand.Hand.{Hand}
use Rattle.nv_base.specs.declared.limits.TheConstants.{BLOCK_BYTES}
use Rattle.nv_base.specs.declared.numbers.Handle.{Handle}
use Rattle.nv_entry.specs.declared.item.Item.{Item}
use Rattle.nv_entry.specs.Sound.{blocks_of}
use Rattle.nv_cell.specs.Cell.{CellState, CellValue}
use Rattle.nv_cell.specs.Room.{HasNoLess, IsReadyToAppend}
use Rattle.nv_calls.specs.AllCalls.{is_nothing, plan, refusal}
use Rattle.nv_calls.specs.Cells.{AreCells, ino_at, state_at, value_at}
use Rattle.nv_calls.specs.Committed.{page_count}
use Rattle.nv_calls.specs.Nodes.{block_in, cell_of, has_page_in, nodes_in, slots_by}
use Rattle.nv_calls.specs.PagesWanted.{pages_wanted}
use Rattle.nv_calls.specs.Plan.{AreMaximal, block_runs_of}
use Rattle.nv_calls.specs.Ready.{CellCommitValue, ReadyValue, need_of}
use Rattle.nv_calls.specs.Refusals.{passes}
use Rattle.nv_calls.specs.Slots.{items_for}
use Rattle.nv_calls.specs.Steps.{HaveBlocks}
use Rattle.nv_calls.specs.Updates.{blank_call, blocks_taken}
use Rattle.nv_calls.specs.declared.plan.InodePlan.{InodePlan}
use Rattle.nv_calls.specs.declared.allocation.Allocation.{Allocation}
use Rattle.nv_calls.specs.declared.update.Update.{Update}
use Rattle.nv_calls.specs.declared.update.Update.TheVariants as update

-- ---- what a plan is made with

-- whether a call makes an inode
abbrev pub makes : Update → Bool
makes (update.Create dir name mode) = true
makes (update.Mkdir dir name mode) = true
makes other = false

-- the handle of a number, with the generation of its slot
abbrev pub handle_in : List (ℕ × CellValue) → ℕ → Handle
handle_in cells ino = record { ino = ino; generation = (slots_by cells ino).generation }

-- the handle of the inode that a call makes, by the number in its hand; none for any other call
abbrev pub handle_made_by : List (ℕ × CellValue) → Option ℕ → Update → Option Handle
handle_made_by cells number u = if makes u then option_map (handle_in cells) number else None

-- a handle that stands for no inode here
abbrev pub no_handle : Handle
no_handle = record { ino = 0; generation = 0 }

-- what a call has taken: the handle of its new inode, and its data blocks as runs
abbrev pub taken_by : List (ℕ × CellValue) → Hand → Update → Allocation
taken_by cells hand u = record {
  made = unwrap_or (handle_made_by cells hand.ino u) no_handle;
  runs = block_runs_of (numbers_of hand.data.blocks);
}

-- the items of a call, inode by inode
abbrev pub planned_by : List (ℕ × CellValue) → Hand → Update → List InodePlan
planned_by cells hand u = plan (block_in cells) (nodes_in cells) (taken_by cells hand u) (blank_call u)

-- ---- cell by cell

-- the plan of a cell in front of others, where it has items
abbrev pub if_items : ℕ → List Item → List CellCommitValue → List CellCommitValue
if_items at [] plans = plans
if_items at (item ∷ items) plans = record { at = at; items = item ∷ items; killed = [] } ∷ plans

-- for each cell whose inode gets items a plan with these, where the first cell has the place `at`
abbrev pub cell_plans : List InodePlan → ℕ → List (ℕ × CellValue) → List CellCommitValue
cell_plans plan at [] = []
cell_plans plan at (c ∷ cells) = if_items at (items_for plan c.0) (cell_plans plan (at + 1) cells)

-- the plans of a call, cell by cell
abbrev pub plans_by : List (ℕ × CellValue) → Hand → Update → List CellCommitValue
plans_by cells hand u = cell_plans (planned_by cells hand u) 0 cells

-- ---- room

-- two lists of the same cells, of which the second has no less room
pub record HaveNoLessRoom (old new : List (ℕ × CellValue)) : Type 0 where
  -- there are as many cells
  pub count : length new ≡ length old
  -- each place has the same inode number
  pub inos : (k : ℕ) → ino_at new k ≡ ino_at old k
  -- each cell has the same state
  pub states : (k : ℕ) → state_at new k ≡ state_at old k
  -- no cell has less room; the name that is reserved may be another
  pub rooms : (k : ℕ) → HasNoLess (value_at old k).room (value_at new k).room

-- two hands that hold the same, of which the second has no less room for data blocks
pub record HasNoLessRoom (old new : Hand) : Type 0 where
  -- the hands differ at most in the room for data blocks
  pub same : new ≡ record old { «data» = record old.data { room = new.data.room } }
  -- there is no less room for data blocks
  pub room : old.data.room ≤ new.data.room

-- hands that hold the same, whatever the bytes of their data blocks
pub record HoldsTheSame (old new : Hand) : Type 0 where
  -- the hands differ at most in the queue of data blocks
  pub same : new ≡ record old { «data» = new.data }
  -- the data blocks have the same numbers, in the same order
  pub numbers : numbers_of new.data.blocks ≡ numbers_of old.data.blocks
  -- the data blocks are of the same size
  pub size : new.data.size ≡ old.data.size
  -- there is no less room for data blocks
  pub room : old.data.room ≤ new.data.room

-- the planned cells are ready for their items
abbrev pub AreReady : List (ℕ × CellValue) → List CellCommitValue → Type 0
AreReady cells plans = AllByRecursion (λ p. IsReadyToAppend p.items (value_at cells p.at)) plans

-- ---- a call that is ready

-- a cell over which a call can be made ready
pub record IsStill (block : ℕ) (cell : CellState) : Type 0 where
  -- its blocks have `block` bytes
  pub size : cell.block ≡ block
  -- no entry stands past its tail
  pub settled : cell.chain.tail ≡ length cell.chain.entries

-- the number of an empty inode slot among the cells
pub record IsEmptySlot (cells : List (ℕ × CellValue)) (ino : ℕ) : Type 0 where
  -- the slot is one of the cells
  pub lent : IsSome (cell_of cells ino)
  -- its log has no entry
  pub empty : (slots_by cells ino).log ≡ []

-- the number of an empty slot where an inode is made, and else none
abbrev pub HasNumberFor : List (ℕ × CellValue) → Bool → Option ℕ → Type 0
HasNumberFor cells true (Some ino) = IsEmptySlot cells ino
HasNumberFor cells true None = ⊥
HasNumberFor cells false number = number ≡ None

-- a call can be made ready over these cells with what its hand holds
pub record CanReady (cells : List (ℕ × CellValue)) (hand : Hand) (u : Update) : Type 0 where
  -- there are at most four cells, by rising inode number
  pub lent : AreCells cells
  -- there is at least one cell
  pub some : 0 < length cells
  -- all cells have blocks of one size, and no entry past their tails
  pub still : AllByRecursion (λ c. IsStill (block_in cells) c.1.state) cells
  -- a block has at most `BLOCK_BYTES` bytes
  pub few_bytes : block_in cells ≤ BLOCK_BYTES
  -- the call passes its check over the nodes of the cells
  pub passed : refusal (block_in cells) (nodes_in cells) (blank_call u) ≡ passes
  -- the call commits something
  pub something : is_nothing (blank_call u) ≡ false
  -- the hand has the number of an empty slot for a new inode, and none for any other call
  pub number : HasNumberFor cells (makes u) hand.ino
  -- the hand has as many data blocks as the call takes
  pub count : length hand.data.blocks ≡ blocks_taken (block_in cells) (nodes_in cells) (has_page_in cells) u
  -- the data blocks have the block size of the cells
  pub size : hand.data.size ≡ block_in cells
  -- the numbers of the data blocks are below 2^32
  pub small : AllByRecursion (λ b. b.number < 2 ^ 32) hand.data.blocks

-- the hand holds the log pages that the plan wants
pub record HasLogPages (cells : List (ℕ × CellValue)) (hand : Hand) (u : Update) : Type 0 where
  -- the log pages have the block size of the cells
  pub size : hand.pages.size ≡ block_in cells
  -- there are as many log pages as the plan wants, or more
  pub enough : pages_wanted cells (planned_by cells hand u) ≤ length hand.pages.blocks
  -- the hand holds no chain of an erased inode
  pub chain : length hand.chain ≡ 0

-- a call is ready that had these cells and this hand, and has the cells `now`
pub record IsReadyBy (cells : List (ℕ × CellValue)) (hand : Hand) (u : Update) (now : List (ℕ × CellValue)) (ready : ReadyValue)
    : Type 0 where
  -- the call is the same
  pub update : ready.update ≡ u
  -- the handle of a new inode is of the number in the hand
  pub made : ready.made ≡ handle_made_by cells hand.ino u
  -- the taken blocks make maximal runs
  pub maximal : AreMaximal (taken_by cells hand u).runs
  -- the runs have all taken blocks, in the order taken
  pub whole : blocks_of (taken_by cells hand u).runs ≡ numbers_of hand.data.blocks
  -- the plans are what the call appends, cell by cell
  pub plans : ready.plans ≡ plans_by cells hand u
  -- a block has at least one byte
  pub some_bytes : 0 < block_in cells
  -- the hand holds the same, whatever the bytes of its data blocks
  pub hand_same : HoldsTheSame hand ready.hand
  -- each planned cell has room to append and publish its items
  pub cells_ready : AreReady now ready.plans
  -- the need is the number of parts that the entries kill at most
  pub need : ready.need ≡ need_of now ready.plans
  -- the hand has room for as many data blocks as that
  pub room : ready.need ≤ ready.hand.data.room
  -- the hand's first data blocks are those of each plan's items
  pub blocks : AllByRecursion (λ p. HaveBlocks p.items (block_in cells) ready.hand.data) ready.plans
  -- the plans have fewer than 2^32 entries together
  pub few : sum_by (λ p. length p.items) ready.plans < 2 ^ 32
  -- the hand's log pages have the block size of the cells
  pub page_size : ready.hand.pages.size ≡ block_in cells
  -- the hand has at least the log pages that the planned logs take
  pub pages : sum_by (page_count now) ready.plans ≤ length ready.hand.pages.blocks
  -- the hand holds no chain of an erased inode
  pub chain : length ready.hand.chain ≡ 0
