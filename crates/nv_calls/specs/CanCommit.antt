-- What has to hold before a commit.
use Rattle.std.specs.Prelude.{◌≡◌, ℕ, ◌+◌, ◌<◌, ◌≤◌, ◌^◌, Bool, true, false, List, [], length, map, slice_index_or, sum_by, take, unwrap_or, None}
use Rattle.std.specs.List.{AllByRecursion, flat_map}
use Rattle.std.specs.Option.{IsSome, option_map}
use Rattle.nv_alloc.specs.Block.{numbers_of}
use Rattle.nv_alloc.specs.declared.hand.Hand.{Hand}
use Rattle.nv_base.specs.declared.limits.TheConstants.{NUMBER}
use Rattle.nv_base.specs.declared.numbers.Handle.{Handle}
use Rattle.nv_book.specs.Book.{BookState, BookValue, after_enter}
use Rattle.nv_cell.specs.Append.{IsWithinFile}
use Rattle.nv_cell.specs.Cell.{CellState, CellValue, fresh_of, killed_by, log_of, published}
use Rattle.nv_cell.specs.Effects.{items_of}
use Rattle.nv_cell.specs.Killed.{AreKilled}
use Rattle.nv_cell.specs.Readers.{is_gone, is_last_word}
use Rattle.nv_cell.specs.Room.{IsReadyFor, IsReadyToAppend}
use Rattle.nv_cell.specs.Weights.{weights_in}
use Rattle.nv_entry.specs.declared.item.Item.{Item}
use Rattle.nv_log.specs.Chain.{last_of}
use Rattle.nv_calls.specs.declared.stamp.Stamp.{Stamp}
use Rattle.nv_calls.specs.Cells.{AreCells, value_at, state_at}
use Rattle.nv_calls.specs.Commit.{CommitValue, begun, stamp_of}
use Rattle.nv_calls.specs.Committed.{entry_count, killed_count, page_count, cell_place_of}
use Rattle.nv_calls.specs.Ready.{ArePlaced, CellCommitValue, ReadyValue, need_of, plan_at}
use Rattle.nv_calls.specs.Retiring.{part_in}
use Rattle.nv_calls.specs.Steps.{IsLater, numbers_in}

-- items can be appended to a cell in the commit of that number and epoch, with what a hand holds
pub record CanTakeItems (stamp : Stamp) (hand : Hand) (items : List Item) (cell : CellValue) : Type 0 where
  -- the cell has room to append and publish the items, and for the log pages that they take
  pub ready : IsReadyToAppend items cell
  -- the last entry of the cell is of an earlier commit, and of no later epoch
  pub later : IsLater stamp cell
  -- the pages of the items are pages that a file can have
  pub within : AllByRecursion IsWithinFile items
  -- the hand's data blocks have the block size of the cell
  pub block_size : hand.data.size ≡ cell.state.block
  -- the hand's log pages have the block size of the cell
  pub page_size : hand.pages.size ≡ cell.state.block

-- the numbers of the blocks that the items of all plans put pages in
abbrev pub numbers_of_all : List CellCommitValue → List ℕ
numbers_of_all plans = flat_map (λ (p : CellCommitValue). numbers_in p.items) plans

-- all items of a commit can be appended with what its hand holds
pub record CanAppendAll (cells : List (ℕ × CellValue)) (commit : CommitValue) : Type 0 where
  -- each planned cell can take its items
  pub each : (j : ℕ) → j < length commit.plans
      → CanTakeItems commit.stamp commit.hand (plan_at commit.plans j).items (value_at cells (cell_place_of commit.plans j))
  -- the hand's first data blocks are those of the items, in the order of the plans
  pub blocks : numbers_of (take (length (numbers_of_all commit.plans)) commit.hand.data.blocks) ≡ numbers_of_all commit.plans
  -- the hand has at least the log pages that the planned logs take
  pub pages : sum_by (page_count cells) commit.plans ≤ length commit.hand.pages.blocks
  -- the plans have fewer than 2^32 entries together
  pub few : sum_by entry_count commit.plans < 2 ^ 32

-- what stands past the tail of a cell can be published
pub record CanBePublished (cell : CellValue) : Type 0 where
  -- an entry stands past the tail
  pub some : cell.state.chain.tail < length cell.state.chain.entries
  -- fewer than 2^62 commits of the cell were published
  pub version : cell.state.version < 2 ^ 62
  -- there is room to publish all entries past the tail
  pub ready : IsReadyFor [] cell

-- what a publish of all entries of a cell kills is what was told before
pub record KillsAsTold (cell : CellState) : Type 0 where
  -- it kills at most as many parts as the entries past the tail weigh
  pub few : length (killed_by cell) ≤ weights_in cell.block (log_of cell) (items_of (fresh_of cell))
  -- each part that it kills is marked killed then, and none is told twice
  pub marked : AreKilled (map part_in (killed_by cell)) (published cell)

-- what a plan notes as killed can be retired in its cell, and a hand takes the blocks that go free
pub record CanBeRetired (hand : Hand) (plan : CellCommitValue) (cell : CellState) : Type 0 where
  -- each part that the plan notes is marked killed, and none is noted twice
  pub marked : AreKilled (map part_in plan.killed) cell
  -- the hand's data blocks have the block size of the cell
  pub size : hand.data.size ≡ cell.block
  -- no entry stands past the tail of the cell
  pub published : cell.chain.tail ≡ length cell.chain.entries
  -- an inode that is gone is not of the last generation
  pub generation : is_gone (log_of cell) ≡ true → cell.generation < NUMBER

-- the killed parts of all plans can be retired, where the book has room for `room` records
pub record CanRetireAll (room : ℕ) (cells : List (ℕ × CellValue)) (commit : CommitValue) : Type 0 where
  -- the killed parts of each plan can be retired in its cell
  pub each : (j : ℕ) → j < length commit.plans
      → CanBeRetired commit.hand (plan_at commit.plans j) (state_at cells (cell_place_of commit.plans j))
  -- there is room for a record of each killed part
  pub records : sum_by killed_count commit.plans ≤ room
  -- the hand has room for a data block of each killed part
  pub freed : sum_by killed_count commit.plans ≤ commit.hand.data.room
  -- the hand holds no chain of an erased inode
  pub chain : length commit.hand.chain ≡ 0
  -- the hand holds no inode number
  pub number : commit.hand.ino ≡ None
  -- at most one of the planned inodes is gone
  pub one : (i j : ℕ) → i < length commit.plans → j < length commit.plans
      → is_gone (log_of (state_at cells (cell_place_of commit.plans i))) ≡ true
      → is_gone (log_of (state_at cells (cell_place_of commit.plans j))) ≡ true → i ≡ j

-- ---- a whole commit

-- the last of these items says that the inode is gone
abbrev pub goes : List Item → Bool
goes items = unwrap_or (option_map is_last_word (last_of items)) false

-- a settled cell can take a commit of these items
pub record IsSettledFor (items : List Item) (cell : CellState) : Type 0 where
  -- there is an item
  pub some : 0 < length items
  -- no entry stands past the tail
  pub settled : cell.chain.tail ≡ length cell.chain.entries
  -- fewer than 2^62 commits of the cell were published
  pub version : cell.version < 2 ^ 62
  -- an inode that the items end is not of the last generation
  pub generation : goes items ≡ true → cell.generation < NUMBER

-- the inode number in the hand of a call that is ready
pub record HasNumber (ready : ReadyValue) : Type 0 where
  -- the hand has the number of the inode that the call makes, and none for any other call
  pub number : ready.hand.ino ≡ option_map (λ (h : Handle). h.ino) ready.made
  -- a call that makes an inode appends to two logs or more
  pub linked : IsSome ready.made → 2 ≤ length ready.plans

-- a book as an enter leaves it: the latest event of its history is the commit of its number, in the present epoch
abbrev pub IsEntered : BookState → Type 0
IsEntered book = (seat : ℕ) × ((before : BookState) × (book ≡ after_enter seat before))

-- what is ready can be committed as the book's latest commit, with a CPU's journal
pub record CanCommit (cells : List (ℕ × CellValue)) (book : BookValue) (cpu : ℕ) (ready : ReadyValue) : Type 0 where
  -- there are at most four cells, by rising inode number
  pub cells_are : AreCells cells
  -- each plan is of one of the cells, and the plans stand by rising place
  pub placed : ArePlaced cells ready.plans
  -- the latest event of the book is a commit of its number, in the present epoch
  pub entered : IsEntered book.state
  -- all items can be appended, with the blocks and log pages of the hand
  pub append : CanAppendAll cells (begun (stamp_of book.state) ready)
  -- each planned cell is settled, and neither its version nor its generation runs out
  pub settled : (j : ℕ) → j < length ready.plans
      → IsSettledFor (plan_at ready.plans j).items (state_at cells (cell_place_of ready.plans j))
  -- the book has room for as many records as the entries kill parts at most
  pub records : need_of cells ready.plans ≤ book.room
  -- the hand has room for as many data blocks as the entries kill parts at most
  pub freed : need_of cells ready.plans ≤ ready.hand.data.room
  -- the hand holds no chain of an erased inode
  pub chain : length ready.hand.chain ≡ 0
  -- the hand has the number of the inode that is made, and no other
  pub number : HasNumber ready
  -- at most one of the planned inodes goes
  pub one_goes : (i j : ℕ) → i < length ready.plans → j < length ready.plans → goes (plan_at ready.plans i).items ≡ true
      → goes (plan_at ready.plans j).items ≡ true → i ≡ j
  -- the CPU has a journal
  pub cpu_is : cpu < length book.state.journals
  -- the CPU's journal notes nothing
  pub closed : slice_index_or book.state.journals cpu [] ≡ []

-- ---- a call that is ready

-- a cell can take the commit of that number and epoch
pub record TakesCommit (stamp : Stamp) (cell : CellValue) : Type 0 where
  -- the last entry of the cell is of an earlier commit, and of no later epoch
  pub later : IsLater stamp cell
  -- fewer than 2^62 commits of the cell were published
  pub version : cell.state.version < 2 ^ 62
  -- the slot is not of the last generation
  pub generation : cell.state.generation < NUMBER

-- number and epoch of a book's next commit
abbrev pub next_stamp : BookState → Stamp
next_stamp book = record { commit = book.commit + 1; epoch = book.snaps.epoch }

-- a CPU has a journal, and it is closed
pub record IsClosed (book : BookState) (cpu : ℕ) : Type 0 where
  -- the CPU has a journal
  pub inside : cpu < length book.journals
  -- that journal notes nothing
  pub closed : slice_index_or book.journals cpu [] ≡ []

-- what a commit asks beside a call that is ready
pub record AllowsCommit (cells : List (ℕ × CellValue)) (book : BookValue) (cpu : ℕ) (ready : ReadyValue) : Type 0 where
  -- the latest event of the book is a commit of its number, in the present epoch
  pub entered : IsEntered book.state
  -- each planned cell can take that commit
  pub take : AllByRecursion (λ p. TakesCommit (stamp_of book.state) (value_at cells p.at)) ready.plans
  -- the book has room for the records that the call may need
  pub records : ready.need ≤ book.room
  -- the CPU has a journal
  pub cpu_is : cpu < length book.state.journals
  -- the CPU's journal notes nothing
  pub closed : slice_index_or book.state.journals cpu [] ≡ []
