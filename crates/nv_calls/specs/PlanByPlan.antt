-- How far a commit has come, plan by plan: of its appends, of its publishes, and of what it retires.
use Rattle.std.specs.Prelude.{◌≡◌, ℕ, ◌+◌, ◌<◌, ◌≤◌, true, List, [], length, None, take}
use Rattle.std.specs.List.{sum_by}
use Rattle.nv_alloc.specs.declared.hand.Hand.{Hand}
use Rattle.nv_book.specs.Book.{BookState, BookValue}
use Rattle.nv_cell.specs.Cell.{CellRoom, CellState, CellValue, KeepsAppendRoom, killed_by, log_of, published}
use Rattle.nv_cell.specs.Readers.{is_gone}
use Rattle.nv_cell.specs.Room.{IsReadyFor}
use Rattle.nv_epoch.specs.SnapList.{ids}
use Rattle.nv_calls.specs.CanCommit.{KillsAsTold}
use Rattle.nv_calls.specs.Cells.{ino_at, state_at, value_at}
use Rattle.nv_calls.specs.Commit.{CommitValue}
use Rattle.nv_calls.specs.Committed.{HaveSamePlaces, IsUnplanned, grown, hand_after_killings, hand_before, killed_count, manifests_after, noted_killing, place_before, cell_place_of, settled_cell, settled_room}
use Rattle.nv_calls.specs.Ready.{CellCommitValue, plan_at}

-- ---- cells and plans

-- a commit has changed the cells of its first `j` plans
pub record IsChangedTo (j : ℕ) (plans : List CellCommitValue) (becomes : ℕ → CellState) (old now : List (ℕ × CellValue)) : Type 0 where
  -- there are as many cells as before
  pub count : length now ≡ length old
  -- each place has the inode number that it had
  pub numbers : (k : ℕ) → ino_at now k ≡ ino_at old k
  -- the cells of the first `j` plans have their new states
  pub done : (i : ℕ) → i < j → state_at now (cell_place_of plans i) ≡ becomes i
  -- the cells of the plans from `j` on are as they were
  pub waiting : (i : ℕ) → j ≤ i → i < length plans → value_at now (cell_place_of plans i) ≡ value_at old (cell_place_of plans i)
  -- each cell without a plan is as it was
  pub others : (k : ℕ) → IsUnplanned plans k → value_at now k ≡ value_at old k

-- the first `j` plans have had their turn
pub record ArePlansFrom (j : ℕ) (old now : List CellCommitValue) : Type 0 where
  -- the plans are of the same cells as before
  pub same : HaveSamePlaces old now
  -- the plans from `j` on are as they were
  pub rest : (i : ℕ) → j ≤ i → plan_at now i ≡ plan_at old i

-- ---- appending

-- the commit once the items of the first plans are appended
abbrev pub so_far : List (ℕ × CellValue) → CommitValue → ℕ → List CellCommitValue → CommitValue
so_far cells start j plans = record start {
  plans = plans;
  hand = hand_before cells start j;
  place = place_before start.plans j;
  appended = j;
}

-- a commit has appended the items of its first `j` plans
pub record AppendsTo (j : ℕ) (cells : List (ℕ × CellValue)) (start : CommitValue) (now : List (ℕ × CellValue)) (commit : CommitValue)
    : Type 0 where
  -- the cells of these plans have their entries, and the other cells stay
  pub changed : IsChangedTo j start.plans (λ i. (grown cells start i).state) cells now
  -- the other plans are as they were
  pub plans : ArePlansFrom j start.plans commit.plans
  -- hand, place and count are those after `j` appends; all else stays, except the plans
  pub is : commit ≡ so_far cells start j commit.plans
  -- each of these cells has the room that its entries left
  pub rooms : (i : ℕ) → i < j → (value_at now (cell_place_of start.plans i)).room ≡ (grown cells start i).room
  -- each of these cells has room to publish what stands past its tail
  pub ready : (i : ℕ) → i < j → IsReadyFor [] (value_at now (cell_place_of start.plans i))

-- ---- publishing

-- the state of the cell of a plan
abbrev pub cell_of : List (ℕ × CellValue) → CommitValue → ℕ → CellState
cell_of cells start i = state_at cells (cell_place_of start.plans i)

-- the state of a cell once its plan is published
abbrev pub published_of : List (ℕ × CellValue) → CommitValue → ℕ → CellState
published_of cells start i = published (cell_of cells start i)

-- a commit has published the entries of its first `j` plans
pub record PublishesTo (j : ℕ) (cells : List (ℕ × CellValue)) (start : CommitValue) (now : List (ℕ × CellValue)) (commit : CommitValue)
    : Type 0 where
  -- the cells of these plans are published, and the other cells stay
  pub changed : IsChangedTo j start.plans (published_of cells start) cells now
  -- the other plans are as they were
  pub plans : ArePlansFrom j start.plans commit.plans
  -- the count is that after `j` publishes; all else of the commit stays, except the plans
  pub is : commit ≡ (let c : CommitValue = record start { plans = commit.plans; published = j } in c)
  -- each of these cells keeps its room to append, and has none for killed parts
  pub kept : (i : ℕ) → i < j → KeepsAppendRoom (value_at cells (cell_place_of start.plans i)).room (value_at now (cell_place_of start.plans i)).room
  -- each of these plans notes the parts that its publish killed
  pub killed : (i : ℕ) → i < j → (plan_at commit.plans i).killed ≡ killed_by (cell_of cells start i)
  -- each publish killed what was told before
  pub told : (i : ℕ) → i < j → KillsAsTold (cell_of cells start i)

-- ---- retiring

-- the state of the cell of a plan, once its killed parts are retired
abbrev pub settled_of : List ℕ → List (ℕ × CellValue) → CommitValue → ℕ → CellState
settled_of living cells start i = settled_cell living start.stamp.epoch (noted_killing cells start i)

-- the room of a cell once its killed parts are retired
abbrev pub room_of : List ℕ → List (ℕ × CellValue) → CommitValue → ℕ → CellRoom
room_of living cells start i =
    settled_room living start.stamp.epoch (noted_killing cells start i) (value_at cells (cell_place_of start.plans i)).room

-- no inode among the first is gone
abbrev pub NoneGone : ℕ → List (ℕ × CellValue) → CommitValue → Type 0
NoneGone j cells start = (i : ℕ) → i < j → is_gone (log_of (cell_of cells start i)) ≡ true → ⊥

-- a hand can take the chain and the number of an inode that is gone
pub record IsFree (hand : Hand) : Type 0 where
  -- the hand holds no chain of an erased inode
  pub chain : length hand.chain ≡ 0
  -- the hand holds no inode number
  pub number : hand.ino ≡ None

-- a commit has retired the killed parts of its first `j` plans
pub record RetiresTo (j : ℕ) (cells : List (ℕ × CellValue)) (start : CommitValue) (shelf : BookValue) (now : List (ℕ × CellValue))
    (commit : CommitValue) (book : BookValue) : Type 0 where
  -- the cells of these plans are settled, and the other cells stay
  pub changed : IsChangedTo j start.plans (settled_of (ids shelf.state.snaps) cells start) cells now
  -- the other plans are as they were
  pub plans : ArePlansFrom j start.plans commit.plans
  -- hand and count are those after `j` retirements; all else stays, except the plans
  pub is : commit ≡ (let c : CommitValue = record start {
    plans = commit.plans;
    hand = hand_after_killings (ids shelf.state.snaps) start.stamp.epoch (noted_killing cells start) j start.hand;
    retired = j;
  } in c)
  -- the manifests have the records of these plans, and all else of the book stays
  pub state : book.state ≡ (let b : BookState = record shelf.state {
    manifests = manifests_after (ids shelf.state.snaps) start.stamp.epoch (noted_killing cells start) j shelf.state.manifests;
  } in b)
  -- each of these cells has the room that its retirement left
  pub rooms : (i : ℕ) → i < j → (value_at now (cell_place_of start.plans i)).room ≡ room_of (ids shelf.state.snaps) cells start i
  -- each killed part of these plans took room for one record at most
  pub records : shelf.room ≤ book.room + sum_by killed_count (take j start.plans)
  -- each killed part of these plans took room for one data block at most
  pub freed : start.hand.data.room ≤ commit.hand.data.room + sum_by killed_count (take j start.plans)
  -- the hand's data blocks are of the same size as before
  pub size : commit.hand.data.size ≡ start.hand.data.size
  -- a hand that is free for a gone inode stays so where none of these inodes is gone
  pub free : IsFree start.hand → NoneGone j cells start → IsFree commit.hand
