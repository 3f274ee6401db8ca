-- What a whole commit makes of its cells, of the manifests and of the hand, by what stood when it began.
use Rattle.std.specs.Prelude.{◌≡◌, ℕ, zero, suc, ◌<◌, if◌then◌else◌, nat_lt, List, [], length, None, take}
use Rattle.std.specs.List.{sum_by}
use Rattle.nv_alloc.specs.declared.hand.Hand.{Hand}
use Rattle.nv_book.specs.declared.manifest.Manifest.{Manifest}
use Rattle.nv_cell.specs.Cell.{CellRoom, CellState, CellValue, KeepsAppendRoom, killed_by, published}
use Rattle.nv_cell.specs.declared.killed.KilledPart.{KilledPart}
use Rattle.nv_journal.specs.declared.old_tail.OldTail.{OldTail}
use Rattle.nv_log.specs.Chain.{pages_for}
use Rattle.nv_calls.specs.Cells.{ino_at, state_at, value_at}
use Rattle.nv_calls.specs.Commit.{CommitValue, ReceiptValue, receipt_of}
use Rattle.nv_calls.specs.Ready.{CellCommitValue, old_tails, plan_at}
use Rattle.nv_calls.specs.Retiring.{erased, hand_retired, retired, room_erased, with_records}
use Rattle.nv_calls.specs.Steps.{numbers_in, with_plan, without_front}

-- the place of the j-th plan's cell among the cells of the call
abbrev pub cell_place_of : List CellCommitValue → ℕ → ℕ
cell_place_of plans j = (plan_at plans j).at

-- no plan is of the cell at a place
abbrev pub IsUnplanned : List CellCommitValue → ℕ → Type 0
IsUnplanned plans k = (j : ℕ) → j < length plans → cell_place_of plans j ≡ k → ⊥

-- the planned cells come to new states, and the other cells stay
pub record ChangesPlanned (plans : List CellCommitValue) (becomes : ℕ → CellState) (old new : List (ℕ × CellValue)) : Type 0 where
  -- there are as many cells as before
  pub count : length new ≡ length old
  -- each place has the inode number that it had
  pub numbers : (k : ℕ) → ino_at new k ≡ ino_at old k
  -- the cell of the j-th plan has the state that `becomes` gives for j
  pub planned : (j : ℕ) → j < length plans → state_at new (cell_place_of plans j) ≡ becomes j
  -- each cell without a plan is as it was, room and all
  pub others : (k : ℕ) → IsUnplanned plans k → value_at new k ≡ value_at old k

-- plans of the same cells
pub record HaveSamePlaces (old new : List CellCommitValue) : Type 0 where
  -- there are as many plans as before
  pub count : length new ≡ length old
  -- the j-th plan is of the cell of the j-th one before
  pub places : (j : ℕ) → cell_place_of new j ≡ cell_place_of old j

-- ---- appending

-- how many entries a plan has
abbrev pub entry_count : CellCommitValue → ℕ
entry_count plan = length plan.items

-- how many data blocks a plan has
abbrev pub block_count : CellCommitValue → ℕ
block_count plan = length (numbers_in plan.items)

-- how many more log pages the entries of a plan need in its cell
abbrev pub page_count : List (ℕ × CellValue) → CellCommitValue → ℕ
page_count cells plan = pages_for (state_at cells plan.at).chain (length plan.items)

-- how many entries stand in the plans before the j-th: the place of its first one in the commit
abbrev pub place_before : List CellCommitValue → ℕ → ℕ
place_before plans j = sum_by entry_count (take j plans)

-- the hand before the j-th plan is appended: without what the plans before it took
abbrev pub hand_before : List (ℕ × CellValue) → CommitValue → ℕ → Hand
hand_before cells commit j = record commit.hand {
  «data» = without_front (sum_by block_count (take j commit.plans)) commit.hand.data;
  pages = without_front (sum_by (page_count cells) (take j commit.plans)) commit.hand.pages;
}

-- the cell of the j-th plan with its entries appended
abbrev pub grown : List (ℕ × CellValue) → CommitValue → ℕ → CellValue
grown cells commit j =
    with_plan commit.stamp (place_before commit.plans j) (plan_at commit.plans j).items (hand_before cells commit j)
    (value_at cells (cell_place_of commit.plans j))

-- ---- publishing

-- what the journal notes: the old tails of all planned cells, where they are two or more
abbrev pub journaled : List (ℕ × CellValue) → List CellCommitValue → List OldTail
journaled cells plans = if nat_lt 1 (length plans) then old_tails cells plans else []

-- the cell of each plan has that room to append, and none for killed parts
abbrev pub HaveAppendRoom : List CellCommitValue → (ℕ → CellRoom) → List (ℕ × CellValue) → Type 0
HaveAppendRoom plans room cells = (j : ℕ) → j < length plans → KeepsAppendRoom (room j) (value_at cells (cell_place_of plans j)).room

-- ---- retiring

-- what the publish of one inode's entries kills
pub record Killing : Type 0 where
  -- the number of the inode
  pub ino : ℕ
  -- the parts that are killed
  pub parts : List KilledPart
  -- the cell of the inode, with its entries published
  pub cell : CellState

-- how many parts a plan notes as killed
abbrev pub killed_count : CellCommitValue → ℕ
killed_count plan = length plan.killed

-- what the j-th plan notes as killed, with the cell as it stands
abbrev pub noted_killing : List (ℕ × CellValue) → CommitValue → ℕ → Killing
noted_killing cells commit j = record {
  ino = ino_at cells (cell_place_of commit.plans j);
  parts = (plan_at commit.plans j).killed;
  cell = state_at cells (cell_place_of commit.plans j);
}

-- what is killed once the entries of the j-th plan are published
abbrev pub killing : List (ℕ × CellValue) → CommitValue → ℕ → Killing
killing cells commit j = record {
  ino = ino_at cells (cell_place_of commit.plans j);
  parts = killed_by (grown cells commit j).state;
  cell = published (grown cells commit j).state;
}

-- the cell once its killed parts are retired, emptied where its inode is gone and keeps nothing
abbrev pub settled_cell : List ℕ → ℕ → Killing → CellState
settled_cell living epoch k = erased (retired living k.ino epoch k.parts k.cell)

-- the room of that cell, by the room that it had
abbrev pub settled_room : List ℕ → ℕ → Killing → CellRoom → CellRoom
settled_room living epoch k room = room_erased (retired living k.ino epoch k.parts k.cell) room

-- the manifests once the first killings were retired
abbrev pub manifests_after : List ℕ → ℕ → (ℕ → Killing) → ℕ → List Manifest → List Manifest
manifests_after living epoch killings zero manifests = manifests
manifests_after living epoch killings (suc j) manifests =
    with_records living (killings j).ino epoch (killings j).parts (manifests_after living epoch killings j manifests)

-- the hand once the first killings were retired
abbrev pub hand_after_killings : List ℕ → ℕ → (ℕ → Killing) → ℕ → Hand → Hand
hand_after_killings living epoch killings zero hand = hand
hand_after_killings living epoch killings (suc j) hand =
    hand_retired living (killings j).ino epoch (killings j).parts (killings j).cell (hand_after_killings living epoch killings j hand)

-- ---- a whole commit

-- the cell of the j-th plan after the commit: its entries are appended and published, and what
-- they kill is retired
abbrev pub committed : List ℕ → List (ℕ × CellValue) → CommitValue → ℕ → CellState
committed living cells commit j = settled_cell living commit.stamp.epoch (killing cells commit j)

-- the room of that cell: what its appends left, and none to append where it was erased
abbrev pub room_left : List ℕ → List (ℕ × CellValue) → CommitValue → ℕ → CellRoom
room_left living cells commit j = settled_room living commit.stamp.epoch (killing cells commit j) (grown cells commit j).room

-- the receipt of a commit that begins over these cells
abbrev pub receipt_by : List (ℕ × CellValue) → CommitValue → ReceiptValue
receipt_by cells commit = record (receipt_of commit) { noted = journaled cells commit.plans }

-- the hand after a commit: what appending left, except a new inode's number, and what went free
abbrev pub hand_left : List ℕ → List (ℕ × CellValue) → CommitValue → Hand
hand_left living cells commit =
    hand_after_killings living commit.stamp.epoch (killing cells commit) (length commit.plans)
    (record (hand_before cells commit (length commit.plans)) { ino = None })
