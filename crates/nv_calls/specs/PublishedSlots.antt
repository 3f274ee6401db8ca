-- The slots of the cells of a commit, before and after it.
use Rattle.std.specs.Prelude.{◌≡◌, ℕ, ◌<◌, false, List, length, map}
use Rattle.nv_base.specs.declared.numbers.Handle.{Handle}
use Rattle.nv_cell.specs.Cell.{CellValue, published}
use Rattle.nv_book.specs.Book.{BookValue}
use Rattle.nv_calls.specs.declared.plan.InodePlan.{InodePlan}
use Rattle.nv_calls.specs.CanCommit.{CanCommit}
use Rattle.nv_calls.specs.Cells.{ino_at, state_at}
use Rattle.nv_calls.specs.Commit.{CommitValue, begun, stamp_of}
use Rattle.nv_calls.specs.Committed.{ChangesPlanned, IsUnplanned, committed, grown, killing, cell_place_of}
use Rattle.nv_calls.specs.Plan.{planned}
use Rattle.nv_calls.specs.Ready.{CellCommitValue, ReadyValue}
use Rattle.nv_calls.specs.Retiring.{retired}
use Rattle.nv_calls.specs.Slots.{InodeSlot, items_for, place_in, published as published_slots}
use Rattle.nv_cell.specs.Readers.{is_erased}
use Rattle.nv_calls.specs.Views.{slot_of}

-- the cells are those of these slots
abbrev pub AreOfSlots : List (ℕ × CellValue) → (ℕ → InodeSlot) → Type 0
AreOfSlots cells slots = (k : ℕ) → k < length cells → slots (ino_at cells k) ≡ slot_of (state_at cells k)

-- no cell has that number
abbrev pub IsOfNone : List (ℕ × CellValue) → ℕ → Type 0
IsOfNone cells ino = (k : ℕ) → k < length cells → ino_at cells k ≡ ino → ⊥

-- the handle of the inode of the k-th cell
abbrev pub handle_at : List (ℕ × CellValue) → ℕ → Handle
handle_at cells k = record { ino = ino_at cells k; generation = (state_at cells k).generation }

-- the plans of cells as plans of inodes
abbrev pub planned_in : List (ℕ × CellValue) → List CellCommitValue → List InodePlan
planned_in cells plans = map (λ (p : CellCommitValue). planned (handle_at cells p.at) p.items) plans

-- two plans that publish alike
pub record PublishAlike (one other : List InodePlan) : Type 0 where
  -- each inode gets the same items
  pub items : (ino : ℕ) → items_for one ino ≡ items_for other ino
  -- the entries of each inode have the same places in the commit
  pub places : (ino : ℕ) → place_in one ino ≡ place_in other ino

-- the inode slots once the commit is published: those of the plain commit of its plans
abbrev pub slots_after : List (ℕ × CellValue) → CommitValue → (ℕ → InodeSlot) → ℕ → InodeSlot
slots_after cells commit slots = published_slots commit.stamp.commit commit.stamp.epoch (planned_in cells commit.plans) slots

-- a commit makes of the slots of its cells what the plain commit of its plans makes of them
pub record PublishesPlans (cells : List (ℕ × CellValue)) (commit : CommitValue) (slots : ℕ → InodeSlot) : Type 0 where
  -- each planned cell, once it is published, is the slot that the plain commit makes
  pub planned : (j : ℕ) → j < length commit.plans
      → slot_of (published (grown cells commit j).state) ≡ slots_after cells commit slots (ino_at cells (cell_place_of commit.plans j))
  -- each cell without a plan is the slot that the plain commit leaves
  pub others : (k : ℕ) → k < length cells → IsUnplanned commit.plans k
      → slot_of (state_at cells k) ≡ slots_after cells commit slots (ino_at cells k)
  -- the plain commit leaves each slot that no cell has as it was
  pub beyond : (ino : ℕ) → IsOfNone cells ino → slots_after cells commit slots ino ≡ slots ino
  -- after the whole commit each planned cell is that slot still, unless it was erased
  pub kept : (living : List ℕ) (j : ℕ) → j < length commit.plans
      → (let k = killing cells commit j in is_erased (retired living k.ino commit.stamp.epoch k.parts k.cell)) ≡ false
      → slot_of (committed living cells commit j) ≡ slots_after cells commit slots (ino_at cells (cell_place_of commit.plans j))

-- a commit of what was ready took these slots to later ones
pub record IsCommitted (living : List ℕ) (cells : List (ℕ × CellValue)) (book : BookValue) (cpu : ℕ) (ready : ReadyValue)
    (slots : ℕ → InodeSlot) (now : List (ℕ × CellValue)) (later : ℕ → InodeSlot) : Type 0 where
  -- what was ready could be committed
  pub can : CanCommit cells book cpu ready
  -- the cells were those of the slots
  pub before : AreOfSlots cells slots
  -- the planned cells are committed, and the other cells stay
  pub changes : ChangesPlanned ready.plans (committed living cells (begun (stamp_of book.state) ready)) cells now
  -- the cells are those of the later slots
  pub after : AreOfSlots now later
  -- each slot that no cell has is as it was
  pub others : (ino : ℕ) → IsOfNone cells ino → later ino ≡ slots ino
