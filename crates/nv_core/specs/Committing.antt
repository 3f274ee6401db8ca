-- How far a commit has come over the cells of its call, by what stood when it was entered.
use Rattle.std.specs.Prelude.{◌≡◌, ℕ, ◌⊎◌, if◌then◌else◌, nat_lt, List, length}
use Rattle.nv_book.specs.Book.{BookValue, with_journal}
use Rattle.nv_calls.specs.CanCommit.{CanCommit}
use Rattle.nv_calls.specs.Commit.{CommitValue, after_close, after_open, begun, stamp_of}
use Rattle.nv_calls.specs.PlanByPlan.{AppendsTo, PublishesTo, RetiresTo}
use Rattle.nv_calls.specs.Ready.{ReadyValue, old_tails}
use Rattle.nv_cell.specs.Cell.{CellValue}
use Rattle.nv_core.specs.GhostCalls.{IsOnItsWay}

-- what stood when a commit was entered
pub record Begin : Type 0 where
  -- the cells of its call, each with its slot
  pub cells : List (ℕ × CellValue)
  -- the book, with the commit's number and its room for records
  pub shelf : BookValue
  -- what the call had made ready
  pub ready : ReadyValue

-- a commit at its beginning
abbrev pub first_of : Begin → CommitValue
first_of b = begun (stamp_of b.shelf.state) b.ready

-- a commit once all entries are appended, with the journal of a CPU open where they are of two
-- inodes or more
abbrev pub noted_by : ℕ → List (ℕ × CellValue) → CommitValue → CommitValue
noted_by cpu cells commit = if nat_lt 1 (length commit.plans) then after_open cpu (old_tails cells commit.plans) commit else commit

-- the book once the journal was opened, where several cells are written
abbrev pub shelf_by : ℕ → List (ℕ × CellValue) → CommitValue → BookValue → BookValue
shelf_by cpu cells commit shelf =
    if nat_lt 1 (length commit.plans) then record shelf { state = with_journal cpu (old_tails cells commit.plans) shelf.state } else shelf

-- a commit appends its entries
pub record IsAppending (b : Begin) (now : List (ℕ × CellValue)) (book : BookValue) (commit : CommitValue) : Type 0 where
  -- those of the first inodes are appended, and the other cells are as they were at `enter`
  pub to : AppendsTo commit.appended b.cells (first_of b) now commit
  -- the book is as it was at `enter`
  pub book_is : book ≡ b.shelf

-- a commit publishes its entries, with the journal open where that is due
pub record IsPublishing (b : Begin) (cpu : ℕ) (now : List (ℕ × CellValue)) (book : BookValue) (commit : CommitValue) : Type 0 where
  -- the cells once all entries were appended
  pub full : List (ℕ × CellValue)
  -- the commit of then
  pub appended : CommitValue
  -- all entries were appended, from what stood at `enter` on
  pub all : AppendsTo (length b.ready.plans) b.cells (first_of b) full appended
  -- those of the first inodes are published since
  pub to : PublishesTo commit.published full (noted_by cpu full appended) now commit
  -- the book is as it was at `enter`, except that the journal notes the old tails
  pub book_is : book ≡ shelf_by cpu full appended b.shelf

-- a commit retires what it killed, with the journal closed
pub record IsRetiring (b : Begin) (cpu : ℕ) (now : List (ℕ × CellValue)) (book : BookValue) (commit : CommitValue) : Type 0 where
  -- the cells once all entries were appended
  pub full : List (ℕ × CellValue)
  -- the commit of then
  pub appended : CommitValue
  -- all entries were appended, from what stood at `enter` on
  pub all : AppendsTo (length b.ready.plans) b.cells (first_of b) full appended
  -- the cells once all entries were published
  pub over : List (ℕ × CellValue)
  -- the commit of then
  pub published : CommitValue
  -- all entries were published
  pub done : PublishesTo (length b.ready.plans) full (noted_by cpu full appended) over published
  -- what the first inodes had killed is retired since, in cells, hand and book
  pub to : RetiresTo commit.retired over (after_close published) b.shelf now commit book

-- A COMMIT IS ON ITS WAY over the cells of its call, with that CPU's journal
pub record IsCommitting (cpu : ℕ) (now : List (ℕ × CellValue)) (book : BookValue) (commit : CommitValue) : Type 0 where
  -- what stood when it was entered
  pub begin : Begin
  -- what was ready then could be committed
  pub can : CanCommit begin.cells begin.shelf cpu begin.ready
  -- no inode is published or retired before its turn
  pub way : IsOnItsWay commit
  -- it appends, publishes or retires
  pub phase : IsAppending begin now book commit ⊎ (IsPublishing begin cpu now book commit ⊎ IsRetiring begin cpu now book commit)
