-- A commit on its way, and what each of its steps leaves of it.
use Rattle.std.specs.Prelude.{◌≡◌, ℕ, ◌+◌, List, [], length, Option, None, Some, slice_get, slice_set, unwrap_or}
use Rattle.std.specs.Option.{IsSomeAnd, option_map}
use Rattle.nv_alloc.specs.declared.hand.Hand.{Hand}
use Rattle.nv_base.specs.declared.numbers.Handle.{Handle}
use Rattle.nv_book.specs.Book.{BookState, with_journal}
use Rattle.nv_journal.specs.declared.old_tail.OldTail.{OldTail}
use Rattle.nv_log.specs.Chain.{ChainState}
use Rattle.nv_cell.specs.Cell.{CellState, CellValue}
use Rattle.nv_cell.specs.declared.killed.KilledPart.{KilledPart}
use Rattle.nv_calls.specs.declared.stamp.Stamp.{Stamp}
use Rattle.nv_calls.specs.declared.update.Update.{Update}
use Rattle.nv_calls.specs.Ready.{CellCommitValue, ReadyValue, old_tail, plan_at}
use Rattle.nv_calls.specs.Retiring.{hand_retired}
use Rattle.nv_calls.specs.Steps.{hand_after}

-- a commit on its way: a call that was ready, and how far its steps have come
pub record CommitValue : Type 0 where
  -- the call
  pub update : Update
  -- the handle of the inode that the call makes, if it makes one
  pub made : Option Handle
  -- what is appended and killed, cell by cell, by rising place of the cells
  pub plans : List CellCommitValue
  -- what the call holds: blocks not yet placed, blocks that went free, and an inode number
  pub hand : Hand
  -- number and epoch of the commit
  pub stamp : Stamp
  -- how many entries are appended
  pub place : ℕ
  -- of how many plans the entries are appended
  pub appended : ℕ
  -- of how many plans the entries are published
  pub published : ℕ
  -- of how many plans the killed parts are retired
  pub retired : ℕ
  -- the CPU whose journal the commit has open, if it has one open
  pub journal : Option ℕ
  -- the old tails that it noted in a journal, which stay here once that is closed
  pub noted : List OldTail

-- number and epoch of a book's latest commit
abbrev pub stamp_of : BookState → Stamp
stamp_of book = record { commit = book.commit; epoch = book.snaps.epoch }

-- the commit before its first step
abbrev pub begun : Stamp → ReadyValue → CommitValue
begun stamp ready = record {
  update = ready.update;
  made = ready.made;
  plans = ready.plans;
  hand = ready.hand;
  stamp = stamp;
  place = 0;
  appended = 0;
  published = 0;
  retired = 0;
  journal = None;
  noted = [];
}

-- the plan that is appended next
abbrev pub to_append : CommitValue → CellCommitValue
to_append commit = plan_at commit.plans commit.appended

-- the plan that is published next
abbrev pub to_publish : CommitValue → CellCommitValue
to_publish commit = plan_at commit.plans commit.published

-- the plan that is retired next
abbrev pub to_retire : CommitValue → CellCommitValue
to_retire commit = plan_at commit.plans commit.retired

-- the commit once the next plan is appended to a log with that chain
abbrev pub after_append : ChainState → CommitValue → CommitValue
after_append chain commit = record commit {
  plans = slice_set commit.plans commit.appended (record (to_append commit) { items = [] });
  hand = hand_after (to_append commit).items chain commit.hand;
  place = commit.place + length (to_append commit).items;
  appended = commit.appended + 1;
}

-- the commit once it has opened the journal of a CPU with these tails
abbrev pub after_open : ℕ → List OldTail → CommitValue → CommitValue
after_open cpu tails commit = record commit { journal = Some cpu; noted = tails }

-- the commit has a journal open, which notes in the book what the commit noted
abbrev pub HasJournal : BookState → CommitValue → Type 0
HasJournal book commit = IsSomeAnd commit.journal (λ cpu. slice_get book.journals cpu ≡ Some commit.noted)

-- the open journal notes the inode that is published next
pub record NotesNext (book : BookState) (cells : List (ℕ × CellValue)) (commit : CommitValue) : Type 0 where
  -- the commit has a journal open, with what it noted
  pub journal : HasJournal book commit
  -- the next note is of the next plan's inode, with the tail from before its publish
  pub tail : slice_get commit.noted commit.published ≡ Some (old_tail cells (to_publish commit))

-- the commit once the next plan is published, which killed these parts
abbrev pub after_publish : List KilledPart → CommitValue → CommitValue
after_publish killed commit = record commit {
  plans = slice_set commit.plans commit.published (record (to_publish commit) { killed = killed });
  published = commit.published + 1;
}

-- the commit once its journal is closed: the number of a new inode leaves the hand here
abbrev pub after_close : CommitValue → CommitValue
after_close commit = record commit { hand = record commit.hand { ino = None }; journal = None }

-- the book once the journal of a commit is closed
abbrev pub without_journal : CommitValue → BookState → BookState
without_journal commit book = unwrap_or (option_map (λ cpu. with_journal cpu [] book) commit.journal) book

-- the commit once the killed parts of the next plan are retired in such a cell
abbrev pub after_retire : List ℕ → ℕ → CellState → CommitValue → CommitValue
after_retire living ino cell commit = record commit {
  plans = slice_set commit.plans commit.retired (record (to_retire commit) { killed = [] });
  hand = hand_retired living ino commit.stamp.epoch (to_retire commit).killed cell commit.hand;
  retired = commit.retired + 1;
}

-- what a commit tells of itself
pub record ReceiptValue : Type 0 where
  -- the call
  pub update : Update
  -- number and epoch of the commit
  pub stamp : Stamp
  -- the handle of the inode that the call made, if it made one
  pub made : Option Handle
  -- the old tails that the journal noted; none where one inode was written
  pub noted : List OldTail

-- the receipt of a commit that is done
abbrev pub receipt_of : CommitValue → ReceiptValue
receipt_of commit = record { update = commit.update; stamp = commit.stamp; made = commit.made; noted = commit.noted }
