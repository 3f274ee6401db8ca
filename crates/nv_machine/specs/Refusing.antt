-- What a call that is not to be answered leaves as it is.
use Rattle.std.specs.Prelude.{◌≡◌, true, Ok, Err}
use Rattle.nv_book.specs.Book.{BookState, after_unpin_snapshot}
use Rattle.nv_machine.specs.Hands.{is_going_on}
use Rattle.nv_machine.specs.World.{Answers, Cleans, Drains, Ending, Ends, Moves, Next, BoundAnew, Refuses, Shared, SnapshotOrCleaner, Turn, Unpin, Waits}

-- the call is to be refused, or its names are looked up again
abbrev pub IsUnanswered : Ending → Type 0
IsUnanswered Answers = ⊥
IsUnanswered (Refuses fault) = Unit {0}
IsUnanswered BoundAnew = Unit {0}
IsUnanswered (Drains draining) = ⊥
IsUnanswered (Cleans cleaned) = ⊥

-- the book as it was, except that a show which is refused takes its pin off
abbrev pub book_left : Next → BookState → BookState
book_left (SnapshotOrCleaner (Unpin snapshot seen)) b = after_unpin_snapshot snapshot b
book_left other b = b

-- the book with its number, epoch, journals and records is as it was, and so are all cells
abbrev pub SameBooks : Next → Shared → Shared → Type 0
SameBooks next s t = (t.book ≡ book_left next s.book) × (t.cells ≡ s.cells)

-- a step after which its call is not to be answered, or that refuses it, leaves book and cells as
-- they were
abbrev pub LeavesBooks : Next → Shared → Turn → Type 0
LeavesBooks next s (Moves t h r) = IsUnanswered r.ending → SameBooks next s t
LeavesBooks next s Waits = Unit {0}
LeavesBooks next s (Ends (Ok found) t h) = Unit {0}
LeavesBooks next s (Ends (Err fault) t h) = SameBooks next s t

-- a call on snapshots is to be answered up to its last step, except a refused show, which has its
-- pin to take off
abbrev pub GoesOn : Next → Ending → Type 0
GoesOn (SnapshotOrCleaner step) e = is_going_on step ≡ true → e ≡ Answers
GoesOn other e = Unit {0}
