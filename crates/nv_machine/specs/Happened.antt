-- What events add to the book's history, and what an open journal notes.
use Rattle.std.specs.Prelude.{◌≡◌, ◌≢◌, ℕ, ◌+◌, ◌++◌, Bool, true, false, is_some, nat_lt, List, [], ◌∷◌, length, slice_index_or}
use Rattle.nv_alloc.specs.Numbers.{has}
use Rattle.nv_book.specs.History.{Account, noted}
use Rattle.nv_book.specs.declared.event.Event.{Event as BookEvent}
use Rattle.nv_book.specs.declared.event.Event.TheVariants.{Committed, Dropped, Made}
use Rattle.nv_book.specs.declared.history.TheConstants.{LATEST}
use Rattle.nv_journal.specs.Journal.{tail_noted}
use Rattle.nv_journal.specs.declared.old_tail.OldTail.{OldTail}
use Rattle.nv_machine.specs.PlainRun.{Commits, PlainChange, Nothing, Numbers, Maintains, actor_of, plain_change_of}
use Rattle.nv_machine.specs.Step.{step}
use Rattle.nv_machine.specs.World.{Close, Drop, Event, Make, Next, Publish, Shared, SnapshotOrCleanerStep, World}

-- ---- the history

-- what a step adds to the history
abbrev pub added_on : SnapshotOrCleanerStep → Shared → List BookEvent
added_on Make s = Made s.book.snaps.epoch ∷ []
added_on (Drop snapshot) s = Dropped snapshot ∷ []
added_on other s = []

-- what the step of an actor adds to the history: a commit that it enters has the next number and
-- the present epoch
abbrev pub added : PlainChange → ℕ → Shared → List BookEvent
added Nothing actor s = []
added Numbers actor s = Committed actor (s.book.commit + 1) s.book.snaps.epoch ∷ []
added Commits actor s = []
added (Maintains step) actor s = added_on step s

-- WHAT HAPPENED, the earliest first: each `enter` that goes on into its commit, with its actor,
-- and each snapshot that was made or dropped
abbrev pub happened : World → List Event → List BookEvent
happened w [] = []
happened w (e ∷ events) = added (plain_change_of w e) (actor_of e) w.shared ++ happened (step w e).world events

-- a history with several events more, of which the latest are kept one by one
abbrev pub all_noted : Account → List BookEvent → Account
all_noted a [] = a
all_noted a (e ∷ es) = all_noted (noted LATEST a e) es

-- ---- journals

-- what the journal of a CPU has noted
abbrev pub journal_at : Shared → ℕ → List OldTail
journal_at s cpu = slice_index_or s.book.journals cpu []

-- a call has opened its journal, and not yet closed it: that of a commit of two inodes or more
abbrev pub is_journaled : Next → List ℕ → Bool
is_journaled (Publish place) written = nat_lt 1 (length written)
is_journaled Close written = true
is_journaled other written = false

-- THE OPEN JOURNAL is that of this CPU
pub record IsOpenAt (s : Shared) (cpu : ℕ) (written : List ℕ) : Type 0 where
  -- it has noted a tail for exactly these slots
  pub own : (ino : ℕ) → is_some (tail_noted (journal_at s cpu) ino) ≡ has written ino
  -- no other journal has noted anything
  pub others : (other : ℕ) → other ≢ cpu → journal_at s other ≡ []
