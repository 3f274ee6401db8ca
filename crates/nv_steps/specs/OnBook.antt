-- Turns on the book while nobody commits: those of calls on snapshots.
use Rattle.std.specs.Prelude.{◌≡◌, ℕ, zero, suc, Bool, true, false, List, [], ◌∷◌, None, Result, Ok, Err, max}
use Rattle.nv_base.specs.declared.fault.Fault.{Fault}
use Rattle.nv_base.specs.declared.geometry.GeometryNumbers.{GeometryNumbers}
use Rattle.nv_book.specs.Book.{BookState}
use Rattle.nv_book.specs.declared.record.Record.{Record}
use Rattle.nv_calls.specs.declared.answer.Answer.{Answer}
use Rattle.nv_calls.specs.declared.answer.Answer.TheVariants as answers
use Rattle.nv_entry.specs.declared.tree.TreeNode.{TreeNode}
use Rattle.nv_machine.specs.SnapshotOrCleaner.{showing_on}
use Rattle.nv_machine.specs.World.{Draining, HandState, LockPicked, Running, Showing, SnapshotOrCleaner, SnapshotOrCleanerStep, go_to}
use Rattle.nv_steps.specs.Parts.{BookIs, HolderIs}
use Rattle.nv_steps.specs.declared.picks.Picked.{Picked}
use Rattle.nv_steps.specs.declared.picks.Picked.TheVariants as pick
use Rattle.nv_steps.specs.Turns.{IsEnd, IsMove, Made}

-- ---- calls

-- a call makes this step next, and has locked nothing
pub record IsBefore (step : SnapshotOrCleanerStep) (r : Running) : Type 0 where
  -- the next step
  pub next : r.next ≡ SnapshotOrCleaner step
  -- the slots that it locks
  pub slots : r.slots ≡ []

-- a show behind its pin: the first visit is next, or the unpin where there is none
abbrev pub once_pinned : ℕ → Running → Showing → Running
once_pinned snapshot r showing = go_to (SnapshotOrCleaner (showing_on snapshot showing)) r

-- a drain that has released so many, and may release so many more behind the next one
abbrev pub drain_of : ℕ → ℕ → Draining
drain_of released left = record { released = released; left = left }

-- a drain behind a pick: the inode of the record is the slot that it locks next
abbrev pub once_picked : Draining → Running → Record → Running
once_picked draining r picked =
    record r { slots = picked.ino ∷ []; next = SnapshotOrCleaner (LockPicked draining picked) }

-- what a show is answered: the nodes that it has seen, or for what it is refused
abbrev pub answer_of_show : Result (List TreeNode) Fault → Result Answer Fault
answer_of_show (Ok seen) = Ok (answers.Tree seen)
answer_of_show (Err fault) = Err fault

-- ---- turns

-- a turn that found the book, with the commit lock free, and left the book so
abbrev pub on_book : Running → HandState → Bool → BookState → BookState → Made
on_book r h granted found left = record {
  running = r;
  hand = h;
  granted = granted;
  found = BookIs found ∷ HolderIs None ∷ [];
  left = BookIs left ∷ [];
}

-- a step that gives what its call goes on with, or refuses it, is the machine's turn
abbrev pub IsTurnTo : {T : Type 0} → GeometryNumbers → ℕ → Made → (T → Running) → Result T Fault → HandState → Type 0
IsTurnTo numbers actor t after (Ok given) h = IsMove numbers actor t h (after given)
IsTurnTo numbers actor t after (Err fault) h = IsEnd numbers actor t (Err fault) h

-- a pick is the machine's turn
abbrev pub IsPickTurn : GeometryNumbers → ℕ → Made → Draining → Picked → HandState → Type 0
IsPickTurn numbers actor t draining (pick.First first) h = IsMove numbers actor t h (once_picked draining t.running first)
IsPickTurn numbers actor t draining (pick.Ends told) h = IsEnd numbers actor t told h

-- whether the memory was there that a pick asked for: nothing else refuses one
abbrev pub was_granted : Picked → Bool
was_granted (pick.Ends (Err fault)) = false
was_granted other = true

-- the room for blocks that a pick makes: at the first one for a block
abbrev pub room_for : ℕ → ℕ → ℕ
room_for zero room = max room 1
room_for (suc released) room = room

-- the room behind a pick
abbrev pub room_behind : ℕ → Bool → ℕ → ℕ
room_behind released true room = room_for released room
room_behind released false room = room
