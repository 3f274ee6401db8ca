-- The steps of calls on snapshots, one function a kind, and with those of cleaners in all. What decides a step is an argument.
pub use Rattle.nv_reader.specs.Showing.{seen_on, visited}
use Rattle.std.specs.Prelude.{ℕ, zero, suc, ◌+◌, ◌==◌, ◌++◌, ◌||◌, Bool, true, false, if◌then◌else◌, nat_le, not, List, [], ◌∷◌, length, Option, Some, None, Result, Ok, Err}
use Rattle.nv_base.specs.declared.fault.Fault.{Fault}
use Rattle.nv_base.specs.declared.fault.Fault.TheVariants.{EpochLimit, NoSnapshot, Pinned, TooManySnapshots}
use Rattle.nv_base.specs.Memory.{out_of_memory}
use Rattle.nv_base.specs.declared.limits.TheConstants.{NUMBER}
use Rattle.nv_base.specs.declared.numbers.Handle.{Handle}
use Rattle.nv_book.specs.Book.{after_drop_snapshot, after_make_snapshot, after_pick, after_pin_snapshot, after_unpin_snapshot}
use Rattle.nv_book.specs.declared.record.Record.{Record}
use Rattle.nv_calls.specs.Refusals.{Check as Tests}
use Rattle.nv_calls.specs.Retiring.{erased, released, released_blocks}
use Rattle.nv_calls.specs.declared.answer.Answer.{Answer}
use Rattle.nv_calls.specs.declared.answer.Answer.TheVariants as answers
use Rattle.nv_entry.specs.declared.node.NodeCopy.{NodeCopy}
use Rattle.nv_entry.specs.declared.tree.TreeNode.{TreeNode}
use Rattle.nv_epoch.specs.SnapList.{Snapshots as Living, pins_of}
use Rattle.nv_reader.specs.Nodes.{copy_in}
use Rattle.nv_reader.specs.Showing.{new_showing}
use Rattle.nv_reader.specs.Walk.{Visit}
use Rattle.nv_machine.specs.Cleaning.{compact_turn, plan_cleaning_turn, lock_cleaned_turn, take_fresh_turn, unlink_turn}
use Rattle.nv_machine.specs.Kinds.{asked_list, end_turn, grown, refuse, with_erased}
use Rattle.nv_machine.specs.Reads.{bytes_among}
use Rattle.nv_machine.specs.World.{Compact, Draining, Drains, Drop, Ending, Ends, Fresh, HandState, PlanCleaning, LockCleaned, LockPicked, Make, Moves, Pick, Pin, Refuses, Release, Running, Shared, Show, Showing, SnapshotOrCleanerStep, SnapshotOrCleaner, Turn, Unlink, Unpin, Waits, cell_at, go_to, owner_at, with_book, with_cell, with_owner}

-- a step that needs the book waits while a commit is under way
abbrev pub if_free : Option ℕ → Turn → Turn
if_free (Some other) turn = Waits
if_free None turn = turn

-- ---- make: the current epoch becomes a snapshot

-- what a `snap` is refused for
abbrev pub make_tests : Living → Tests
make_tests snaps =
    if nat_le NUMBER snaps.epoch then Err EpochLimit
    else if nat_le snaps.most (length snaps.living) then Err TooManySnapshots else Ok tt

-- a make: a snapshot of the epoch, and the next epoch, or the call is refused
abbrev pub make_turn : Tests → Shared → HandState → Running → Turn
make_turn (Err fault) s h r = refuse fault s h r
make_turn (Ok passed) s h r = Ends (Ok (answers.Snapshot s.book.snaps.epoch)) (with_book (after_make_snapshot s.book) s) h

-- ---- drop: a snapshot that lives and has no pin, by its pins

-- what a `drop` is refused for, by the pins
abbrev pub drop_tests : Option ℕ → Tests
drop_tests None = Err NoSnapshot
drop_tests (Some zero) = Ok tt
drop_tests (Some (suc pins)) = Err Pinned

-- a drop: the snapshot lives no more, or the call is refused
abbrev pub drop_turn : ℕ → Tests → Shared → HandState → Running → Turn
drop_turn snapshot (Err fault) s h r = refuse fault s h r
drop_turn snapshot (Ok passed) s h r = Ends (Ok answers.Nothing) (with_book (after_drop_snapshot snapshot s.book) s) h

-- ---- pin, show and unpin

-- a show before its first visit
abbrev pub first_showing : Shared → Showing
first_showing s = new_showing (length s.cells)

-- the next visit of a show, or its end where no visit is left
abbrev pub show_or_unpin : ℕ → List Visit → ℕ → Showing → SnapshotOrCleanerStep
show_or_unpin zero visits snapshot showing = Unpin snapshot showing.seen
show_or_unpin (suc left) [] snapshot showing = Unpin snapshot showing.seen
show_or_unpin (suc left) (visit ∷ visits) snapshot showing = Show snapshot showing

-- the step that comes next in a show
abbrev pub showing_on : ℕ → Showing → SnapshotOrCleanerStep
showing_on snapshot showing = show_or_unpin showing.left showing.visits snapshot showing

-- a pin: one more pin, and the walk begins, or the call is refused
abbrev pub pin_turn : ℕ → Option ℕ → Shared → HandState → Running → Turn
pin_turn snapshot None s h r = refuse NoSnapshot s h r
pin_turn snapshot (Some pins) s h r =
    Moves (with_book (after_pin_snapshot snapshot s.book) s) h (go_to (SnapshotOrCleaner (showing_on snapshot (first_showing s))) r)

-- the node under a handle at the end of an epoch, by the log of its cell
abbrev pub copies_at : Shared → ℕ → Handle → Option NodeCopy
copies_at s epoch handle = copy_in (bytes_among (cell_at s handle.ino).blocks) (Some (cell_at s handle.ino)) epoch handle

-- a show reads one cell; where memory is refused it goes on to take its pin off
abbrev pub show_turn : Option ℕ → Bool → Option NodeCopy → ℕ → Showing → Shared → HandState → Running → Turn
show_turn (Some other) granted found snapshot showing s h r = Waits
show_turn None true found snapshot showing s h r =
    Moves s h (go_to (SnapshotOrCleaner (showing_on snapshot (seen_on found showing))) r)
show_turn None false found snapshot showing s h r =
    Moves s h (record r { ending = Refuses out_of_memory; next = SnapshotOrCleaner (Unpin snapshot []) })

-- what a show is answered: the tree, or its fault
abbrev pub shown_by : Ending → List TreeNode → Result Answer Fault
shown_by (Refuses fault) seen = Err fault
shown_by other seen = Ok (answers.Tree seen)

-- an unpin: one pin less, and the call ends
abbrev pub unpin_turn : ℕ → List TreeNode → Shared → HandState → Running → Turn
unpin_turn snapshot seen s h r = Ends (shown_by r.ending seen) (with_book (after_unpin_snapshot snapshot s.book) s) h

-- ---- pick: the first deferred record; where there is none, a drain is over

-- a drain has picked the first deferred record, or ends where there is none
abbrev pub picked_turn : List Record → Draining → Shared → HandState → Running → Turn
picked_turn [] draining s h r = Ends (Ok (answers.Count draining.released)) s h
picked_turn (picked ∷ deferred) draining s h r =
    Moves (with_book (after_pick s.book) s) h (record r { slots = picked.ino ∷ []; next = SnapshotOrCleaner (LockPicked draining picked) })

-- the first pick of a drain makes room in the hand for a block
abbrev pub is_first : Draining → Bool
is_first draining = draining.released == 0

-- a pick: room is made at the first one
abbrev pub pick_turn : Draining → Bool → Shared → HandState → Running → Turn
pick_turn draining granted s h r = grown (granted || not (is_first draining)) (picked_turn s.book.deferred draining s h r) s h r

-- ---- lock the inode of the picked record

-- a drain locks the inode of its record, or waits
abbrev pub lock_picked_turn : Option ℕ → ℕ → Draining → Record → Shared → HandState → Running → Turn
lock_picked_turn (Some other) actor draining picked s h r = Waits
lock_picked_turn None actor draining picked s h r =
    Moves (with_owner picked.ino (Some actor) s) h (go_to (SnapshotOrCleaner (Release draining picked)) r)

-- ---- release: the part goes out, and its block goes to the hand; a gone inode that keeps nothing is erased

-- the hand with the block that a release puts out
abbrev pub with_released : Record → Shared → HandState → HandState
with_released picked s h = record h { blocks = h.blocks ++ released_blocks picked (cell_at s picked.ino) }

-- a drain that has released one record more
abbrev pub one_more : Draining → Draining
one_more draining = record draining { released = draining.released + 1 }

-- a release: the part is out, and the inode may be erased
abbrev pub release_turn : Draining → Record → Shared → HandState → Running → Turn
release_turn draining picked s h r =
    end_turn r.slots (Drains (one_more draining)) (with_cell picked.ino (erased (released picked (cell_at s picked.ino))) s)
    (with_erased picked.ino (released picked (cell_at s picked.ino)) (with_released picked s h)) r

-- ---- THE STEP of a call on snapshots, or of a cleaner

-- what a step of a call on snapshots, or of a cleaner, makes
abbrev pub snapshot_or_cleaner_turn : SnapshotOrCleanerStep → ℕ → Bool → Shared → HandState → Running → Turn
snapshot_or_cleaner_turn Make actor granted s h r = if_free s.holder (make_turn (make_tests s.book.snaps) s h r)
snapshot_or_cleaner_turn (Drop snapshot) actor granted s h r =
    if_free s.holder (drop_turn snapshot (drop_tests (pins_of s.book.snaps snapshot)) s h r)
snapshot_or_cleaner_turn (Pin snapshot) actor granted s h r = if_free s.holder (pin_turn snapshot (pins_of s.book.snaps snapshot) s h r)
snapshot_or_cleaner_turn (Show snapshot showing) actor granted s h r =
    show_turn (owner_at s (visited showing.visits).ino) granted (copies_at s snapshot (visited showing.visits)) snapshot showing s h r
snapshot_or_cleaner_turn (Unpin snapshot seen) actor granted s h r = if_free s.holder (unpin_turn snapshot seen s h r)
snapshot_or_cleaner_turn (Pick draining) actor granted s h r = if_free s.holder (pick_turn draining granted s h r)
snapshot_or_cleaner_turn (LockPicked draining picked) actor granted s h r =
    lock_picked_turn (owner_at s picked.ino) actor draining picked s h r
snapshot_or_cleaner_turn (Release draining picked) actor granted s h r = release_turn draining picked s h r
snapshot_or_cleaner_turn (LockCleaned manner ino) actor granted s h r = lock_cleaned_turn (owner_at s ino) actor manner ino s h r
snapshot_or_cleaner_turn (PlanCleaning manner slot) actor granted s h r = plan_cleaning_turn manner slot granted s h r
snapshot_or_cleaner_turn (Fresh ino asked wanted) actor granted s h r =
    take_fresh_turn (asked_list (length s.lists) actor asked) ino asked wanted s h r
snapshot_or_cleaner_turn (Unlink ino) actor granted s h r = unlink_turn ino s h r
snapshot_or_cleaner_turn (Compact ino) actor granted s h r = compact_turn ino s h r
