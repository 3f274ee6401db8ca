-- What each kind makes of what is shared and of the hand, where it does its work.
use Rattle.std.proofs.Common.{List, None, Option, Some, [], drop, length, take, ℕ, ◌++◌, ◌∷◌}
use Rattle.std.specs.Prelude.{◌%◌}
use Rattle.nv_alloc.specs.Numbers.{put_by}
use Rattle.nv_book.specs.Book.{after_drop_snapshot, after_enter, after_make_snapshot, after_pick, after_pin_snapshot, after_unpin_snapshot, with_journal}
use Rattle.nv_book.specs.declared.record.Record.{Record}
use Rattle.nv_calls.specs.Retiring.{erased, released}
use Rattle.nv_cell.specs.Cell.{killed_by, published}
use Rattle.nv_cell.specs.declared.killed.KilledPart.{KilledPart}
use Rattle.nv_machine.specs.Cleaning.{compacted_cell, unlinked, with_fresh, with_old_chain, with_unlinked}
use Rattle.nv_machine.specs.Kinds.{asked_list, blocks_left, entries_for, first_killed, given, less_list, old_tails, retired_book, retired_cell, with_bytes, with_entries, with_erased, with_freed, with_given, with_killed, with_log_pages}
use Rattle.nv_machine.specs.Reads.{pages_needed, slot_at, written_slots}
use Rattle.nv_machine.specs.SnapshotOrCleaner.{with_released}
use Rattle.nv_machine.specs.World.{Append, ReturnNumber, Close, Compact, Drop, Enter, Fresh, Give, HandState, PlanCleaning, Leave, Lock, LockCleaned, LockPicked, Make, Next, Number, Open, Pick, Pin, Publish, Ready, Release, Retire, Running, Shared, Show, SnapshotOrCleanerStep, SnapshotOrCleaner, TakeBlocks, TakeLogPages, Unlink, Unlock, Unpin, cell_at, list_at, with_book, with_cell, with_numbers, with_owner}

-- what is shared, and a hand
pub record Both : Type 0 where
  pub shared : Shared
  pub hand : HandState

abbrev pub both : Shared → HandState → Both
both s h = record { shared = s; hand = h }

abbrev pub number_work : List ℕ → Shared → HandState → Both
number_work [] s h = both s h
number_work (ino ∷ numbers) s h = both (with_numbers numbers s) (record h { ino = Some ino })

abbrev pub append_work : ℕ → ℕ → Shared → HandState → Running → Both
append_work ino pages s h r =
    both (with_cell ino (with_entries (entries_for r ino) h.blocks (with_log_pages (take pages h.pages) (cell_at s ino))) s)
    (record h { blocks = blocks_left (entries_for r ino) h.blocks; pages = drop pages h.pages })

abbrev pub retire_work : ℕ → List KilledPart → Shared → HandState → Running → Both
retire_work ino killed s h r =
    both (with_cell ino (erased (retired_cell ino killed s r)) (with_book (retired_book ino killed s r) s))
    (with_erased ino (retired_cell ino killed s r) (with_freed ino killed s r h))

abbrev pub return_number_work : Option ℕ → Shared → HandState → Both
return_number_work None s h = both s h
return_number_work (Some ino) s h = both (with_numbers (put_by (λ n. n) ino s.pool.numbers) s) (record h { ino = None })

abbrev pub release_work : Record → Shared → HandState → Both
release_work picked s h =
    both (with_cell picked.ino (erased (released picked (cell_at s picked.ino))) s)
    (with_erased picked.ino (released picked (cell_at s picked.ino)) (with_released picked s h))

abbrev pub snapshot_or_cleaner_work : SnapshotOrCleanerStep → ℕ → Shared → HandState → Both
snapshot_or_cleaner_work Make actor s h = both (with_book (after_make_snapshot s.book) s) h
snapshot_or_cleaner_work (Drop snapshot) actor s h = both (with_book (after_drop_snapshot snapshot s.book) s) h
snapshot_or_cleaner_work (Pin snapshot) actor s h = both (with_book (after_pin_snapshot snapshot s.book) s) h
snapshot_or_cleaner_work (Show snapshot showing) actor s h = both s h
snapshot_or_cleaner_work (Unpin snapshot seen) actor s h = both (with_book (after_unpin_snapshot snapshot s.book) s) h
snapshot_or_cleaner_work (Pick draining) actor s h = both (with_book (after_pick s.book) s) h
snapshot_or_cleaner_work (LockPicked draining picked) actor s h = both (with_owner picked.ino (Some actor) s) h
snapshot_or_cleaner_work (Release draining picked) actor s h = release_work picked s h
snapshot_or_cleaner_work (LockCleaned manner ino) actor s h = both (with_owner ino (Some actor) s) h
snapshot_or_cleaner_work (PlanCleaning manner slot) actor s h = both s h
snapshot_or_cleaner_work (Fresh ino asked wanted) actor s h =
    both (less_list (asked_list (length s.lists) actor asked) wanted s)
    (with_fresh (asked_list (length s.lists) actor asked) wanted s h)
snapshot_or_cleaner_work (Unlink ino) actor s h = both (with_cell ino (unlinked (cell_at s ino)) s) (with_unlinked (cell_at s ino) h)
snapshot_or_cleaner_work (Compact ino) actor s h =
    both (with_cell ino (compacted_cell h (cell_at s ino)) s) (with_old_chain (cell_at s ino) h)

abbrev pub work : Next → ℕ → ℕ → Shared → HandState → Running → Both
work Number block actor s h r = number_work s.pool.numbers s h
work (Lock place) block actor s h r = both (with_owner (slot_at r.slots place) (Some actor) s) h
work (TakeBlocks asked) block actor s h r =
    both (less_list (asked_list (length s.lists) actor asked) r.wanted s)
    (record h { blocks = h.blocks ++ take r.wanted (list_at s (asked_list (length s.lists) actor asked)).blocks })
work (TakeLogPages asked) block actor s h r =
    both (less_list (asked_list (length s.lists) actor asked) r.wanted s)
    (record h { pages = h.pages ++ take r.wanted (list_at s (asked_list (length s.lists) actor asked)).blocks })
work Ready block actor s h r = both s (with_bytes block s r h)
work Enter block actor s h r = both (record s { book = after_enter actor s.book; holder = Some actor }) h
work (Append place) block actor s h r =
    append_work (slot_at (written_slots r) place) (pages_needed s r.plan (slot_at (written_slots r) place)) s h r
work Open block actor s h r =
    both (with_book (with_journal (actor % length s.lists) (old_tails s (written_slots r)) s.book) s) h
work (Publish place) block actor s h r =
    both (with_cell (slot_at (written_slots r) place) (published (cell_at s (slot_at (written_slots r) place))) s)
    (with_killed (killed_by (cell_at s (slot_at (written_slots r) place))) h)
work Close block actor s h r = both (with_book (with_journal (actor % length s.lists) [] s.book) s) (record h { ino = None })
work (Retire place) block actor s h r = retire_work (slot_at (written_slots r) place) (first_killed h.killed) s h r
work Leave block actor s h r = both (record s { holder = None }) h
work (Unlock place) block actor s h r = both (with_owner (slot_at r.slots place) None s) h
work (Give cpu) block actor s h r = both (with_given cpu h s) (given cpu s h)
work ReturnNumber block actor s h r = return_number_work h.ino s h
work (SnapshotOrCleaner step) block actor s h r = snapshot_or_cleaner_work step actor s h
work other block actor s h r = both s h

-- A NUMBER that is taken or goes back changes the numbers of the pool and the number in the hand, and nothing else
module _ (P : Shared → HandState → Type 0) (s : Shared) (h : HandState)
    (p : (numbers : List ℕ) (ino : Option ℕ) → P (with_numbers numbers s) (record h { ino = ino })) where
  on_number : (numbers : List ℕ) → P (number_work numbers s h).shared (number_work numbers s h).hand
  on_number [] = p s.pool.numbers h.ino
  on_number (ino ∷ numbers) = p numbers (Some ino)

  on_back : (number : Option ℕ) → P (return_number_work number s h).shared (return_number_work number s h).hand
  on_back None = p s.pool.numbers h.ino
  on_back (Some ino) = p (put_by (λ n. n) ino s.pool.numbers) None

  pub by_number : P (number_work s.pool.numbers s h).shared (number_work s.pool.numbers s h).hand
  by_number = on_number s.pool.numbers

  pub by_back : P (return_number_work h.ino s h).shared (return_number_work h.ino s h).hand
  by_back = on_back h.ino
