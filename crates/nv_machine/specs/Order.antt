-- Along every log ids rise and epochs never fall, since a commit's number and epoch are fixed under the commit lock.
use Rattle.std.specs.Prelude.{◌≡◌, ℕ, ◌+◌, true, List, [], drop, Option, Some, None}
use Rattle.nv_alloc.specs.Numbers.{has}
use Rattle.nv_calls.specs.Slots.{IsBefore}
use Rattle.nv_entry.specs.declared.item.Entry.{Entry}
use Rattle.nv_machine.specs.Locks.{commits_at}
use Rattle.nv_machine.specs.Reads.{written_slots}
use Rattle.nv_machine.specs.World.{Append, Next, Running, Shared, World, actor_at, cell_at}

-- all entries of a slot's log, those past its tail too
abbrev pub entries_at : Shared → ℕ → List Entry
entries_at s ino = (cell_at s ino).chain.entries

-- the slots that a commit has yet to append to
abbrev pub to_append : Next → List ℕ → List ℕ
to_append (Append place) written = drop place written
to_append other written = []

-- what is known of a commit under way
pub record IsEntered (s : Shared) (r : Running) : Type 0 where
  -- its number is that of the book's last commit
  pub commit : r.commit ≡ s.book.commit
  -- its epoch is the book's
  pub epoch : r.epoch ≡ s.book.snaps.epoch
  -- a log that it has yet to append to has entries of earlier commits alone
  pub earlier : (ino : ℕ) → has (to_append r.next (written_slots r)) ino ≡ true → IsBefore r.commit r.epoch (entries_at s ino)

-- an actor's call that commits has the book's number and epoch
abbrev pub CommitsIn : Shared → Option Running → Type 0
CommitsIn s None = Unit {0}
CommitsIn s (Some r) = commits_at r.next ≡ true → IsEntered s r

-- along every log ids rise and epochs never fall, and neither is above the book's
abbrev pub AreLogsOrdered : Shared → Type 0
AreLogsOrdered s = (ino : ℕ) → IsBefore (s.book.commit + 1) s.book.snaps.epoch (entries_at s ino)

-- IN ORDER: the numbers and epochs of entries and of the commit under way
pub record IsInOrder (w : World) : Type 0 where
  -- along every log ids rise and epochs never fall, and neither is above the book's
  pub logs : AreLogsOrdered w.shared
  -- a commit under way has the book's number and epoch
  pub each : (actor : ℕ) → CommitsIn w.shared (actor_at w actor).running
