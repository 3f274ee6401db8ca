-- What a journal has noted: inodes, each with the tail that its log had before.
use Rattle.std.specs.Prelude.{◌≢◌, ℕ, ◌<◌, ◌≤◌, ◌==◌, List, [], ◌∷◌, length, Option, Some, None, AllPairs}
use Rattle.std.specs.List.{find}
use Rattle.std.specs.Option.{option_map}
use Rattle.nv_journal.specs.declared.old_tail.OldTail.{OldTail}

-- no two of these notes are of one inode
abbrev pub AreDistinct : List OldTail → Type 0
AreDistinct tails = AllPairs (λ a b. a.ino ≢ b.ino) tails

-- what an open journal has noted
pub record IsNotable (tails : List OldTail) : Type 0 where
  -- it has noted at least two inodes
  pub two : 2 ≤ length tails
  -- it has noted at most four inodes
  pub four : length tails ≤ 4
  -- no inode is noted twice
  pub distinct : AreDistinct tails

-- what holds of each journal, which has noted nothing while it is closed
pub record IsJournal (tails : List OldTail) : Type 0 where
  -- while it is open, it has noted what one commit may note
  pub notable : 0 < length tails → IsNotable tails

-- the tail that is noted for the inode
abbrev pub tail_noted : List OldTail → ℕ → Option ℕ
tail_noted tails ino = option_map (λ t. t.tail) (find (λ t. t.ino == ino) tails)

-- the tail that was noted, or another where none was
abbrev pub noted_or : Option ℕ → ℕ → ℕ
noted_or (Some tail) other = tail
noted_or None other = other

-- the tail up to which a log is settled: the one that an open journal has noted, else its own
abbrev pub settled_tail : List (List OldTail) → ℕ → ℕ → ℕ
settled_tail [] ino tail = tail
settled_tail (tails ∷ journals) ino tail = noted_or (tail_noted tails ino) (settled_tail journals ino tail)
