-- What the laws of the machine have to say of the steps of calls on snapshots.
use Rattle.std.proofs.Common.{◌≡◌, ◌<◌, ℕ, false, true, Some}
use Rattle.std.specs.Option.{ForSome, IsSomeAnd}
use Rattle.nv_base.specs.declared.geometry.GeometryNumbers.{GeometryNumbers}
use Rattle.nv_base.specs.declared.limits.TheConstants.{NUMBER, PINS}
use Rattle.nv_book.specs.declared.record.Record.{Record}
use Rattle.nv_calls.specs.Prepared.{IsStill}
use Rattle.nv_calls.specs.Retiring.{name_of}
use Rattle.nv_cell.specs.Cell.{log_of, mark_named}
use Rattle.nv_cell.specs.Readers.{has_killed, is_gone}
use Rattle.nv_cell.specs.declared.mark.Mark.TheVariants.{Kept}
use Rattle.nv_entry.specs.Log.{up_to}
use Rattle.nv_epoch.specs.SnapList.{pins_of}
use Rattle.nv_machine.specs.World.{Compact, Pin, Release, Shared, Show, SnapshotOrCleanerStep, Unlink, Unpin, cell_at}
use Rattle.nv_reader.specs.Cells.{NoneOut}

-- the part of a picked record is kept in its cell, which stands still; and one that is gone has not yet its last generation
pub record HasPicked (g : GeometryNumbers) (s : Shared) (picked : Record) : Type 0 where
  pub kept : mark_named (cell_at s picked.ino) (name_of picked) ≡ Some Kept
  pub still : IsStill g.block (cell_at s picked.ino)
  pub generation : is_gone (log_of (cell_at s picked.ino)) ≡ true → (cell_at s picked.ino).generation < NUMBER

-- a cell that is to be cleaned stands still, and no part of it is killed and not yet retired
pub record HasCleanable (g : GeometryNumbers) (s : Shared) (ino : ℕ) : Type 0 where
  pub still : IsStill g.block (cell_at s ino)
  pub retired : has_killed (cell_at s ino) ≡ false

-- a snapshot that is to be pinned has fewer pins than it may have; one that is shown has all its pages; one that is to
-- be unpinned has a pin
abbrev pub HasOn : GeometryNumbers → Shared → SnapshotOrCleanerStep → Type 0
HasOn g s (Pin snapshot) = ForSome (pins_of s.book.snaps snapshot) (λ pins. pins < PINS)
HasOn g s (Show snapshot showing) = (ino : ℕ) → NoneOut (cell_at s ino) (up_to snapshot (log_of (cell_at s ino)))
HasOn g s (Unpin snapshot seen) = IsSomeAnd (pins_of s.book.snaps snapshot) (λ pins. 0 < pins)
HasOn g s (Release draining picked) = HasPicked g s picked
HasOn g s (Unlink ino) = HasCleanable g s ino
HasOn g s (Compact ino) = HasCleanable g s ino
HasOn g s other = Unit {0}
