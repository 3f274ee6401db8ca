-- What a stop asks of a world, beside what a run asks of its start.
use Rattle.std.specs.Prelude.{◌<◌, ℕ, length}
use Rattle.nv_audit.specs.DeviceParts.{IsInRange}
use Rattle.nv_audit.specs.LogShape.{IsHeldLawful}
use Rattle.nv_epoch.specs.SnapList.{ids}
use Rattle.nv_machine.specs.Settled.{settled}
use Rattle.nv_machine.specs.World.{Shared, cell_at}
use Rattle.nv_restart.specs.Snapshots.{SnapshotsFit}

-- the generation of each inode slot is in its range
abbrev pub AreInRange : Shared → Type 0
AreInRange s = (ino : ℕ) → ino < length s.cells → IsInRange (cell_at s ino)

-- each settled log of which a living snapshot holds a pair is lawful from nothing on
abbrev pub AreHeldLawful : ℕ → Shared → Type 0
AreHeldLawful block s = (ino : ℕ) → IsHeldLawful block (ids s.book.snaps) (settled s ino)

-- A WORLD WHOSE IMAGE MAY BE MOUNTED
pub record MayStop (block : ℕ) (s : Shared) : Type 0 where
  -- snapshots and epoch are in their ranges
  pub snapshots : SnapshotsFit s.book.snaps
  -- generations are in their range
  pub generations : AreInRange s
  -- logs that a living snapshot holds are lawful from nothing on
  pub held : AreHeldLawful block s
