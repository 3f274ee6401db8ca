-- What is on its way: in hands, or deferred.
use Rattle.std.specs.Prelude.{◌≡◌, ℕ, ◌<◌, ◌==◌, List, [], ◌++◌, filter, length, map, slice_index_or}
use Rattle.std.specs.Global.{Vec}
use Rattle.nv_entry.specs.declared.part.PartId.{PartId}
use Rattle.nv_entry.specs.Held.{Retention}
use Rattle.nv_book.specs.declared.record.Record.{Record}
use Rattle.nv_audit.specs.declared.part_list.InodePart.{InodePart}
use Rattle.nv_cell.specs.Cell.{CellState}

-- the part of a record
abbrev pub part_of : Record → PartId
part_of r = record { entry = r.entry; part = r.part }

-- the parts of an inode among these
abbrev pub of_inode : ℕ → List InodePart → List PartId
of_inode ino parts = map (λ (p : InodePart). p.part) (filter (λ (p : InodePart). p.ino == ino) parts)

-- the deferred parts of an inode, by name
abbrev pub deferred_of : ℕ → List Record → List PartId
deferred_of ino deferred = map part_of (filter (λ (r : Record). r.ino == ino) deferred)

-- the parts of an inode that are deferred or in hands, by name
abbrev pub pending_of : ℕ → List Record → List InodePart → List PartId
pending_of ino deferred parts = deferred_of ino deferred ++ of_inode ino parts

-- what keeps the pairs of an inode's log that are not current, where these snapshots live, these records are deferred,
-- and calls have these parts in their hands
abbrev pub retention_by : List ℕ → List Record → List InodePart → ℕ → CellState → Retention
retention_by snapshots deferred in_hands ino cell = record {
  block = cell.block;
  snapshots = snapshots;
  pending = pending_of ino deferred in_hands;
}

-- ---- by slot

-- the names in the list of a slot
abbrev pub parts_at : List (Vec PartId) → ℕ → List PartId
parts_at lists ino = slice_index_or (map (λ (v : Vec PartId). v.items) lists) ino []

-- lists of names by slot, with more at their ends
pub record HaveMore (more : ℕ → List PartId) (old new : List (Vec PartId)) : Type 0 where
  -- there are as many lists as before
  pub len : length new ≡ length old
  -- the list of a slot has the names that `more` gives for it behind the others
  pub each : (ino : ℕ) → ino < length old → parts_at new ino ≡ parts_at old ino ++ more ino

-- lists of the pending parts, by slot
pub record ArePendingOf (slots : ℕ) (deferred : List Record) (in_hands : List InodePart) (lists : List (Vec PartId)) : Type 0 where
  -- there is a list for each slot
  pub len : length lists ≡ slots
  -- the list of a slot names the parts of its inode that are deferred or in hands
  pub each : (ino : ℕ) → ino < slots → parts_at lists ino ≡ pending_of ino deferred in_hands
