-- The logs that a mount makes of an image, slot by slot, and what makes a cell of them.
use Rattle.std.specs.Prelude.{◌≡◌, ℕ, ◌+◌, ◌<◌, ◌==◌, ◌&&◌, if◌then◌else◌, All, Bool, false, filter, nat_le, List, [], length, map, Option, Some, None, slice_index_or, take}
use Rattle.std.specs.List.{list_any, range_with_len}
use Rattle.std.specs.Option.{option_map}
use Rattle.nv_alloc.specs.Block.{BlockValue, block_by, number_of}
use Rattle.nv_book.specs.declared.record.Record.{Record}
use Rattle.nv_cell.specs.Anew.{blocks_anew, marks_anew}
use Rattle.nv_cell.specs.Cell.{CellState, log_of}
use Rattle.nv_entry.specs.Held.{is_before_death}
use Rattle.nv_entry.specs.declared.held.Pair.{Pair}
use Rattle.nv_entry.specs.Log.{IsLog}
use Rattle.nv_entry.specs.Shape.{IsGoneLast, IsShaped, items_of}
use Rattle.nv_journal.specs.Journal.{noted_or, tail_noted}
use Rattle.nv_journal.specs.declared.old_tail.OldTail.{OldTail}
use Rattle.nv_audit.specs.Faults.{IsNeededPage}
use Rattle.nv_audit.specs.Image.{ImageValue, SlotImageValue, no_slot}
use Rattle.nv_audit.specs.Logged.{LoggedValue, logged}
use Rattle.nv_audit.specs.Mounted.{cells_of, is_recorded, record_by, tail_of}
use Rattle.nv_audit.specs.Sound.{EndsAtSize}

-- ---- tails

-- the tails at which logs are cut, by slot
abbrev pub cut_tails : ImageValue → List ℕ
cut_tails image = map (tail_of image) (range_with_len 0 (length image.slots))

-- the tail of an inode by notes, of which the first counts; else another
abbrev pub noted_tail : List OldTail → ℕ → ℕ → ℕ
noted_tail notes ino tail = noted_or (tail_noted notes ino) tail

-- the tails of slots, as notes give them
pub record AreNoted (notes : List OldTail) (old new : List ℕ) : Type 0 where
  -- there are as many tails as before
  pub len : length new ≡ length old
  -- the tail of an inode is the first one that is noted for it, and else as it was
  pub each : (ino : ℕ) → ino < length old → slice_index_or new ino 0 ≡ noted_tail notes ino (slice_index_or old ino 0)

-- ---- logs

-- the log of a slot's first entries
abbrev pub front_logged : ℕ → ℕ → SlotImageValue → LoggedValue
front_logged block tail slot = record { block = block; generation = slot.generation; log = take tail slot.chain.entries }

-- the empty log of a slot's next generation
abbrev pub erased_logged : ℕ → SlotImageValue → LoggedValue
erased_logged block slot = record { block = block; generation = slot.generation + 1; log = [] }

-- THE LOGS of the cells that a mount makes
abbrev pub mounted_logs : ImageValue → List LoggedValue
mounted_logs image = map logged (cells_of image)

-- one of these snapshots holds what was born and died then, if it died
abbrev pub is_held_from : List ℕ → ℕ → Option ℕ → Bool
is_held_from living birth death = list_any (λ (s : ℕ). nat_le birth s && is_before_death s death) living

-- nothing stands behind a Gone in the first entries of a slot's log
abbrev pub IsFrontGoneLast : ℕ → SlotImageValue → Type 0
IsFrontGoneLast tail slot = IsGoneLast (items_of (take tail slot.chain.entries))

-- nothing stands behind a Gone in the first entries of each slot's log, up to these tails
abbrev pub AreGoneLast : List ℕ → List SlotImageValue → Type 0
AreGoneLast tails slots =
    (ino : ℕ) → ino < length slots → IsFrontGoneLast (slice_index_or tails ino 0) (slice_index_or slots ino no_slot)

-- each log is of its shape
abbrev pub AreShaped : List LoggedValue → Type 0
AreShaped logs = (n : ℕ) (l : LoggedValue) → n < length logs
    → IsShaped (slice_index_or logs n l).block (slice_index_or logs n l).log

-- ---- blocks

-- a cell that a mount makes of these blocks, for these snapshots
pub record IsMadeOf (living : List ℕ) (blocks : List BlockValue) (cell : CellState) : Type 0 where
  -- no entry stands past the tail
  pub whole : cell.chain.entries ≡ log_of cell
  -- ids rise along the log, and epochs never fall
  pub rising : IsLog (log_of cell)
  -- each part has the mark that the log gives it for these snapshots
  pub marks : cell.marks ≡ marks_anew living cell.block (log_of cell)
  -- each page that is not out has the block that its entry says, out of these blocks
  pub stored : cell.blocks ≡ blocks_anew blocks cell.block (log_of cell) (marks_anew living cell.block (log_of cell))

-- these blocks have those of a cell's needed pages
pub record HasItsBlocks (blocks : List BlockValue) (cell : CellState) : Type 0 where
  -- the block of each needed page is among them
  pub there : (n number : ℕ) → IsNeededPage cell n number → option_map number_of (block_by blocks number) ≡ Some number
  -- no two needed pages have one block
  pub once : (n m number : ℕ) → IsNeededPage cell n number → IsNeededPage cell m number → n ≡ m

-- these blocks make the file of a cell
pub record IsRunOf (blocks : List BlockValue) (cell : CellState) : Type 0 where
  -- they have the blocks of the cell's needed pages, each for one page
  pub its : HasItsBlocks blocks cell
  -- the file ends at its size
  pub ends : EndsAtSize cell

-- the place has the block of that number
abbrev pub is_at_place : Option BlockValue → ℕ → Bool
is_at_place None number = false
is_at_place (Some b) number = b.number == number

-- one of these blocks has the number
abbrev pub IsAmong : List BlockValue → ℕ → Type 0
IsAmong blocks number = option_map number_of (block_by blocks number) ≡ Some number

-- for each of these numbers there is one of these blocks
abbrev pub AreAmong : List BlockValue → List ℕ → Type 0
AreAmong blocks numbers = All (IsAmong blocks) numbers

-- ---- records

-- the record of a pair, if it is to have one
abbrev pub pair_record : List ℕ → ℕ → Pair → Option Record
pair_record living ino pair = if is_recorded living pair then Some (record_by ino pair) else None

-- the records of several pairs, in order
abbrev pub pair_records : List ℕ → ℕ → List Pair → List Record
pair_records living ino ps = map (record_by ino) (filter (is_recorded living) ps)
