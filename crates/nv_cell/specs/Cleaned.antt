-- What a cleaning keeps of a cell: the nodes that its log gives, its blocks, and its parts under
-- their new numbers.
use Rattle.std.specs.Prelude.{◌≡◌, ◌≤◌, ℕ, Bool, true, false, List, Some, None, option_to_list, slice_get, slice_index_or}
use Rattle.std.specs.List.{AllByRecursion, flat_map}
use Rattle.nv_alloc.specs.Block.{BlockValue}
use Rattle.nv_entry.specs.Held.{Retention, holds, is_current, pair_name}
use Rattle.nv_entry.specs.Laws.{SpansAreKept}
use Rattle.nv_entry.specs.Log.{pairs}
use Rattle.nv_entry.specs.Node.{node_at, node_now}
use Rattle.nv_entry.specs.Sound.{IsSound}
use Rattle.nv_entry.specs.declared.held.Pair.{Pair}
use Rattle.nv_entry.specs.declared.item.Entry.{Entry}
use Rattle.nv_entry.specs.declared.part.PartId.{PartId}
use Rattle.nv_cell.specs.Cell.{CellState, HasBlocks, HasMarks, log_of}
use Rattle.nv_cell.specs.Marks.{is_there, mark_at}
use Rattle.nv_cell.specs.Named.{number_named}
use Rattle.nv_cell.specs.Numbers.{is_number}
use Rattle.nv_cell.specs.Removal.{part_flags, source}

-- ---- nodes

-- the blocks of a cell's parts, in the order of the parts
abbrev pub blocks_there : CellState → List BlockValue
blocks_there cell = flat_map option_to_list cell.blocks

-- the node at the end of an epoch is the same, whatever the blocks have
abbrev pub IsSameAt : CellState → CellState → ℕ → Type 0
IsSameAt old new epoch =
    (bytes : ℕ → List ℕ)
    → node_at bytes new.block epoch (log_of new) ≡ node_at bytes old.block epoch (log_of old)

-- what a cleaning keeps of the nodes and the blocks of a cell
pub record KeepsNodes (r : Retention) (old new : CellState) : Type 0 where
  -- the node of now is the same, whatever the blocks have
  pub now : (bytes : ℕ → List ℕ)
      → node_now bytes new.block (log_of new) ≡ node_now bytes old.block (log_of old)
  -- the node at each living snapshot is the same
  pub held : AllByRecursion (IsSameAt old new) r.snapshots
  -- the node is the same at each epoch where every pair that lives at it is needed or pending
  pub kept : (epoch : ℕ) → SpansAreKept r epoch (log_of old) → IsSameAt old new epoch
  -- the log is sound if it was
  pub sound : (bytes : ℕ → List ℕ) → IsSound bytes old.block (log_of old)
      → IsSound bytes new.block (log_of new)
  -- the same blocks of parts are there, in the same order
  pub blocks_stay : blocks_there new ≡ blocks_there old
  -- the marks are those of the published parts that are left
  pub marks : HasMarks new
  -- the blocks are those of the parts that are left
  pub blocks : HasBlocks new

-- ---- parts

-- a log has a pair of that name and birth which is no longer current, and which exactly those
-- living snapshots hold that are said to.
-- Nothing is said of its death, which moves where the entry that killed the pair is cleaned away.
pub record HasDeadPair (living : List ℕ) (block : ℕ) (log : List Entry) (id : PartId) (birth : ℕ)
    (is_held_by : ℕ → Bool) : Type 0 where
  -- the number of the pair
  pub n : ℕ
  -- the pair of that number
  pub pair : Pair
  -- the log has that pair under that number
  pub is : slice_get (pairs block log) n ≡ Some pair
  -- the pair has that name
  pub name : pair_name pair ≡ id
  -- the pair was born in that epoch
  pub birth_is : pair.birth ≡ birth
  -- the pair is no longer current
  pub died : is_current pair ≡ false
  -- of the living snapshots exactly those hold the pair that are said to
  pub holders : AllByRecursion (λ s. is_held_by s ≡ holds s pair) living

-- each pair of a log that has a death died in that epoch or before
abbrev pub AreDeadBy : ℕ → ℕ → List Entry → Type 0
AreDeadBy epoch block log =
    (n : ℕ) (pair : Pair) (death : ℕ) → slice_get (pairs block log) n ≡ Some pair
    → pair.death ≡ Some death → death ≤ epoch

-- a pair was the pair `n` of a log
pub record WasPair (living : List ℕ) (block : ℕ) (log : List Entry) (n : ℕ)
    (pair : Pair) : Type 0 where
  -- the pair that it was
  pub old : Pair
  -- the log has the old pair under the number `n`
  pub is : slice_get (pairs block log) n ≡ Some old
  -- the pair has the name of the old one
  pub name : pair_name old ≡ pair_name pair
  -- the pair was born in the epoch of the old one
  pub birth : old.birth ≡ pair.birth
  -- the pair is current exactly where the old one is
  pub current : is_current pair ≡ is_current old
  -- the same living snapshots hold both
  pub holders : AllByRecursion (λ s. holds s pair ≡ holds s old) living

-- one of the items that are left had the number `was`
pub record HasNumber (flags : List Bool) (was : ℕ) : Type 0 where
  -- the number of that item now
  pub n : ℕ
  -- the item of that number had the number `was` before
  pub is : source flags n ≡ was

-- the number that the part `n` of what flags leave of a cell had before
abbrev pub was_number : List Bool → CellState → ℕ → ℕ
was_number flags old n = source (part_flags flags (log_of old)) n

-- what a cleaning keeps of the parts of a cell, each under a new number
pub record KeepsRecords (r : Retention) (flags : List Bool) (old new : CellState) : Type 0 where
  -- each part has the mark that it had
  pub marks : (n : ℕ) → mark_at new.marks n ≡ mark_at old.marks (was_number flags old n)
  -- each part has the block that it had, or none
  pub blocks : (n : ℕ)
      → slice_index_or new.blocks n None ≡ slice_index_or old.blocks (was_number flags old n) None
  -- each part has the name that it had
  pub names : (id : PartId) (n : ℕ)
      → is_number (number_named (log_of new) id) n
      ≡ is_number (number_named (log_of old) id) (was_number flags old n)
  -- each pair is the one that stood under the part's old number, though its death may move
  pub pairs : (n : ℕ) (pair : Pair) → slice_get (pairs new.block (log_of new)) n ≡ Some pair
      → WasPair r.snapshots old.block (log_of old) (was_number flags old n) pair
  -- each part that was not out has a new number
  pub there : (was : ℕ) → is_there (mark_at old.marks was) ≡ true
      → HasNumber (part_flags flags (log_of old)) was
  -- a dead pair whose part was not out is one still, with the same holders
  pub recorded : (id : PartId) (birth : ℕ) (is_held_by : ℕ → Bool)
      → (h : HasDeadPair r.snapshots old.block (log_of old) id birth is_held_by)
      → is_there (mark_at old.marks h.n) ≡ true
      → HasDeadPair r.snapshots new.block (log_of new) id birth is_held_by
