-- What a call reads over the cells of its slots.
use Rattle.std.specs.Prelude.{◌≡◌, ℕ, ◌<◌, Bool, true, List, length, Option, option_map}
use Rattle.std.specs.List.{AllByRecursion}
use Rattle.nv_alloc.specs.Numbers.{has}
use Rattle.nv_base.specs.declared.numbers.Handle.{Handle}
use Rattle.nv_entry.specs.declared.node.NodeCopy.{NodeCopy}
use Rattle.nv_calls.specs.Checked as checked
use Rattle.nv_calls.specs.Nodes.{HasBytes, has_page_in, nodes_in}
use Rattle.nv_calls.specs.Refusals.{Check}
use Rattle.nv_calls.specs.Updates.{blocks_taken}
use Rattle.nv_calls.specs.declared.check_end.CheckEnd.{CheckEnd}
use Rattle.nv_calls.specs.declared.check_end.CheckEnd.TheVariants as ends
use Rattle.nv_calls.specs.declared.looked.LookupResult.{LookupResult}
use Rattle.nv_calls.specs.declared.update.Update.{Update}
use Rattle.nv_calls.specs.SlotCells.{lent_cells}
use Rattle.nv_cell.specs.Cell.{CellState, CellValue}
use Rattle.nv_machine.specs.Reads.{bytes_among}
use Rattle.nv_machine.specs.World.{Answers, Ending, BoundAnew, Refuses}
use Rattle.nv_core.specs.declared.shared.Shared.{Shared}
use Rattle.nv_core.specs.Parts.{AreSlots}

-- a cell has blocks of that size, each the only one of its number
abbrev pub HasOwn : ℕ → CellState → Type 0
HasOwn block cell = HasBytes (bytes_among cell.blocks) block cell

-- a number has its slot among these, where it is in range
abbrev pub HoldsSlot : List ℕ → ℕ → ℕ → Type 0
HoldsSlot slots inodes ino = ino < inodes → has slots ino ≡ true

-- each of these handles has its slot among these, where it is in range
abbrev pub HoldHandles : List ℕ → ℕ → List Handle → Type 0
HoldHandles slots inodes list = AllByRecursion (λ (h : Handle). HoldsSlot slots inodes h.ino) list

-- the nodes under some handles are read in the cells of these slots
pub record CanRead (shared : Shared) (slots : List ℕ) (list : List Handle) : Type 0 where
  -- each of these slots has a cell
  pub there : AreSlots shared slots
  -- each has blocks of the device's size, each the only one of its number there
  pub own : AllByRecursion (λ (c : ℕ × CellValue). HasOwn shared.geometry.numbers.block c.1.state) (lent_cells slots shared.cells.items)
  -- each handle in range is of one of these slots
  pub held : HoldHandles slots (length shared.cells.items) list

-- ---- the check

-- how a check ends a call, in the machine's words
abbrev pub ended_by : CheckEnd → Ending
ended_by (ends.Refuses fault) = Refuses fault
ended_by ends.BoundAnew = BoundAnew
ended_by ends.Answers = Answers

-- how a check ends a call, by whether it commits nothing
abbrev pub check_ends : Check → Bool → Check → Bool → Bool → Option Ending
check_ends early same late numbered nothing = option_map ended_by (checked.check_ends early same late numbered nothing)

-- how the check over these nodes ends a call
abbrev pub ends_over : ℕ → (Handle → Option NodeCopy) → LookupResult → Bool → Update → Option Ending
ends_over block n before numbered u = option_map ended_by (checked.ends_over block n before numbered u)

-- how many data blocks a call takes over these cells
abbrev pub wanted_over : ℕ → List (ℕ × CellValue) → Update → ℕ
wanted_over block cells u = blocks_taken block (nodes_in cells) (has_page_in cells) u
