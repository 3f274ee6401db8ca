-- What a call knows at its commit point: its plan fits the effect that it has now.
use Rattle.std.specs.Prelude.{◌≡◌, ℕ, ◌<◌, false, List, [], length, Some, None, slice_index_or}
use Rattle.nv_alloc.specs.Block.{BlockValue}
use Rattle.nv_alloc.specs.Numbers.{has}
use Rattle.nv_calls.specs.AllCalls.{effect}
use Rattle.nv_calls.specs.Plain.{node_in}
use Rattle.nv_calls.specs.Slots.{IsPlan, InodeSlot, items_for}
use Rattle.nv_cell.specs.Cell.{CellState}
use Rattle.nv_entry.specs.Sound.{IsSound}
use Rattle.nv_entry.specs.declared.item.Entry.{Entry}
use Rattle.nv_machine.specs.Reads.{bytes_among, written_slots}
use Rattle.nv_machine.specs.Settled.{settled, settled_nodes}
use Rattle.nv_machine.specs.World.{Running, Shared, cell_at}

-- a log is sound by the blocks of its cell
abbrev pub IsSoundIn : CellState → List Entry → Type 0
IsSoundIn cell log = IsSound (bytes_among cell.blocks) cell.block log

-- each settled log is sound by the blocks of its cell
abbrev pub AreSound : Shared → Type 0
AreSound s = (ino : ℕ) → IsSoundIn (cell_at s ino) (settled s ino)

-- the slots of a world, each with its settled log
abbrev pub settled_slots : Shared → ℕ → InodeSlot
settled_slots s ino = record { generation = (cell_at s ino).generation; log = settled s ino }

-- WHAT A CALL KNOWS AT ITS COMMIT POINT, where `bytes` gives the bytes of a block
pub record HasPlanNow (bytes : ℕ → List ℕ) (block : ℕ) (s : Shared) (r : Running) : Type 0 where
  -- a block has at least one byte
  pub some : 0 < block
  -- each cell has blocks of so many bytes
  pub sizes : (ino : ℕ) → ino < length s.cells → (cell_at s ino).block ≡ block
  -- `bytes` gives those of each block that a cell has
  pub blocks : (ino n : ℕ) (b : BlockValue) → slice_index_or (cell_at s ino).blocks n None ≡ Some b → bytes b.number ≡ b.bytes
  -- each settled log is sound by these bytes
  pub sound : (ino : ℕ) → IsSound bytes block (settled s ino)
  -- the plan has items only for slots that are written
  pub written : (ino : ℕ) → has (written_slots r) ino ≡ false → items_for r.plan ino ≡ []
  -- the plan has the effect that the call has on the settled nodes of now
  pub fits : IsPlan bytes block (settled_slots s) r.plan (effect (node_in (settled_nodes s)) r.made r.call)
