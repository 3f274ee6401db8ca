-- How the parts of a world are built anew: blocks that go home and leave it, and what is free meanwhile.
use Rattle.std.specs.Prelude.{◌≡◌, ℕ, ◌+◌, ◌<◌, ◌≤◌, ◌||◌, Bool, true, false, if◌then◌else◌, nat_le, nat_lt, List, ◌++◌, length, map, Option, Some, None, option_to_list}
use Rattle.std.specs.List.{AllByRecursion, flat_map, range_with_len}
use Rattle.std.specs.Option.{option_or}
use Rattle.nv_alloc.specs.Block.{AreSized, BlockValue, block_by, numbers_of}
use Rattle.nv_alloc.specs.FreeList.{AreListsOf, FreeBlocks, free_blocks}
use Rattle.nv_alloc.specs.Numbers.{has, times}
use Rattle.nv_audit.specs.Faults.{IsFaultless}
use Rattle.nv_audit.specs.Image.{ImageValue, slot_numbers, slot_of}
use Rattle.nv_audit.specs.Mounted.{cell_of, free_block}
use Rattle.nv_base.specs.declared.geometry.GeometryNumbers.{GeometryNumbers}
use Rattle.nv_base.specs.declared.limits.TheConstants.{NUMBER}
use Rattle.nv_cell.specs.Cell.{stored_in}
use Rattle.nv_cell.specs.declared.bare.BareCell.{BareCell}
use Rattle.nv_mount.specs.Plan.{IsPlanOf}
use Rattle.nv_mount.specs.View.{IsSeen, ViewValue, slot_in}
use Rattle.nv_mount.specs.declared.plan.Plan.{Plan}

-- ---- home

-- the free block of a number, if it is free
abbrev pub block_at_home : ℕ → List FreeBlocks → Option BlockValue
block_at_home number lists = block_by (free_blocks lists) number

-- blocks that can all go home
pub record CanAllGoHome (g : GeometryNumbers) (blocks : List BlockValue) (lists : List FreeBlocks) : Type 0 where
  -- each CPU has a free list of its home range
  pub homes : AreListsOf g lists
  -- each block number is one of the device's
  pub device : AllByRecursion (λ (b : BlockValue). b.number < g.blocks) blocks
  -- each block has the device's block size, in bytes
  pub sized : AreSized g.block blocks
  -- no two of the blocks have one number
  pub once : (n : ℕ) → times n (numbers_of blocks) ≤ 1
  -- none of the blocks is in a free list yet
  pub away : (n : ℕ) → has (numbers_of blocks) n ≡ true → block_at_home n lists ≡ None

-- blocks that went home
pub record AreGivenHome (g : GeometryNumbers) (blocks : List BlockValue) (old new : List FreeBlocks) : Type 0 where
  -- each CPU has a free list of its home range
  pub homes : AreListsOf g new
  -- the lists have the blocks that went home, and those that they had
  pub each : (n : ℕ) → block_at_home n new ≡ option_or (block_by blocks n) (block_at_home n old)

-- ---- what is free meanwhile

-- the numbers of the blocks that the cells of the first `made` slots have
abbrev pub used_by : ImageValue → ℕ → List ℕ
used_by image made = flat_map stored_in (map (cell_of image) (range_with_len 0 made))

-- WHAT IS FREE once the cells of the first `made` slots are made, while blocks `owed` are to come.
-- The blocks of a slot come when its cell is made: all of them go home, and those that its entries
-- say go from there to the cell.
-- Example: before the first cell all blocks of the image are to come.
pub record AreFree (image : ImageValue) (made : ℕ) (owed : List ℕ) (lists : List FreeBlocks) : Type 0 where
  -- each CPU has a free list of its home range
  pub homes : AreListsOf image.numbers lists
  -- a block is free, as it stands in the image or with zeros, unless a cell has it or it is owed
  pub each : (n : ℕ) → n < image.numbers.blocks → block_at_home n lists
      ≡ (if has (used_by image made) n || has owed n then None else Some (free_block image n))

-- no block of a slot is in a made cell, or to come from elsewhere
abbrev pub IsApart : ImageValue → ℕ → List ℕ → Type 0
IsApart image ino owed = (n : ℕ) → has (slot_numbers (slot_of image ino)) n ≡ true → (has (used_by image ino) n || has owed n) ≡ false

-- ---- the next cell

-- what is left of a slot of an image
pub record IsSlotLeft (image : ImageValue) (view : ViewValue) (ino : ℕ) (bare : BareCell) : Type 0 where
  -- the generation is that of the slot
  pub generation : bare.generation ≡ (slot_in view ino).generation
  -- the chain is the one that the plan saw, with its room
  pub chain : bare.chain ≡ (slot_in view ino).chain
  -- the places have the data blocks of the slot, in their order
  pub blocks : flat_map option_to_list bare.blocks.items ≡ (slot_of image ino).blocks

-- the next slot is handed in, whose number is `made`
pub record IsNext (image : ImageValue) (view : ViewValue) (made : ℕ) (owed : List ℕ) (plan : Plan) (bare : BareCell) (lists : List FreeBlocks)
    : Type 0 where
  -- the image has no fault
  pub faultless : IsFaultless image
  -- the view is of the image
  pub seen : IsSeen image view
  -- the slot is one of the image
  pub within : made < length image.slots
  -- the plan is of the image, with the cells of the slots before this one
  pub planned : IsPlanOf image view made plan
  -- what is handed in is left of this slot
  pub left : IsSlotLeft image view made bare
  -- no block of the slot is in a made cell, or to come from elsewhere
  pub apart : IsApart image made owed
  -- free is each block, except those of made cells, of this slot, and of `owed`
  pub free : AreFree image made (slot_numbers (slot_of image made) ++ owed) lists

-- the cell of the slot `made` is made
pub record IsMade (image : ImageValue) (view : ViewValue) (made : ℕ) (owed : List ℕ) (plan : Plan) (lists : List FreeBlocks) : Type 0 where
  -- the plan is of the image, with the cells of the slots up to this one
  pub planned : IsPlanOf image view (made + 1) plan
  -- free is each block, except those of made cells, and of `owed`
  pub free : AreFree image (made + 1) owed lists

-- ---- the pool

-- the number of a slot is in use, by generation and tail, and by whether its inode is erased
abbrev pub is_slot_used : (generation tail : ℕ) (ended : Bool) → Bool
is_slot_used generation tail ended =
    if ended then nat_le NUMBER (generation + 1) else nat_lt 0 tail || nat_le NUMBER generation
