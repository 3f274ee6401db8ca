-- How a world goes on after a stop, part by part.
use Rattle.std.specs.Prelude.{◌≡◌, ℕ, ◌<◌, ◌≤◌, ◌||◌, true, false, List, ◌++◌, drop, length, map, Option, option_to_list, slice_index_or}
use Rattle.std.specs.List.{flat_map}
use Rattle.nv_alloc.specs.Block.{BlockValue, numbers_of, zeroed}
use Rattle.nv_alloc.specs.FreeList.{FreeBlocks}
use Rattle.nv_alloc.specs.Hand.{blocks_of}
use Rattle.nv_alloc.specs.Numbers.{has, times}
use Rattle.nv_audit.specs.Faults.{IsFaultless}
use Rattle.nv_audit.specs.Image.{ImageValue, image_numbers, slot_numbers, slot_of}
use Rattle.nv_audit.specs.Records.{states_of}
use Rattle.nv_cell.specs.Cell.{CellState, CellValue, log_of, stored_in}
use Rattle.nv_cell.specs.declared.bare.BareCell.{BareCell}
use Rattle.nv_entry.specs.Covered.{part_total}
use Rattle.nv_epoch.specs.SnapList.{ids}
use Rattle.nv_mount.specs.Build.{AreFree, IsApart, IsSlotLeft, used_by}
use Rattle.nv_mount.specs.Plan.{IsPlanOf}
use Rattle.nv_mount.specs.View.{IsSeen, SlotViewValue, ViewValue}
use Rattle.nv_mount.specs.declared.plan.Plan.{Plan}
use Rattle.nv_restart.specs.Mounted.{mounted}
use Rattle.nv_restart.specs.Restarted.{image_of, slot_image}
use Rattle.nv_core.specs.Rooms.{hand_held}
use Rattle.nv_core.specs.Shown.{shared_of}
use Rattle.nv_core.specs.Stops.{world_of}
use Rattle.nv_core.specs.declared.shared.Shared.{Shared}
use Rattle.nv_core.specs.declared.world.Actor.{Actor}

-- the image of what is shared
abbrev pub image_by : Shared → ImageValue
image_by shared = image_of (world_of shared)

-- what a plan of what goes on reads of a cell
abbrev pub shown_cell : CellValue → SlotViewValue
shown_cell cell = record {
  generation = cell.state.generation;
  chain = record { state = cell.state.chain; spare = cell.room.pages };
}

-- what a plan of what goes on reads of what is shared
abbrev pub view_of : Shared → ViewValue
view_of shared = record {
  numbers = shared.geometry.numbers;
  slots = map shown_cell shared.cells.items;
  journals = shared.book.state.journals;
  snapshots = ids shared.book.state.snaps;
  epoch = shared.book.state.snaps.epoch;
  commit = shared.book.state.commit;
}

-- the plan is one of the world that goes on from what is shared
abbrev pub IsPlanned : Shared → Plan → Type 0
IsPlanned shared plan = IsPlanOf (image_by shared) (view_of shared) 0 plan

-- ---- hands and lists

-- the blocks in an actor's hand
abbrev pub held : Actor → List BlockValue
held actor = blocks_of (hand_held actor.reserved)

-- the list with 0 in all bytes of its blocks
abbrev pub cleared : FreeBlocks → FreeBlocks
cleared list = record list { blocks = map zeroed list.blocks }

-- the numbers of the blocks that cells have, those of parts that are not published too
abbrev pub all_stored : List CellValue → List ℕ
all_stored cells = flat_map stored_in (states_of cells)

-- ---- cells

-- the blocks that stand behind the first places
abbrev pub blocks_past : ℕ → List (Option BlockValue) → List BlockValue
blocks_past count places = flat_map option_to_list (drop count places)

-- the data blocks of parts that are not published: they are no part of an image
abbrev pub fresh_blocks : CellState → List BlockValue
fresh_blocks cell = blocks_past (part_total (log_of cell)) cell.blocks

-- the next cell can be taken apart, while blocks with the numbers `owed` are still to come from
-- other cells
pub record CanLeave (image : ImageValue) (ino : ℕ) (owed : List ℕ) (cell : CellState) (lists : List FreeBlocks) : Type 0 where
  -- the image has the slot of this cell
  pub slot : slot_of image ino ≡ slot_image cell
  -- its blocks have the image's size
  pub size : cell.block ≡ image.numbers.block
  -- each of its blocks is of the device
  pub within : (n : ℕ) → has (stored_in cell) n ≡ true → n < image.numbers.blocks
  -- no two of its blocks have one number
  pub once : (n : ℕ) → times n (stored_in cell) ≤ 1
  -- no cell that is made has one of its blocks, and none that is to come
  pub apart : (n : ℕ) → has (stored_in cell) n ≡ true → (has (used_by image ino) n || has owed n) ≡ false
  -- the image has no block of a part that is not published
  pub unseen : (n : ℕ) → has (numbers_of (fresh_blocks cell)) n ≡ true → has (image_numbers image) n ≡ false
  -- every block that is with no made cell, not here and not to come is in its home list
  pub free : AreFree image ino (stored_in cell ++ owed) lists

-- a cell was taken apart, and its blocks without a place in the image are free
pub record HasLeft (image : ImageValue) (view : ViewValue) (ino : ℕ) (owed : List ℕ) (bare : BareCell) (lists : List FreeBlocks) : Type 0 where
  -- what is left is the image's slot: its generation, its chain and its blocks
  pub left : IsSlotLeft image view ino bare
  -- no cell that is made has one of its blocks, and none that is to come
  pub apart : IsApart image ino owed
  -- every block that is with no made cell, not in this slot and not to come is in its home list
  pub free : AreFree image ino (slot_numbers (slot_of image ino) ++ owed) lists

-- the cells of a device that stops, of which the image comes
pub record AreStopped (image : ImageValue) (cells : List CellValue) : Type 0 where
  -- the image has no fault
  pub faultless : IsFaultless image
  -- the image has the slots of these cells
  pub slots : image.slots ≡ map slot_image (states_of cells)
  -- their blocks have the image's size
  pub sizes : (ino : ℕ) (d : CellValue) → ino < length cells → (slice_index_or cells ino d).state.block ≡ image.numbers.block
  -- no two of their blocks have one number
  pub once : (n : ℕ) → times n (all_stored cells) ≤ 1
  -- each of their blocks is of the device
  pub within : (n : ℕ) → has (all_stored cells) n ≡ true → n < image.numbers.blocks

-- all cells can be taken apart, and made anew by a plan
pub record CanPutAll (image : ImageValue) (view : ViewValue) (cells : List CellValue) (plan : Plan) (lists : List FreeBlocks) : Type 0 where
  -- the image comes of these cells
  pub stopped : AreStopped image cells
  -- what is read is what is seen of the image
  pub sight : IsSeen image view
  -- the plan is one of that image, of which no cell is made yet
  pub planned : IsPlanOf image view 0 plan
  -- what is read is also what these cells show
  pub seen : view.slots ≡ map shown_cell cells
  -- every block that no cell has is in its home list
  pub free : AreFree image 0 (all_stored cells) lists

-- ---- the whole

-- the parts are those of the world that goes on
pub record IsRebuilt (old new : Shared) : Type 0 where
  -- the device is the same
  pub geometry : new.geometry ≡ old.geometry
  -- what is shared is what a mount makes of the image
  pub shared : shared_of new ≡ (mounted (image_by old)).shared
