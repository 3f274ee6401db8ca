-- What a mount makes of an image without a fault.
use Rattle.std.specs.Prelude.{◌≡◌, ℕ, ◌<◌, List, [], length, map, reverse, slice_index_or}
use Rattle.nv_alloc.specs.FreeList.{FreeBlocks}
use Rattle.nv_audit.specs.Faults.{IsFaultless}
use Rattle.nv_audit.specs.Image.{ImageValue, image_numbers}
use Rattle.nv_audit.specs.Mounted.{book_anew, cells_of, lists_anew, pool_anew}
use Rattle.nv_audit.specs.Records.{states_of}
use Rattle.nv_cell.specs.declared.bare.BareCell.{BareCell}
use Rattle.nv_mount.specs.Build.{AreFree, IsSlotLeft}
use Rattle.nv_mount.specs.Plan.{IsPlanOf}
use Rattle.nv_mount.specs.Slots.{AreOpen}
use Rattle.nv_mount.specs.View.{IsSeen, SlotViewValue, ViewValue}
use Rattle.nv_mount.specs.declared.mount.MountedParts.{MountedParts}
use Rattle.nv_mount.specs.declared.plan.Plan.{Plan}

-- THE PARTS of the world that a mount makes
pub record AreMounted (image : ImageValue) (parts : MountedParts) : Type 0 where
  -- the cells are what a mount makes of the slots, one by one
  pub cells : states_of parts.cells.items ≡ cells_of image
  -- the free lists have the blocks that no cell has
  pub lists : parts.lists.items ≡ lists_anew image
  -- the pool has the numbers of slots that are not in use
  pub pool : parts.pool ≡ pool_anew image
  -- the book has snapshots, epoch and commit number of the image, and the records anew
  pub book : parts.book.state ≡ book_anew image

-- free are the blocks that an image does not have; those that it has are to come
abbrev pub AreLeft : ImageValue → List FreeBlocks → Type 0
AreLeft image lists = AreFree image 0 (image_numbers image) lists

-- an image whose slots were opened
pub record AreOpened (whole now : ImageValue) (bare : List BareCell) : Type 0 where
  -- each slot of the whole image is opened, the last one first
  pub slots : AreOpen whole.numbers.page whole.slots bare
  -- the image is the whole one without its slots
  pub same : now ≡ record whole { slots = [] }

-- what is seen of the cells that are left
abbrev pub seen_cell : BareCell → SlotViewValue
seen_cell cell = record { generation = cell.generation; chain = cell.chain }

-- what is seen of cells that are left, one after another
abbrev pub AreSeen : List BareCell → List SlotViewValue → Type 0
AreSeen cells slots = slots ≡ map seen_cell cells

-- an image is planned, and can be built of what is left of its slots
pub record CanBuild (image : ImageValue) (plan : Plan) (bare : List BareCell) : Type 0 where
  -- the image has no fault
  pub faultless : IsFaultless image
  -- what the plan has seen
  pub view : ViewValue
  -- the view is of the image
  pub seen : IsSeen image view
  -- the plan is of the image, and no cell is made yet
  pub planned : IsPlanOf image view 0 plan
  -- something is left of each slot
  pub count : length bare ≡ length image.slots
  -- what is left of each slot is there, the last one first
  pub left : (ino : ℕ) (d : BareCell) → ino < length bare → IsSlotLeft image view ino (slice_index_or (reverse bare) ino d)

-- all cells of an image are made
pub record IsBuilt (image : ImageValue) (plan : Plan) (lists : List FreeBlocks) : Type 0 where
  -- what the plan has seen
  pub view : ViewValue
  -- the plan is of the image, with the cells of all slots
  pub planned : IsPlanOf image view (length image.slots) plan
  -- free is each block except those of the cells
  pub free : AreFree image (length image.slots) [] lists
