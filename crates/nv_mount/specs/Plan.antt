-- What is planned of a device that has stopped.
use Rattle.std.specs.Prelude.{◌≡◌, ℕ, ◌+◌, ◌<◌, ◌≤◌, Bool, true, false, List, [], length, map, slice_index_or, vec_capacity}
use Rattle.std.specs.List.{range_with_len}
use Rattle.nv_audit.specs.Image.{ImageValue}
use Rattle.nv_audit.specs.Mounted.{book_anew, cell_of, cut_log, is_over, pool_anew, tail_of}
use Rattle.nv_audit.specs.Records.{states_of}
use Rattle.nv_cell.specs.declared.plan.CellPlan.{CellPlan}
use Rattle.nv_cell.specs.Plan.{IsBare, IsPlan, page_room}
use Rattle.nv_log.specs.Image.{pages_past}
use Rattle.nv_mount.specs.View.{ViewValue, slot_in}
use Rattle.nv_mount.specs.declared.plan.Plan.{Plan}
use Rattle.nv_mount.specs.declared.plan.SlotPlan.{SlotPlan}
use Rattle.nv_mount.specs.declared.plan.SlotPlan.TheVariants as slot

-- the inode of a slot is erased by a mount: it is gone, and no living snapshot holds a pair of it
abbrev pub is_erased : ImageValue → ℕ → Bool
is_erased image ino = is_over image.snapshots image.numbers.block (cut_log image ino)

-- of each slot whether its inode is erased by a mount
abbrev pub erased_in : ImageValue → List Bool
erased_in image = map (is_erased image) (range_with_len 0 (length image.slots))

-- the plan of a slot whose inode stays
pub record IsCellPlan (image : ImageValue) (view : ViewValue) (ino tail : ℕ) (plan : CellPlan) : Type 0 where
  -- the inode of the slot is not erased
  pub stays : is_erased image ino ≡ false
  -- the tail is where the log of the slot is cut
  pub tail_is : tail ≡ tail_of image ino
  -- index and marks are those of the cut log, with room for what follows from them
  pub planned : IsPlan image.numbers.block image.snapshots (cut_log image ino) (page_room (slot_in view ino).chain) plan
  -- no part has its block yet, and there is room for all
  pub bare : IsBare (cut_log image ino) plan

-- what becomes of a slot: it is erased, or gets the cell of its cut log
abbrev pub IsSlotPlan : ImageValue → ViewValue → ℕ → SlotPlan → Type 0
IsSlotPlan image view ino slot.Erased = is_erased image ino ≡ true
IsSlotPlan image view ino (slot.Cell tail plan) = IsCellPlan image view ino tail plan

-- there is room for the pages that a cut of any log gives away
abbrev pub HavePageRoom : ImageValue → ViewValue → ℕ → Type 0
HavePageRoom image view room =
    (ino : ℕ) → ino < length image.slots → length (pages_past (tail_of image ino) (slot_in view ino).chain.state) ≤ room

-- A PLAN of an image, of which the cells of the first `made` slots are made
pub record IsPlanOf (image : ImageValue) (view : ViewValue) (made : ℕ) (plan : Plan) : Type 0 where
  -- the plan is for the image's geometry
  pub geometry : plan.geometry.numbers ≡ image.numbers
  -- each slot of the image has a made cell or a slot plan
  pub count : made + length plan.slots.items ≡ length image.slots
  -- the n-th slot plan is of the slot `made + n`
  pub slots : (n : ℕ) (d : SlotPlan) → n < length plan.slots.items
      → IsSlotPlan image view (made + n) (slice_index_or plan.slots.items n d)
  -- the cells of the first `made` slots are made
  pub cells : states_of plan.cells.items ≡ map (cell_of image) (range_with_len 0 made)
  -- there is room for the cells of all slots
  pub room : length image.slots ≤ vec_capacity plan.cells
  -- the queue for log pages that a cut gives away takes blocks of the device's size
  pub size : plan.pages.size ≡ image.numbers.block
  -- that queue has no block
  pub none : plan.pages.blocks ≡ []
  -- that queue has room for the pages that a cut of any log gives away
  pub pages : HavePageRoom image view plan.pages.room
  -- the pool is made anew of the image
  pub pool : plan.pool ≡ pool_anew image
  -- the book is made anew of the image
  pub book : plan.book.state ≡ book_anew image
