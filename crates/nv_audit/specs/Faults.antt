-- THE EIGHT FAULTS of an image, each by what an image without it has; and the first one.
use Rattle.std.specs.Prelude.{◌≡◌, ℕ, ◌<◌, ◌≤◌, All, true, List, [], length, Some}
use Rattle.std.specs.Option.{option_map}
use Rattle.nv_alloc.specs.Block.{AreSized, block_by, number_of}
use Rattle.nv_alloc.specs.Numbers.{times}
use Rattle.nv_base.specs.declared.fault.ImageFault.{ImageFault}
use Rattle.nv_base.specs.declared.fault.ImageFault.TheVariants as fault
use Rattle.nv_base.specs.declared.geometry.GeometryNumbers.{GeometryNumbers}
use Rattle.nv_base.specs.declared.limits.TheConstants.{NUMBER}
use Rattle.nv_cell.specs.Cell.{CellState, log_of, page_block}
use Rattle.nv_cell.specs.Marks.{is_there, mark_at}
use Rattle.nv_entry.specs.Log.{IsLog}
use Rattle.nv_entry.specs.Shape.{IsGoneLast, IsShaped, items_of}
use Rattle.nv_entry.specs.declared.item.Entry.{Entry}
use Rattle.nv_epoch.specs.Holders.{IsRising}
use Rattle.nv_log.specs.Image.{IsPaged}
use Rattle.nv_audit.specs.Image.{ImageValue, SlotImageValue, image_numbers, slot_of}
use Rattle.nv_audit.specs.LogShape.{AreNoLater}
use Rattle.nv_audit.specs.Mounted.{are_journals_good, cell_of, cells_of, cut_log}
use Rattle.nv_audit.specs.Nodes.{AreTrees}
use Rattle.nv_audit.specs.Sound.{EndsAtSize}

-- ---- geometry

-- a slot fits its device
pub record FitsSlot (g : GeometryNumbers) (slot : SlotImageValue) : Type 0 where
  -- each log page has the device's block size, in bytes
  pub pages : AreSized g.block slot.chain.pages
  -- each data block has the device's block size, in bytes
  pub blocks : AreSized g.block slot.blocks
  -- the generation is at least 1
  pub some : 1 ≤ slot.generation
  -- the generation is at most the greatest
  pub most : slot.generation ≤ NUMBER
  -- a slot of the last generation has no log page
  pub last : slot.generation ≡ NUMBER → slot.chain.pages ≡ []

-- `geometry`: an image has the parts that its geometry says, and its numbers are in their ranges
pub record FitsGeometry (image : ImageValue) : Type 0 where
  -- there are as many slots as inodes
  pub slots : length image.slots ≡ image.numbers.inodes
  -- there are as many journals as CPUs
  pub journals : length image.journals ≡ image.numbers.cpus
  -- no more snapshots live than allowed
  pub snapshots : length image.snapshots ≤ image.numbers.snaps
  -- each slot fits
  pub each : (ino : ℕ) → ino < length image.slots → FitsSlot image.numbers (slot_of image ino)
  -- the epoch is at least 1
  pub some_epoch : 1 ≤ image.epoch
  -- the epoch is at most the greatest
  pub epoch : image.epoch ≤ NUMBER
  -- the commit number is at most the greatest
  pub commit : image.commit ≤ NUMBER

-- ---- block

-- `block`: the blocks of an image are blocks of the device
pub record AreBlocksGood (image : ImageValue) : Type 0 where
  -- each block number is one of the device's
  pub within : (n : ℕ) → 1 ≤ times n (image_numbers image) → n < image.numbers.blocks
  -- no block number stands in the image twice
  pub once : (n : ℕ) → times n (image_numbers image) ≤ 1

-- ---- chain

-- `chain`: the entries of each slot stand on its log pages
abbrev pub AreChainsGood : ImageValue → Type 0
AreChainsGood image = (ino : ℕ) → ino < length image.slots → IsPaged image.numbers.page (slot_of image ino).chain

-- ---- entry

-- the entries of a slot, those past the tail too, are in order
pub record AreOrdered (commit epoch : ℕ) (entries : List Entry) : Type 0 where
  -- ids rise along the entries, and epochs never fall
  pub rising : IsLog entries
  -- no entry is of a later commit or epoch
  pub no_later : AreNoLater commit epoch entries

-- `entry`: along all entries of a slot ids rise and epochs never fall, and none is of a later
-- commit or epoch than the image
abbrev pub AreEntriesGood : ImageValue → Type 0
AreEntriesGood image = (ino : ℕ) → ino < length image.slots → AreOrdered image.commit image.epoch (slot_of image ino).chain.entries

-- ---- item

-- the log of a slot is of its shape
pub record IsLogGood (image : ImageValue) (ino : ℕ) : Type 0 where
  -- nothing stands behind a Gone in the cut log
  pub last : IsGoneLast (items_of (cut_log image ino))
  -- the log of the slot's cell, which is empty for an erased inode, is of its shape
  pub shaped : IsShaped image.numbers.block (log_of (cell_of image ino))

-- `item`: the logs of an image give nodes that form trees
pub record AreItemsGood (image : ImageValue) : Type 0 where
  -- the log of each slot is of its shape
  pub logs : (ino : ℕ) → ino < length image.slots → IsLogGood image ino
  -- the nodes of all cells form a tree, now and at each living snapshot
  pub trees : AreTrees image.snapshots (cells_of image)

-- ---- run

-- the part `n` of a cell is a page that is not out, in this block
pub record IsNeededPage (cell : CellState) (n number : ℕ) : Type 0 where
  -- the part is not out
  pub there : is_there (mark_at cell.marks n) ≡ true
  -- the part's entry puts a page in this block
  pub says : page_block cell.block (log_of cell) n ≡ Some number

-- a slot has the blocks of its file
pub record IsRunGood (image : ImageValue) (ino : ℕ) : Type 0 where
  -- the block of each needed page is among the data blocks of the slot
  pub there : (n number : ℕ) → IsNeededPage (cell_of image ino) n number
      → option_map number_of (block_by (slot_of image ino).blocks number) ≡ Some number
  -- no two needed pages have one block
  pub once : (n m number : ℕ) → IsNeededPage (cell_of image ino) n number → IsNeededPage (cell_of image ino) m number → n ≡ m
  -- the file ends at its size
  pub ends : EndsAtSize (cell_of image ino)

-- `run`: each slot has the blocks of its file
abbrev pub AreRunsGood : ImageValue → Type 0
AreRunsGood image = (ino : ℕ) → ino < length image.slots → IsRunGood image ino

-- ---- journal

-- `journal`: each note of a journal is good, and no inode is noted twice
abbrev pub AreJournalsGood : ImageValue → Type 0
AreJournalsGood image = are_journals_good image ≡ true

-- ---- snaps

-- `snaps`: the living snapshots of an image are in order
pub record AreSnapsGood (image : ImageValue) : Type 0 where
  -- the numbers of the living snapshots rise
  pub rising : IsRising image.snapshots
  -- each number is below the epoch
  pub below : All (λ (snapshot : ℕ). snapshot < image.epoch) image.snapshots

-- ---- all

-- the image has not this fault, which is told by what an image without it has
abbrev pub IsWithout : ImageFault → ImageValue → Type 0
IsWithout fault.Geometry image = FitsGeometry image
IsWithout fault.Block image = AreBlocksGood image
IsWithout fault.Chain image = AreChainsGood image
IsWithout fault.Entry image = AreEntriesGood image
IsWithout fault.Item image = AreItemsGood image
IsWithout fault.Run image = AreRunsGood image
IsWithout fault.Journal image = AreJournalsGood image
IsWithout fault.Snaps image = AreSnapsGood image

-- AN IMAGE WITHOUT A FAULT: it has none of the eight.
-- Example: where the slot 3 has a block number that is not the device's, and the slot 1 a tail
-- past its entries, the first fault is `block`.
abbrev pub IsFaultless : ImageValue → Type 0
IsFaultless image = (fault : ImageFault) → IsWithout fault image

-- the place of a fault in the order in which they are told
abbrev pub fault_order : ImageFault → ℕ
fault_order fault.Geometry = 0
fault_order fault.Block = 1
fault_order fault.Chain = 2
fault_order fault.Entry = 3
fault_order fault.Item = 4
fault_order fault.Run = 5
fault_order fault.Journal = 6
fault_order fault.Snaps = 7

-- the image has no fault before this one
abbrev pub IsWithoutEarlier : ImageFault → ImageValue → Type 0
IsWithoutEarlier fault image = (earlier : ImageFault) → fault_order earlier < fault_order fault → IsWithout earlier image

-- THE FIRST FAULT of an image
pub record IsFirstFault (fault : ImageFault) (image : ImageValue) : Type 0 where
  -- the image has no fault that is told before this one
  pub earlier : IsWithoutEarlier fault image
  -- the image has this fault
  pub has : ¬ IsWithout fault image
