-- What a plan reads of a device that has stopped: its image, except for the data blocks.
use Rattle.std.specs.Prelude.{◌≡◌, ℕ, ◌<◌, List, length, slice_index_or}
use Rattle.nv_audit.specs.Image.{ImageValue, slot_of}
use Rattle.nv_base.specs.declared.geometry.GeometryNumbers.{GeometryNumbers}
use Rattle.nv_journal.specs.declared.old_tail.OldTail.{OldTail}
use Rattle.nv_log.specs.Chain.{ChainValue, empty_chain}
use Rattle.nv_log.specs.Image.{chain_of}

-- what a plan reads of an inode slot
pub record SlotViewValue : Type 0 where
  -- the slot's generation
  pub generation : ℕ
  -- the chain of its log, with its room for more log pages
  pub chain : ChainValue

-- what a plan reads of an image: all except the data blocks
pub record ViewValue : Type 0 where
  -- the numbers of the geometry
  pub numbers : GeometryNumbers
  -- what is seen of each inode slot, by number
  pub slots : List SlotViewValue
  -- what the journal of each CPU has noted
  pub journals : List (List OldTail)
  -- the numbers of the living snapshots
  pub snapshots : List ℕ
  -- the epoch
  pub epoch : ℕ
  -- the number of the last commit
  pub commit : ℕ

-- a slot of which nothing is seen
abbrev pub nothing : SlotViewValue
nothing = record { generation = 0; chain = record { state = empty_chain 0; spare = 0 } }

-- what is seen of an inode slot
abbrev pub slot_in : ViewValue → ℕ → SlotViewValue
slot_in view ino = slice_index_or view.slots ino nothing

-- an inode slot of an image is seen
pub record IsSlotSeen (image : ImageValue) (ino : ℕ) (slot : SlotViewValue) : Type 0 where
  -- the generation is that of the slot
  pub generation : slot.generation ≡ (slot_of image ino).generation
  -- the chain has what the slot has, on the device's log pages
  pub chain : slot.chain.state ≡ chain_of image.numbers.page (slot_of image ino).chain

-- AN IMAGE IS SEEN, except for its data blocks
pub record IsSeen (image : ImageValue) (view : ViewValue) : Type 0 where
  -- the numbers of the geometry are the image's
  pub numbers : view.numbers ≡ image.numbers
  -- the view has as many slots as the image
  pub count : length view.slots ≡ length image.slots
  -- generation and chain of each slot are the image's
  pub slots : (ino : ℕ) → ino < length image.slots → IsSlotSeen image ino (slot_in view ino)
  -- what the journals have noted is the image's
  pub journals : view.journals ≡ image.journals
  -- the living snapshots are the image's
  pub snapshots : view.snapshots ≡ image.snapshots
  -- the epoch is the image's
  pub epoch : view.epoch ≡ image.epoch
  -- the number of the last commit is the image's
  pub commit : view.commit ≡ image.commit
