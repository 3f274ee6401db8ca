-- What stands of a device once it has stopped: an image, which may come from anywhere.
use Rattle.std.specs.Prelude.{ℕ, List, [], ◌++◌, slice_index_or}
use Rattle.std.specs.List.{flat_map}
use Rattle.nv_alloc.specs.Block.{BlockValue, numbers_of}
use Rattle.nv_base.specs.declared.geometry.GeometryNumbers.{GeometryNumbers}
use Rattle.nv_journal.specs.declared.old_tail.OldTail.{OldTail}
use Rattle.nv_log.specs.Image.{ChainImageValue, no_chain}

-- an inode slot of an image.
-- Indexes, counts, free lists, records, pins and hands are not in it.
pub record SlotImageValue : Type 0 where
  -- the slot's generation
  pub generation : ℕ
  -- its log, in its pages, with the entries past the tail
  pub chain : ChainImageValue
  -- its data blocks
  pub blocks : List BlockValue

-- AN IMAGE of a device that has stopped
pub record ImageValue : Type 0 where
  -- the numbers of its geometry
  pub numbers : GeometryNumbers
  -- each inode slot
  pub slots : List SlotImageValue
  -- what the journal of each CPU has noted
  pub journals : List (List OldTail)
  -- the numbers of the living snapshots
  pub snapshots : List ℕ
  -- the epoch
  pub epoch : ℕ
  -- the number of the last commit
  pub commit : ℕ

-- a slot without anything, for a number that has none
abbrev pub no_slot : SlotImageValue
no_slot = record { generation = 0; chain = no_chain; blocks = [] }

-- what an image has of an inode slot
abbrev pub slot_of : ImageValue → ℕ → SlotImageValue
slot_of image ino = slice_index_or image.slots ino no_slot

-- the blocks of a slot: its log pages, and then its data blocks
abbrev pub slot_blocks : SlotImageValue → List BlockValue
slot_blocks slot = slot.chain.pages ++ slot.blocks

-- all blocks of an image
abbrev pub image_blocks : ImageValue → List BlockValue
image_blocks image = flat_map slot_blocks image.slots

-- the numbers of a slot's blocks
abbrev pub slot_numbers : SlotImageValue → List ℕ
slot_numbers slot = numbers_of (slot_blocks slot)

-- the numbers of all blocks of an image
abbrev pub image_numbers : ImageValue → List ℕ
image_numbers image = flat_map slot_numbers image.slots

-- what all journals have noted
abbrev pub all_notes : List (List OldTail) → List OldTail
all_notes journals = flat_map (λ (tails : List OldTail). tails) journals
