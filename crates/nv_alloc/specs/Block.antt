-- Blocks: their numbers, and lists of them.
use Rattle.std.specs.Prelude.{◌≡◌, ℕ, ◌==◌, not, if◌then◌else◌, List, [], ◌∷◌, Option, Some, None, filter, length, map, replicate}
use Rattle.std.specs.List.{AllByRecursion, range_with_len}
use Rattle.nv_alloc.specs.Numbers.{put_by}

-- what clauses see of a block
pub record BlockValue : Type 0 where
  -- its number on the device, from 0
  pub number : ℕ
  -- the bytes that are written in it
  pub bytes : List ℕ

-- the number of a block
abbrev pub number_of : BlockValue → ℕ
number_of block = block.number

-- the numbers of blocks, in order
abbrev pub numbers_of : List BlockValue → List ℕ
numbers_of blocks = map number_of blocks

-- the first block of that number, if the list has one
abbrev pub block_by : List BlockValue → ℕ → Option BlockValue
block_by [] number = None
block_by (b ∷ blocks) number = if b.number == number then Some b else block_by blocks number

-- the blocks except those of a number
abbrev pub without_block : ℕ → List BlockValue → List BlockValue
without_block number blocks = filter (λ block. not (block.number == number)) blocks

-- each block has this many bytes
abbrev pub AreSized : ℕ → List BlockValue → Type 0
AreSized size blocks = AllByRecursion (λ block. length block.bytes ≡ size) blocks

-- a block of this number, all of whose bytes are 0
abbrev pub zero_block : ℕ → ℕ → BlockValue
zero_block size number = record { number = number; bytes = replicate size 0 }

-- a block with 0 in place of each of its bytes
abbrev pub zeroed : BlockValue → BlockValue
zeroed block = zero_block (length block.bytes) block.number

-- the blocks from `low` on, `len` of them, all of whose bytes are 0
abbrev pub zero_blocks : ℕ → ℕ → ℕ → List BlockValue
zero_blocks size low len = map (zero_block size) (range_with_len low len)

-- the list with the block before the first one of a greater number
abbrev pub put_block : BlockValue → List BlockValue → List BlockValue
put_block block blocks = put_by number_of block blocks

-- the list with each of the blocks put in, one after the other
abbrev pub put_blocks : List BlockValue → List BlockValue → List BlockValue
put_blocks [] blocks = blocks
put_blocks (given ∷ rest) blocks = put_blocks rest (put_block given blocks)
