-- Free lists.
use Rattle.std.specs.Prelude.{◌≡◌, ℕ, ◌+◌, ◌<◌, ◌≤◌, ◌^◌, ◌&&◌, if◌then◌else◌, Bool, drop, is_some, nat_lt, nat_le, List, [], ◌∷◌, Option, Some, None, length, map, slice_index_or}
use Rattle.std.specs.List.{AllByRecursion, flat_map}
use Rattle.nv_base.specs.Homes.{home_start}
use Rattle.nv_base.specs.declared.geometry.GeometryNumbers.{GeometryNumbers}
use Rattle.nv_alloc.specs.Block.{AreSized, BlockValue, numbers_of, put_block, without_block}
use Rattle.nv_alloc.specs.Numbers.{IsRising}
use Rattle.nv_alloc.specs.Places.{present}

-- what clauses see of a free list
pub record FreeBlocks : Type 0 where
  -- the first block number of the home range
  pub start : ℕ
  -- the block number behind the last of the home range
  pub end : ℕ
  -- how many bytes a block has
  pub size : ℕ
  -- the blocks that are free
  pub blocks : List BlockValue

-- the number is in the home range
abbrev pub is_home : FreeBlocks → ℕ → Bool
is_home list n = nat_le list.start n && nat_lt n list.end

-- what holds of each free list
pub record IsFreeList (list : FreeBlocks) : Type 0 where
  -- the blocks stand by rising number
  pub rising : IsRising (numbers_of list.blocks)
  -- no block is below the home range
  pub from_start : AllByRecursion (λ n. list.start ≤ n) (numbers_of list.blocks)
  -- no block is behind the home range
  pub below_end : AllByRecursion (λ n. n < list.end) (numbers_of list.blocks)
  -- each block has as many bytes as the list says
  pub sized : AreSized list.size list.blocks

-- a list is the free list of a CPU
pub record IsHomeList (g : GeometryNumbers) (cpu : ℕ) (list : FreeBlocks) : Type 0 where
  -- it begins where the CPU's home range begins
  pub start : list.start ≡ home_start g.blocks g.cpus cpu
  -- it ends where the next CPU's home range begins
  pub end : list.end ≡ home_start g.blocks g.cpus (cpu + 1)
  -- its blocks have as many bytes as the device's
  pub size : list.size ≡ g.block
  -- it is a free list
  pub free : IsFreeList list

-- a list without a home range, which stands for one that is not there
abbrev pub no_list : FreeBlocks
no_list = record { start = 0; end = 0; size = 0; blocks = [] }

-- the lists are those of a device
pub record AreListsOf (g : GeometryNumbers) (lists : List FreeBlocks) : Type 0 where
  -- there is a list for each CPU
  pub cpus : length lists ≡ g.cpus
  -- each CPU's list is the free list of that CPU
  pub each : (cpu : ℕ) → cpu < g.cpus → IsHomeList g cpu (slice_index_or lists cpu no_list)

-- the blocks of all lists
abbrev pub free_blocks : List FreeBlocks → List BlockValue
free_blocks lists = flat_map (λ (list : FreeBlocks). list.blocks) lists

-- a list without the block of a number
abbrev pub without : ℕ → FreeBlocks → FreeBlocks
without number list = record list { blocks = without_block number list.blocks }

-- a list with the block put in where it is at home there, and else as it was
abbrev pub with_home : BlockValue → FreeBlocks → FreeBlocks
with_home block list = if is_home list block.number then record list { blocks = put_block block list.blocks } else list

-- each block is in the slot of its number, where the first slot is that of the number `start`
abbrev pub ArePlaced : ℕ → List (Option BlockValue) → Type 0
ArePlaced start [] = Unit {0}
ArePlaced start (None ∷ slots) = ArePlaced (start + 1) slots
ArePlaced start (Some block ∷ slots) = (block.number ≡ start) × ArePlaced (start + 1) slots

-- from a place on, the flags tell which of these slots have a block
abbrev pub AreFlagsFrom : ℕ → List Bool → List (Option BlockValue) → Type 0
AreFlagsFrom at flags slots = (at ≤ length flags) × (drop at flags ≡ map is_some slots)

-- the slots of a free list, the set of its free places and its count fit one another
pub record IsShelf (start size : ℕ) (slots : List (Option BlockValue)) (free : List Bool) (count : ℕ) : Type 0 where
  -- each block is in the slot of its number
  pub placed : ArePlaced start slots
  -- the set has exactly the places of the slots with a block
  pub flags : free ≡ map is_some slots
  -- the count is how many blocks there are
  pub counted : count ≡ length (present slots)
  -- each block has `size` bytes
  pub sized : AreSized size (present slots)
  -- the home range ends below 2^32
  pub small : start + length slots < 2 ^ 32
