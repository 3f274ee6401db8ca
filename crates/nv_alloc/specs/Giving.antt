-- What goes home when blocks are offered to a free list one after another.
use Rattle.std.specs.Prelude.{◌==◌, ◌&&◌, Bool, not, if◌then◌else◌, List, [], ◌∷◌, ◌++◌, length}
use Rattle.nv_alloc.specs.Block.{BlockValue, numbers_of, put_block}
use Rattle.nv_alloc.specs.FreeList.{FreeBlocks, is_home}
use Rattle.nv_alloc.specs.Numbers.{has}

-- the list takes a block that is at home there, is absent, and has as many bytes as its own blocks
abbrev pub takes : FreeBlocks → BlockValue → Bool
takes list block = is_home list block.number && not (has (numbers_of list.blocks) block.number) && (length block.bytes == list.size)

-- the list once the block was offered to it
abbrev pub after_offer : FreeBlocks → BlockValue → FreeBlocks
after_offer list block = if takes list block then record list { blocks = put_block block list.blocks } else list

-- the list once the blocks were offered to it, one after another
abbrev pub after_giving : FreeBlocks → List BlockValue → FreeBlocks
after_giving list [] = list
after_giving list (block ∷ blocks) = after_giving (after_offer list block) blocks

-- the blocks that it did not take
abbrev pub not_taken : FreeBlocks → List BlockValue → List BlockValue
not_taken list [] = []
not_taken list (block ∷ blocks) = (if takes list block then [] else block ∷ []) ++ not_taken (after_offer list block) blocks
