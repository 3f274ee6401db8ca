-- The bytes of a file's pages, by the index and the blocks of its cell.
use Rattle.std.specs.Prelude.{◌≡◌, ℕ, ◌+◌, ◌-◌, ◌*◌, ◌<◌, ◌≤◌, ◌^◌, List, min, replicate, Option, Some, None, option_and_then, slice_index_or, take}
use Rattle.std.specs.List.{flat_map, range_with_len}
use Rattle.nv_alloc.specs.Block.{BlockValue}
use Rattle.nv_entry.specs.Bytes.{read_at}
use Rattle.nv_entry.specs.Keys.{PageKey, pages_for}
use Rattle.nv_entry.specs.Node.{size_now}
use Rattle.nv_entry.specs.Refs.{scan_ref}
use Rattle.nv_cell.specs.declared.read.Stretch.{Stretch}
use Rattle.nv_cell.specs.Cell.{CellState, log_of}
use Rattle.nv_cell.specs.Numbers.{number}

-- `bytes` gives the bytes of each block that the cell has for a part
abbrev pub AreBytesOf : CellState → (ℕ → List ℕ) → Type 0
AreBytesOf cell bytes = (n : ℕ) (b : BlockValue) → slice_index_or cell.blocks n None ≡ Some b → bytes b.number ≡ b.bytes

-- the bytes of a part's block: zeros where it has none
abbrev pub slot_bytes : ℕ → Option BlockValue → List ℕ
slot_bytes block None = replicate block 0
slot_bytes block (Some b) = b.bytes

-- the block that the cell has for the part that holds a page now
abbrev pub block_at_page : CellState → ℕ → Option BlockValue
block_at_page cell page =
    option_and_then (λ r. slice_index_or cell.blocks (number cell.chain.entries r) None) (scan_ref cell.block (log_of cell) (PageKey page))

-- the block in the slot of a page, by the numbers of the slots
abbrev pub block_of : List (Option BlockValue) → (ℕ → Option ℕ) → ℕ → Option BlockValue
block_of slots numbers page = option_and_then (λ n. slice_index_or slots n None) (numbers page)

-- the bytes of a page of a file by its slot
abbrev pub page_now : ℕ → List (Option BlockValue) → (ℕ → Option ℕ) → ℕ → List ℕ
page_now block slots numbers page = slot_bytes block (block_of slots numbers page)

-- the first pages of a file, one after another
abbrev pub pages_now : ℕ → List (Option BlockValue) → (ℕ → Option ℕ) → ℕ → List ℕ
pages_now block slots numbers count = flat_map (page_now block slots numbers) (range_with_len 0 count)

-- these are the bytes of a file between two places, as far as the pages before `page` have them
abbrev pub AreReadTo : ℕ → List (Option BlockValue) → (ℕ → Option ℕ) → ℕ → ℕ → ℕ → ℕ → List ℕ → Type 0
AreReadTo block slots numbers count start end page bytes =
    bytes ≡ read_at start (min end (page * block) - start) (pages_now block slots numbers count)

-- the bytes of a page of the file that a cell holds, by the block that it has for the page
abbrev pub own_page : CellState → ℕ → List ℕ
own_page cell page = slot_bytes cell.block (block_at_page cell page)

-- the bytes of the file that a cell holds, by the blocks that it has: page by page, with zeros
-- where no part holds a page, cut at the size
abbrev pub own_bytes : CellState → List ℕ
own_bytes cell =
    let size = size_now cell.block (log_of cell) in take size (flat_map (own_page cell) (range_with_len 0 (pages_for cell.block size)))

-- the next stretch of present pages from the page `from` on; `numbers` gives the slot of each page
pub record IsStretch (numbers : ℕ → Option ℕ) (from : ℕ) (s : Stretch) : Type 0 where
  -- the stretch ends behind `from`
  pub ahead : from < s.end
  -- the slots of the stretch are below 2^64
  pub small : s.slot + (s.end - s.first) < 2 ^ 64
  -- no page from `from` up to the stretch is present
  pub absent : (page : ℕ) → from ≤ page → page < s.first → numbers page ≡ None
  -- each page of the stretch has a slot, and these rise by one from page to page
  pub present : (page : ℕ) → s.first ≤ page → page < s.end → numbers page ≡ Some (s.slot + (page - s.first))
