-- The nodes that a cell gives, by its log and its blocks.
use Rattle.std.specs.Prelude.{ℕ, ◌<◌, List, Option, IsSome, take, unwrap_or}
use Rattle.std.specs.Option.{IfSome, option_map}
use Rattle.nv_entry.specs.declared.item.Entry.{Entry}
use Rattle.nv_entry.specs.declared.node.NodeCopy.{NodeCopy}
use Rattle.nv_entry.specs.declared.part.PartId.{PartId}
use Rattle.nv_entry.specs.Keys.{pages_for}
use Rattle.nv_entry.specs.Node.{size_now}
use Rattle.nv_cell.specs.Cell.{CellState, block_named}
use Rattle.nv_reader.specs.Blocks.{page_part, page_writer, shown_node}

-- the bytes of a part's block
abbrev pub part_bytes : CellState → PartId → Option (List ℕ)
part_bytes cell id = option_map (λ b. b.bytes) (block_named cell id)

-- the node that a cell shows of some entries of its log, by its own blocks. A page has the block
-- of the part that holds it, and shows zeros where none does or where that part has no block.
abbrev pub own_node : CellState → List Entry → Option NodeCopy
own_node cell log = shown_node (part_bytes cell) cell.block log

-- each part that holds a page below the size of these entries' file has its block
abbrev pub NoneOut : CellState → List Entry → Type 0
NoneOut cell log = (page : ℕ) → page < pages_for cell.block (size_now cell.block log)
    → IfSome (page_writer cell.block log page) (λ entry. IsSome (block_named cell (page_part page entry)))

-- the settled log: up to the tail that an open journal has noted, else up to the cell's own tail
abbrev pub settled : Option ℕ → CellState → List Entry
settled noted cell = take (unwrap_or noted cell.chain.tail) cell.chain.entries
