-- Entries and whole pages that may go are taken out of a cell.
use Rattle.std.proofs.Common.{◌≡◌, ◌∙◌, Bool, List, length}
use Rattle.std.proofs.lemmas.List.{length-take-le}
use Rattle.nv_alloc.specs.Block.{BlockValue}
use Rattle.nv_cell.specs.Cell.{CellState, IsCell, log_of}
use Rattle.nv_cell.specs.Removal.{ArePublished, MayGo, log_flags}
use Rattle.nv_cell.proofs.PageFlags.{pages_left}
use Rattle.nv_cell.proofs.Removing.{AreTaken, compact_left}
use Rattle.nv_log.specs.Chain.{compacted, with_pages_left}

pub entries_taken : (flags : List Bool) (pages : List BlockValue) (cell : CellState) → IsCell cell
    → length flags ≡ length (log_of cell) → MayGo flags cell
    → AreTaken flags cell (compacted flags pages cell.chain)
entries_taken flags pages cell is len may = record {
  left = compact_left flags pages cell.chain
      (len ∙ length-take-le cell.chain.tail cell.chain.entries is.chain.within) is.chain.within;
  marks = is.marks;
  blocks = is.blocks;
  may = may;
}

pub pages_taken : (stays : List Bool) (cell : CellState) → IsCell cell
    → length stays ≡ length cell.chain.ends
    → ArePublished stays cell.chain → MayGo (log_flags stays cell.chain) cell
    → AreTaken (log_flags stays cell.chain) cell (with_pages_left stays cell.chain)
pages_taken stays cell is len published may = record {
  left = pages_left stays cell.chain is.chain len published;
  marks = is.marks;
  blocks = is.blocks;
  may = may;
}
