use Rattle.std.proofs.Common.{◌≡◌, ℕ, ◌+◌, ◌*◌, ◌<◌, ◌≤◌, List, None, Option, slice_index_or}
use Rattle.std.specs.Option.{option_copied}
use Rattle.nv_alloc.specs.Block.{BlockValue}
use Rattle.nv_cell.specs.Cell.{AreSlotsSized}
use Rattle.nv_cell.specs.Pages.{AreReadTo, block_of}
use Rattle.nv_cell.proofs.read.push_pages.Given as goal

abbrev pub invariant-loop-page : goal.invariant-loop-page
invariant-loop-page l =
    (slots : List (Option BlockValue)) (numbers : ℕ → Option ℕ) (count : ℕ) → l.places.end ≤ count * l.block → AreSlotsSized l.block slots
    → ((k : ℕ) → l.pages.start + k < l.pages.end
    → option_copied (slice_index_or l.blocks k None) ≡ block_of slots numbers (l.pages.start + k))
    → AreReadTo l.block slots numbers count l.places.start l.places.end l.pages.start l.fn.bytes.items
    → AreReadTo l.block slots numbers count l.places.start l.places.end l.page l.bytes.items
