use Rattle.std.proofs.Common.{ℕ, ◌-◌, ◌*◌, ◌/◌, ◌≤◌}
use Rattle.nv_cell.specs.Pages.{AreReadTo}
use Rattle.nv_cell.specs.Slots.{page_slot}
use Rattle.nv_cell.proofs.read.read_pages.Given as goal

abbrev pub invariant-loop-page : goal.invariant-loop-page
invariant-loop-page l = record {
  begun : l.places.start / l.block ≤ l.page;
  bytes : (count : ℕ) → l.places.end ≤ count * l.block
      → AreReadTo l.block l.slots (page_slot l.chain.state.entries l.index) count l.places.start l.places.end l.page l.bytes.items;
}

abbrev pub decreases-loop-page : goal.decreases-loop-page
decreases-loop-page l = l.last - l.page
