use Rattle.std.proofs.Common.{◌≡◌, ℕ, ◌+◌, ◌-◌, ◌<◌, None, length, slice_index_or}
use Rattle.nv_cell.specs.Pages.{IsStretch}
use Rattle.nv_cell.specs.Slots.{page_slot}
use Rattle.nv_cell.proofs.read.find_slots.Given as goal

abbrev pub invariant-loop-page : goal.invariant-loop-page
invariant-loop-page l = record {
  numbers : (k : ℕ) → l.pages.start + k < l.page
      → slice_index_or l.numbers k None ≡ page_slot l.chain.state.entries l.index (l.pages.start + k);
  len : length l.numbers ≡ 16;
  stretch : l.pages.start < l.page → IsStretch (page_slot l.chain.state.entries l.index) (l.page - 1) l.stretch;
}
