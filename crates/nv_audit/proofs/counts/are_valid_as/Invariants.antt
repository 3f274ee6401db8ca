use Rattle.std.proofs.Common.{◌≡◌, ℕ, ◌<◌}
use Rattle.nv_cell.specs.Readers.{counts_of}
use Rattle.nv_audit.specs.Retained.{marked_on}
use Rattle.nv_audit.proofs.counts.are_valid_as.Given as goal

abbrev pub invariant-loop-page : goal.invariant-loop-page
invariant-loop-page l = (page : ℕ) → page < l.page → (counts_of l.cell.state page).valid ≡ marked_on l.cell.state l.entries page
