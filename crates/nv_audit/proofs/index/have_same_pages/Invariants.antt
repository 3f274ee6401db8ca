use Rattle.std.proofs.Common.{◌≡◌, ℕ, ◌<◌, ◌-◌}
use Rattle.nv_base.specs.declared.limits.TheConstants.{FILE_PAGES}
use Rattle.nv_findex.specs.Pages.{ref_at}
use Rattle.nv_audit.proofs.index.have_same_pages.Given as goal

abbrev pub invariant-loop-run : goal.invariant-loop-run
invariant-loop-run l = (page : ℕ) → page < l.page → ref_at l.one.pages page ≡ ref_at l.other.pages page

abbrev pub decreases-loop-run : goal.decreases-loop-run
decreases-loop-run l = FILE_PAGES - l.page
