use Rattle.std.proofs.Common.{take}
use Rattle.nv_findex.specs.Pages.{AreWithin, ref_at}
use Rattle.nv_audit.specs.Index.{ArePagesOf}
use Rattle.nv_audit.proofs.scanned_pages.scanned_pages.Given as goal

abbrev pub invariant-loop-entry : goal.invariant-loop-entry
invariant-loop-entry l = record {
  within : AreWithin (ref_at l.pages.pages);
  are : ArePagesOf l.block (take l.entry-index l.log) l.pages;
}
