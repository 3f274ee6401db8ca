use Rattle.std.proofs.Common.{ap, sym, ◌∙◌}
use Rattle.std.specs.Option.{option_map}
use Rattle.std.proofs.lemmas.Option.{none-some}
use Rattle.nv_cell.specs.Index.{page_part}
use Rattle.nv_entry.specs.Keys.{PageKey}
use Rattle.nv_entry.specs.Refs.{ref_after}
use Rattle.nv_entry.proofs.Refs.{scan_ref-more}
use Rattle.nv_findex.specs.Pages.{ref_at}
use Rattle.nv_audit.proofs.scanned_pages.scanned_pages.Goals as goal

pub loop-entry-init : goal.loop-entry-init
unfolding ref_at
loop-entry-init c = record {
  within = λ page at is. absurd (none-some at (sym (ap (λ v. ref_at v.pages page) c.new-pages.ensures) ∙ is));
  are = λ page. ap (λ v. option_map page_part (ref_at v.pages page)) c.new-pages.ensures;
}

pub loop-entry-preserved : goal.loop-entry-preserved
loop-entry-preserved c = record {
  within = c.put_entry.ensures.within;
  are = λ page.
      c.in_ok-put_entry.ensures.ok page
      ∙ ap (ref_after c.args.block c.entry-item.result (PageKey page)) (c.loop-entry.invariant.are page)
      ∙ sym (scan_ref-more c.args.block c.args.log.now c.loop-entry.entry-index c.entry-item.result (PageKey page)
      c.loop-entry-test.true c.entry-item.is);
}
