use Rattle.std.proofs.Common.{◌≡◌, ◌++◌, inl, inr, ℕ, List, Option, None, arith, ap, sym, ◌∙◌}
use Rattle.std.specs.Prelude.{option_and_then}
use Rattle.std.specs.Option.{option_map}
use Rattle.std.proofs.lemmas.Bool.{cases_lt}
use Rattle.std.proofs.lemmas.List.{get_or_past}
use Rattle.nv_base.specs.declared.numbers.EntryId.{EntryId}
use Rattle.nv_reader.specs.Blocks.{page_part, page_text, page_writer, shown_page}
use Rattle.nv_reader.specs.Writers.{entry_at}
use Rattle.nv_reader.specs.declared.pages.Writer.{Writer}
use Rattle.nv_entry.proofs.Nodes.{pages-more}
use Rattle.nv_reader.proofs.PageParts.{writer_past}
use Rattle.nv_reader.proofs.bytes.file_bytes.Goals as goal

pub loop-page-preserved : goal.loop-page-preserved
loop-page-preserved g c =
    let block = c.args.block in
    let log = c.args.log.now in
    let page = c.loop-page.page in
    let parts = g.B.PartBlocks.bytes_of c.args.blocks.now in
    let writers : List (Option Writer) = c.in_ok-writers.writers.items in
    let lent = ap (λ (ws : List (Option Writer)). option_and_then (λ (entry : EntryId). parts (page_part page entry)) (entry_at ws page))
    c.deref.ensures.value in
    let held : entry_at writers page ≡ page_writer block log page =
    elim (cases_lt page 65536) [
      | inl lt ↦ c.in_ok-writers.ensures.writers page (omega (arith, lt, c.loop-page-test.true, c.min.ensures, c.from.ensures))
      | inr ge ↦ ap (option_map (λ (w : Writer). w.entry))
          (get_or_past writers page None (omega (arith, ge, c.in_ok-writers.ensures.len, c.min.ensures)))
          ∙ sym (writer_past block page log ge)
    ] in
    c.in_ok-push_page.ensures
    ∙ ap (λ (o : Option (List ℕ)). c.loop-page.text.items ++ page_text block o) (c.page_in.ensures ∙ lent)
    ∙ ap (λ (o : Option EntryId). c.loop-page.text.items
    ++ page_text block (option_and_then (λ (entry : EntryId). parts (page_part page entry)) o)) held
    ∙ ap (λ (xs : List ℕ). xs ++ shown_page parts block log page) c.loop-page.invariant
    ∙ sym (pages-more (shown_page parts block log) page)
