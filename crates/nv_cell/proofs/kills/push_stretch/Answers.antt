use Rattle.std.proofs.Common.{◌≡◌, ℕ, ◌+◌, ◌-◌, ◌≤◌, Bool, Some, true, arith, ap, subst, sym, ◌∙◌}
use Rattle.std.specs.Prelude.{is_some}
use Rattle.std.specs.declared.option.Option.{Option}
use Rattle.std.specs.Option.{option_map}
use Rattle.nv_entry.specs.Keys.{PageKey}
use Rattle.nv_findex.specs.Pages.{ref_at, run_ref}
use Rattle.nv_log.specs.Chain.{place_of_id}
use Rattle.nv_findex.specs.declared.page_ref.PageRef.{PageRef}
use Rattle.nv_cell.specs.Index.{page_part, ref_of}
use Rattle.nv_cell.specs.Numbers.{Pushes, is_page_in}
use Rattle.nv_cell.specs.Weights.{present_between}
use Rattle.nv_cell.proofs.Counting.{how_many_more, how_many_next}
use Rattle.nv_cell.proofs.Killing.{key_pushed, page_pushed}
use Rattle.nv_cell.proofs.kills.push_stretch.Goals as goal

pub unwrap-entry-requires : goal.unwrap-entry-requires
unwrap-entry-requires c =
    let run = c.args.run.now in
    let at = ap (λ (o : Option PageRef). option_map page_part o) (c.requires.run.pages c.args.from c.requires.first
    (omega (arith, c.requires.order, c.requires.end))) in
    let part = c.requires.named.parts (PageKey c.args.from) (page_part (run_ref run c.args.from)) at in
    rw c.place_of.ensures.value part.entry

pub push_part_at-requires-clause-place : goal.push_part_at-requires-clause-place
push_part_at-requires-clause-place c =
    ap (λ (at : PageRef). place_of_id c.args.chain.now.state.entries at.entry) c.page_ref-at.ensures ∙ sym c.place_of.ensures.value
    ∙ c.unwrap-entry.ensures

pub push_part_at-requires-clause-known : goal.push_part_at-requires-clause-known
push_part_at-requires-clause-known c =
    let page = c.loop-page.page in
    let at = ap (λ (o : Option PageRef). option_map page_part o) (c.requires.run.pages page
    (omega (arith, c.requires.first, c.loop-page.auto.page)) (omega (arith, c.requires.end, c.loop-page-test.true))) in
    rw c.page_ref-at.ensures (c.requires.named.parts (PageKey page) (page_part (run_ref c.args.run.now page)) at)

pub push_part_at-requires-clause-room : goal.push_part_at-requires-clause-room
push_part_at-requires-clause-room c =
    let idx = c.args.index.now in
    let page = c.loop-page.page in
    let test : ℕ → Bool = λ page. is_some (ref_at idx.pages.pages page) in
    let is : test page ≡ true = ap (λ (o : Option PageRef). is_some o) (c.requires.run.pages page
    (omega (arith, c.requires.first, c.loop-page.auto.page)) (omega (arith, c.requires.end, c.loop-page-test.true))) in
    let a = how_many_next test c.args.from page page (omega (arith, c.loop-page.auto.page)) (omega arith) is in
    let b = how_many_more test c.args.from (page + 1 - c.args.from) (c.args.to - c.args.from) (omega (arith, c.loop-page-test.true)) in
    omega (arith, a, b, c.loop-page.invariant.len, c.loop-page.invariant.capacity, c.requires.room)

pub loop-page-preserved : goal.loop-page-preserved
loop-page-preserved c =
    let es = c.args.chain.now.state.entries in
    let idx = c.args.index.now in
    let page = c.loop-page.page in
    let from = c.args.from in
    let low : from ≤ page = omega (arith, c.loop-page.auto.page) in
    let part = page_part (run_ref c.args.run.now page) in
    let test : ℕ → Bool = λ page. is_some (ref_at idx.pages.pages page) in
    let lies = c.requires.run.pages page (omega (arith, c.requires.first, low)) (omega (arith, c.requires.end, c.loop-page-test.true)) in
    let is : test page ≡ true = ap (λ (o : Option PageRef). is_some o) lies in
    let at : ref_of idx (PageKey page) ≡ Some part = ap (λ (o : Option PageRef). option_map page_part o) lies in
    let more = how_many_next test from page page low (omega arith) is in
    let pushed = rw c.page_ref-at.ensures at c.push_part_at.ensures.numbers in
    let one = key_pushed es idx c.requires.named (PageKey page) part c.loop-page.killed c.push_part_at.new.killed at pushed
    c.push_part_at.ensures.len c.push_part_at.ensures.capacity in
    page_pushed es idx c.requires.named from page page (present_between idx from page) (present_between idx from (page + 1)) part
    c.args.killed.now c.loop-page.killed c.push_part_at.new.killed c.loop-page.invariant low (omega arith)
    (λ p le lt. absurd (omega (arith, le, lt))) one more

pub returns : goal.returns
returns c =
    let same : c.loop-page.page ≡ c.args.to = omega (arith, c.loop-page-test.false, c.loop-page.auto.page-end, c.requires.order) in
    subst (λ (n : ℕ). Pushes c.args.chain.now.state.entries c.args.index.now (is_page_in c.args.from n)
    (present_between c.args.index.now c.args.from n) c.args.killed.now c.loop-page.killed) same c.loop-page.invariant
