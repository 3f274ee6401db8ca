use Rattle.std.proofs.Common.{◌≡◌, ℕ, ◌+◌, ◌-◌, ◌*◌, ◌<◌, ◌≤◌, ◌++◌, ◌∙◌, List, None, min, take, drop, arith, refl, ap, slice_index_or}
use Rattle.std.specs.Option.{option_copied}
use Rattle.std.proofs.lemmas.List.{get_or_default}
use Rattle.nv_entry.specs.Bytes.{read_at}
use Rattle.nv_cell.specs.Pages.{block_of, page_now, pages_now, slot_bytes}
use Rattle.nv_cell.proofs.ReadAt.{begins_within, ends_behind, is_counted, read_more}
use Rattle.nv_cell.proofs.Stretches.{full_page}
use Rattle.nv_cell.proofs.read.push_pages.Goals as goal

pub loop-page-preserved : goal.loop-page-preserved
loop-page-preserved c slots numbers count le sized blocks begun =
    let block = c.args.block in
    let page = c.loop-page.page in
    let first = c.args.pages.now.start in
    let start = c.args.places.now.start in
    let end = c.args.places.now.end in
    let all = pages_now block slots numbers count in
    let within : page * block < end =
    begins_within end block page c.requires.block (omega (arith, c.loop-page-test.true, c.requires.last)) in
    let behind : start ≤ page * block + block =
    ends_behind start block page c.requires.block (omega (arith, c.requires.begun, c.loop-page.auto.page)) in
    let here : first + (page - first) ≡ page = omega (arith, c.loop-page.auto.page) in
    let found = slice_index_or c.args.blocks.now (page - first) c.index-blocks-page.result in
    let at : option_copied found ≡ block_of slots numbers page =
    ap option_copied (get_or_default c.args.blocks.now (page - first) c.index-blocks-page.result None
    (omega (arith, c.loop-page-test.true, c.loop-page.auto.page, c.requires.few, c.type_inv.blocks)))
    ∙ blocks (page - first) (omega (arith, here, c.loop-page-test.true)) ∙ ap (block_of slots numbers) here in
    let more = read_more (page_now block slots numbers) block count page start end (λ p. full_page block slots numbers p sized)
    (is_counted end block page count within le) c.requires.order (omega (arith, within)) behind in
    let pushed = c.in_ok-push_part.ensures block (omega (arith, c.min.ensures)) in
    let piece : take (c.min.result - c.saturating_sub.result)
    (drop c.saturating_sub.result (slot_bytes block (option_copied found)))
    ≡ take (min block (end - page * block) - (start - page * block)) (drop (start - page * block) (page_now block slots numbers page)) =
    rw (at, c.min.ensures, c.saturating_sub.ensures) refl in
    pushed
    ∙ ap (λ (xs : List ℕ). xs ++ take (c.min.result - c.saturating_sub.result)
    (drop c.saturating_sub.result (slot_bytes block (option_copied found))))
    (c.loop-page.invariant slots numbers count le sized blocks begun)
    ∙ ap (λ (xs : List ℕ). read_at start (min end (page * block) - start) all ++ xs) piece
    ∙ more

pub returns : goal.returns
returns c slots numbers count le sized blocks begun =
    let same : c.loop-page.page ≡ c.args.pages.now.end =
    omega (arith, c.requires.rising, c.loop-page-test.false, c.loop-page.auto.page, c.loop-page.auto.page-end) in
    rw same at (c.loop-page.invariant slots numbers count le sized blocks begun)
