use Rattle.std.proofs.Common.{◌≡◌, ℕ, ◌-◌, ◌*◌, ◌≤◌, ◌∙◌, min, arith, ap}
use Rattle.nv_entry.specs.Bytes.{read_at}
use Rattle.nv_cell.specs.Pages.{pages_now}
use Rattle.nv_cell.specs.Slots.{page_slot}
use Rattle.nv_cell.proofs.ReadAt.{ends_all}
use Rattle.nv_cell.proofs.read.read_pages.Goals as goal

pub returns : goal.returns
returns c count le =
    let end = c.args.places.end in
    let start = c.args.places.start in
    let block = c.args.block in
    let page = c.loop-page.page in
    let all = pages_now block c.args.slots.now (page_slot c.args.chain.now.state.entries c.args.index.now) count in
    let past : end ≤ page * block =
    ends_all end block page c.requires.block (omega (arith, c.loop-page-test.false, c.div_ceil-last.ensures)) in
    let whole : min end (page * block) ≡ end = omega (arith, past) in
    c.loop-page.invariant.bytes count le ∙ ap (λ (k : ℕ). read_at start (k - start) all) whole
