use Rattle.std.proofs.Common.{◌≡◌, ◌+◌, Some, ap, refl, sym, ◌∙◌, arith, subst, take, drop, slice_get}
use Rattle.nv_alloc.specs.Queue.{QueueValue}
use Rattle.nv_log.specs.Chain.{IsChain}
use Rattle.nv_cell.specs.Cell.{CellValue}
use Rattle.nv_calls.specs.Cells.{value_at, with_value}
use Rattle.nv_calls.specs.Steps.{with_new_pages}
use Rattle.nv_calls.proofs.Appends.{first_sized, no_pages, none_front, one_front, page_added}
use Rattle.nv_calls.proofs.CellLists.{only_again, value_given, with_same}
use Rattle.nv_calls.proofs.append.add_pages.Given as given
use Rattle.nv_calls.proofs.append.add_pages.Goals as goal
use Rattle.nv_calls.proofs.append.add_pages.Goals.{After-add_page-arg-1}

pub loop-added-init : goal.loop-added-init
loop-added-init g c =
    let cells = g.C.Cells.cells c.args.cells.now in
    let k = c.args.k in
    record {
      cells = sym (with_same cells k) ∙ ap (with_value cells k) (no_pages (value_at cells k));
      ready = λ items h. h;
      room = omega arith;
      pages = none_front c.args.pages.now;
      frame = refl;
    }

-- the cell has the front pages
now_is : (g : given.Over) (c : goal.After-add_page-arg-1 g) → value_at (g.C.Cells.cells c.loop-added.cells) c.args.k
    ≡ with_new_pages (take c.loop-added._added c.args.pages.now.blocks) (value_at (g.C.Cells.cells c.args.cells.now) c.args.k)
now_is g c = value_given _ _ _ _ c.requires.within c.loop-added.invariant.cells

pub loop-added-preserved : goal.loop-added-preserved
loop-added-preserved g c =
    let l = c.loop-added in
    let i = l.invariant in
    let k = c.args.k in
    let n = l._added in
    let cells = g.C.Cells.cells c.args.cells.now in
    let now = value_at (g.C.Cells.cells l.cells) k in
    let new = value_at (g.C.Cells.cells c.add_page.new.self) k in
    let v0 = value_at cells k in
    let bs = c.args.pages.now.blocks in
    let is = now_is g (goal.at.loop-added-preserved g c).After-add_page-arg-1 in
    let here : Some c.in-Some.block ≡ slice_get (drop n bs) 0 =
    c.in-Some.ensures.block ∙ ap (λ (q : QueueValue). slice_get q.blocks 0) i.pages in
    let chain : IsChain now.state.chain = subst (λ (v : CellValue). IsChain v.state.chain) c.cell.ensures c.holds_together.ensures.chain in
    let p = page_added n v0 now new bs c.in-Some.block here chain is c.add_page.ensures.state c.add_page.ensures.room in
    record {
      cells = only_again cells (g.C.Cells.cells l.cells) (g.C.Cells.cells c.add_page.new.self) k (with_new_pages (take n bs) v0)
          (with_new_pages (take (n + 1) bs) v0) i.cells c.add_page.ensures.cells p.value;
      ready = λ items h. p.ready items (i.ready items h);
      room = let page = ap (λ (v : CellValue). v.state.chain.page) (now_is g (goal.at.loop-added-preserved g c).After-add_page-arg-1) in
          omega (arith, p.more, i.room, page);
      pages = one_front n c.args.pages.now l.pages c.take_next.new.self c.take_next.result c.in-Some.block c.in-Some.is i.pages
          c.take_next.ensures.rest;
      frame = c.add_page.ensures.frame ∙ i.frame;
    }

pub add_page-requires-clause-sized : goal.add_page-requires-clause-sized
add_page-requires-clause-sized g c =
    let l = c.loop-added in
    first_sized l.pages.size l.pages.blocks c.in-Some.block c.keeps_its_size.ensures c.in-Some.ensures.block
    ∙ ap (λ (q : QueueValue). q.size) l.invariant.pages ∙ c.requires.size ∙ sym (ap (λ (v : CellValue). v.state.block) (now_is g c))
