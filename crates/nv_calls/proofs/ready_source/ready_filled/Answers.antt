use Rattle.std.proofs.Common.{◌∙◌, arith, ap, subst, sym}
use Rattle.nv_calls.proofs.FillFresh.{fresh_are}
use Rattle.nv_calls.proofs.Refilled.{can_fill, pages_filled, stays_ready}
use Rattle.nv_calls.specs.FillPages.{filled}
use Rattle.nv_calls.specs.Prepared.{IsReadyBy}
use Rattle.nv_calls.specs.Ready.{ReadyValue}
use Rattle.nv_calls.proofs.ready_source.ready_filled.Goals as goal

pub fill-requires-clause-can : goal.fill-requires-clause-can
fill-requires-clause-can g c =
    can_fill (g.C.Cells.cells c.args.cells.now) (g.C.Cells.cells c.ready_on.new.cells) c.args.hand c.args.update
    c.in_ok-ready.ready c.in_ok-ready.ensures.ok c.requires.can c.in_ok-ready.ensures.cells

pub returns-in-Ok-clause-ok : goal.returns-in-Ok-clause-ok
returns-in-Ok-clause-ok g c =
    let old = g.C.Cells.cells c.args.cells.now in let new = g.C.Cells.cells c.ready_on.new.cells in
    subst (λ (r : ReadyValue). IsReadyBy old c.args.hand c.args.update new r) (sym c.fill.ensures.ready)
    (stays_ready old new c.args.hand c.args.update c.in_ok-ready.ready c.in_ok-ready.ensures.ok
    c.fill.new.ready.hand.«data» c.fill.ensures.rest)

pub returns-in-Ok-clause-filled : goal.returns-in-Ok-clause-filled
returns-in-Ok-clause-filled g c =
    pages_filled c.args.hand c.args.update c.in_ok-ready.ready c.in_ok-ready.ensures.ok.update c.in_ok-ready.ensures.hand
    (g.C.Cells.cells c.args.cells.now) (g.C.Cells.cells c.ready_on.new.cells) (g.S.Source.byte_at c.args.source.now)
    c.fill.new.ready.hand.«data».blocks c.in_ok-ready.ensures.cells c.in-Ok.ensures.pages

pub returns-in-Ok-clause-fresh : goal.returns-in-Ok-clause-fresh
returns-in-Ok-clause-fresh g c bytes have sound =
    let cells = g.C.Cells.cells c.args.cells.now in let byte_at = g.S.Source.byte_at c.args.source.now in
    let u = c.args.update in let hand = c.args.hand in let can = c.requires.can in
    let passed = rw (sym can.size) at can.passed in
    pages_filled hand u c.in_ok-ready.ready c.in_ok-ready.ensures.ok.update c.in_ok-ready.ensures.hand
    cells (g.C.Cells.cells c.ready_on.new.cells) byte_at c.fill.new.ready.hand.«data».blocks c.in_ok-ready.ensures.cells
    c.in-Ok.ensures.pages
    ∙ ap (λ pages. filled pages hand.«data».blocks) (fresh_are bytes hand.«data».size cells have sound u byte_at
    (omega (arith, c.in_ok-ready.ensures.ok.some_bytes, can.size)) passed)
