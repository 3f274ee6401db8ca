use Rattle.std.proofs.Common.{ap, length, ◌+◌, ◌∙◌, subst, sym}
use Rattle.nv_alloc.specs.Hand.{blocks_of}
use Rattle.nv_alloc.specs.declared.hand.Hand.{Hand}
use Rattle.nv_sessions.specs.Changing.{blocks_in}
use Rattle.nv_sessions.specs.Changing.{IsReceiptOf, RaisesPublished}
use Rattle.nv_sessions.proofs.Raised.{all_published, kept_blocks, may_be_raised, receipt_is}
use Rattle.nv_sessions.proofs.Refusals.{commit_wants}
use Rattle.nv_sessions.proofs.Turns.{commit_keeps}
use Rattle.nv_sessions.proofs.change.commit_ready.Goals as goal

pub returns-in-Ok-clause-cells : goal.returns-in-Ok-clause-cells
returns-in-Ok-clause-cells g c = may_be_raised _ _ c.args.ready c.requires.ready c.deref_mut.result.now.state c.in-Ok.ensures.cells

pub returns-in-Ok-clause-raised : goal.returns-in-Ok-clause-raised
returns-in-Ok-clause-raised g c =
    let old = g.L.Cells.cells c.args.lent.now in
    let new = g.L.Cells.cells c.commit_over-end.new.lent in
    subst (RaisesPublished old new c.args.ready.update) (sym c.in-Ok.ensures.receipt)
    (all_published old new c.args.ready c.requires.ready c.deref_mut.result.now.state c.in-Ok.ensures.cells)

pub returns-in-Ok-clause-call : goal.returns-in-Ok-clause-call
returns-in-Ok-clause-call g c =
    let old = g.L.Cells.cells c.args.lent.now in
    let new = g.L.Cells.cells c.commit_over-end.new.lent in
    subst (IsReceiptOf c.args.ready.update) (sym c.in-Ok.ensures.receipt)
    (receipt_is old new c.args.ready c.requires.ready c.deref_mut.result.now.state c.in-Ok.ensures.cells)

pub returns-in-Ok-clause-blocks : goal.returns-in-Ok-clause-blocks
returns-in-Ok-clause-blocks g c =
    let told = c.in-Ok.ensures in
    ap (λ (h : Hand). length (blocks_of h) + blocks_in (g.L.Cells.cells c.commit_over-end.new.lent)) told.hand
    ∙ kept_blocks _ _ c.args.ready c.requires.ready c.deref_mut.result.now.state told.cells c.args.number _ told.take told.journal c.requires.whole

pub returns-in-Err-clause-err : goal.returns-in-Err-clause-err
returns-in-Err-clause-err g c =
    commit_wants c.deref_mut.result.now (g.L.Cells.cells c.args.lent.now) c.args.ready _ c.in-Err.fault c.in-Err.ensures.err

pub returns-in-Err-clause-space : goal.returns-in-Err-clause-space
returns-in-Err-clause-space g c =
    commit_keeps c.deref_mut.result.now (g.L.Cells.cells c.args.lent.now) c.args.ready _ c.in-Err.fault c.in-Err.ensures.err
