use Rattle.std.proofs.Common.{refl}
use Rattle.nv_audit.proofs.KindHistories.{history_all, history_none, history_step}
use Rattle.nv_audit.proofs.histories.History.of.Goals as goal

pub loop-entry-init : goal.loop-entry-init
loop-entry-init c = history_none c.args.log.now _ c.new.ensures.items refl

pub loop-entry-preserved : goal.loop-entry-preserved
loop-entry-preserved c =
    history_step c.args.log.now c.loop-entry.entry-index c.entry-item.result c.loop-entry.history c.add.new.self
    c.loop-entry-test.true c.entry-item.is c.loop-entry.invariant c.in_ok-add.ensures

pub returns : goal.returns
returns c =
    history_all c.args.log.now c.loop-entry.entry-index c.loop-entry.history c.loop-entry-test.false c.loop-entry.invariant
