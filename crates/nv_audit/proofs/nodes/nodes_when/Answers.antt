use Rattle.std.proofs.Common.{sym, subst, slice_index_or}
use Rattle.nv_audit.specs.Histories.{IsHistoryBy}
use Rattle.nv_audit.specs.Logged.{LoggedValue}
use Rattle.nv_audit.specs.declared.histories.History.{History}
use Rattle.nv_audit.proofs.NodeHistories.{nodes_more}
use Rattle.nv_audit.proofs.nodes.nodes_when.Goals as goal

pub node_when-requires : goal.node_when-requires
node_when-requires c =
    let logs = c.args.logs.now in
    let i = c.loop-place.place in
    let own = c.index-logs-place.result in
    let history = c.index-histories-place.result in
    subst (λ (l : LoggedValue). IsHistoryBy l.log history) (sym c.index-logs-place.is)
    (subst (λ (h : History). IsHistoryBy (slice_index_or logs i own).log h) (sym c.index-histories-place.is)
    (c.requires.each i own history c.loop-place-test.true))

pub loop-place-preserved : goal.loop-place-preserved
loop-place-preserved c =
    let logs = c.args.logs.now in
    let own = c.index-logs-place.result in
    nodes_more c.args.when c.loop-place.place logs own c.in_ok-node_when.field-0 c.loop-place.slots.items c.push.new.self.items
    c.loop-place-test.true c.index-logs-place.is c.in_ok-node_when.ensures.ok c.in_ok-push.ensures.items c.loop-place.invariant
