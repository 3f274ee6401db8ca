use Rattle.std.proofs.Common.{subst, sym}
use Rattle.std.specs.Prelude.{OnOk}
use Rattle.nv_entry.specs.declared.item.Item.{Item}
use Rattle.nv_cell.specs.Index.{NameReady}
use Rattle.nv_cell.proofs.Readied.{name_ready, other_ready}
use Rattle.nv_cell.proofs.index.reserve_bound.Goals as goal

pub returns-in-Bind-clause-ready : goal.returns-in-Bind-clause-ready
returns-in-Bind-clause-ready c =
    let b = c.in-Bind in
    subst (λ (item : Item). OnOk c.reserve_one.result (NameReady item c.reserve_one.new.self)) (sym b.is)
    (name_ready b.name b.to c.args.names.now c.reserve_one.new.self c.reserve_one.result c.reserve_one.ensures.names
    c.reserve_one.ensures.reserved)

pub returns-clause-ready : goal.returns-clause-ready
returns-clause-ready c = other_ready c.args.item.now c.args.names.now c.in_default.not-Bind
