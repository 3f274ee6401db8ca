use Rattle.std.proofs.Common.{ℕ, List, ap₂}
use Rattle.nv_entry.specs.declared.names.BoundName.{BoundName}
use Rattle.nv_audit.proofs.NodeHistories.{made, node_told, none_told}
use Rattle.nv_audit.proofs.nodes.node_when.Goals as goal

pub returns-in_ok-names_when-in-Some-clause-ok : goal.returns-in_ok-names_when-in-Some-clause-ok
returns-in_ok-names_when-in-Some-clause-ok c =
    let kind = c.in-Some.kind in
    node_told c.args.when c.args.logged.now kind (made c.generation.result kind c.in_ok-names_when-in-Some.field-0) c.in-Some.ensures
    (ap₂ (λ (g : ℕ) (names : List BoundName). made g kind names) c.generation.ensures c.in_ok-names_when-in-Some.ensures.ok)

pub returns-in-None-clause-ok : goal.returns-in-None-clause-ok
returns-in-None-clause-ok c = none_told c.args.when c.args.logged.now c.in-None.ensures
