use Rattle.std.proofs.Common.{◌∙◌, ℕ, None, Some, ap, sym}
use Rattle.nv_script.specs.declared.command.Command.TheVariants as command
use Rattle.nv_trace.proofs.JsonActs.{audit_told, listed}
use Rattle.nv_trace.proofs.json_act.report.Goals as goal

pub returns-in_ok-audit-in-Audit : goal.returns-in_ok-audit-in-Audit
returns-in_ok-audit-in-Audit c =
    audit_told c.args.world.now c.in_ok-audit-in-Audit.field-0 c.args.command c.audit.new.out.items c.in-Audit.is
    c.in_ok-audit-in-Audit.ensures

pub returns-in-Tree : goal.returns-in-Tree
returns-in-Tree c =
    listed c.push_tree.result c.args.world.now None c.args.command command.Tree c.push_tree.new.out.items c.in-Tree.is
    (λ m shows. shows) c.push_tree.ensures

pub returns-in-SnapTree : goal.returns-in-SnapTree
returns-in-SnapTree c =
    let snapshot = c.new.result in
    listed c.push_tree-in-SnapTree.result c.args.world.now (Some snapshot) c.args.command (command.SnapTree snapshot)
    c.push_tree-in-SnapTree.new.out.items (c.in-SnapTree.is ∙ ap (λ (s : ℕ). command.SnapTree s) (sym c.new.ensures))
    (λ m shows. shows) c.push_tree-in-SnapTree.ensures
