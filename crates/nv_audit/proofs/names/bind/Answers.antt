use Rattle.std.proofs.Common.{Option, Some, ap, if◌then◌else◌, ◌∙◌}
use Rattle.nv_base.specs.Names.{same_name}
use Rattle.nv_nindex.specs.declared.binding.Binding.{Binding}
use Rattle.nv_audit.proofs.BoundNames.{if_ok}
use Rattle.nv_audit.proofs.names.bind.Goals as goal

pub returns : goal.returns
returns c = λ other.
    let after = if_ok c.insert.result (c.insert.ensures.succeeds c.in_ok-try_reserve.ensures.ok) c.insert.ensures.updates in
    after.0 (record c.args.name { now = other })
    ∙ ap (λ (before : Option Binding). if same_name c.args.name.now other then Some c.args.binding else before)
    (c.in_ok-try_reserve.ensures.entries.2 (record c.args.name { now = other }))
