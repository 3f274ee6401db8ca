use Rattle.std.proofs.Common.{ℕ, cond, Some, ap, ◌∙◌}
use Rattle.nv_base.specs.Names.{same_name}
use Rattle.nv_audit.specs.Names.{name_in}
use Rattle.nv_audit.proofs.first_covers.put_one.Goals as goal

pub returns : goal.returns
returns c = λ other.
    c.in_ok-insert.ensures.updates.0 (record c.args.name { now = other })
    ∙ ap (λ (n : ℕ). cond (same_name c.args.name.now other) (Some n) (name_in c.args.names.now.entries other)) c.number.ensures
