use Rattle.std.proofs.Common.{◌≡◌, subst, sym, ◌∙◌}
use Rattle.nv_entry.specs.Log.{seen}
use Rattle.nv_entry.specs.Stored.{stored}
use Rattle.nv_entry.specs.declared.value.When.{When}
use Rattle.nv_audit.proofs.KindHistories.{kind_by}
use Rattle.nv_audit.proofs.nodes.kind_when.Goals as goal

pub returns-in-At : goal.returns-in-At
returns-in-At c =
    let own = c.args.logged.now in
    subst (λ (w : When). c.kind_at.result ≡ (stored own.block (seen w own.log)).kind) (sym c.in-At.is)
    (c.kind_at.ensures ∙ kind_by own.block own.log c.args.history.now c.in-At.epoch c.requires)
