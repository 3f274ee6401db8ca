use Rattle.std.proofs.Common.{◌≡◌, List, sym, subst, ◌∙◌}
use Rattle.std.specs.Prelude.{IfOk}
use Rattle.nv_entry.specs.Index.{names_of}
use Rattle.nv_entry.specs.Log.{seen}
use Rattle.nv_entry.specs.declared.item.Entry.{Entry}
use Rattle.nv_audit.proofs.KindHistories.{names_told}
use Rattle.nv_audit.proofs.nodes.names_when.Goals as goal

pub returns-then-not-binds-clause-ok : goal.returns-then-not-binds-clause-ok
returns-then-not-binds-clause-ok c =
    c.from_vec.ensures ∙ c.new.ensures.items
    ∙ sym (names_told c.args.logged.now.log c.args.history.now c.args.when c.requires (sym c.binds.ensures ∙ c.if-not-binds.true))

pub returns-clause-ok : goal.returns-clause-ok
returns-clause-ok c =
    subst (λ (es : List Entry). IfOk c.names_by.result (λ names. names ≡ names_of (seen c.args.when es))) c.log.ensures.value
    c.names_by.ensures.ok
