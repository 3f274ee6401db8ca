use Rattle.std.proofs.Common.{◌≡◌, ◌++◌, [], List, ap, eqb-true, length, sym, ◌∙◌}
use Rattle.std.proofs.lemmas.List.{append-nil, nil_from_length}
use Rattle.nv_cell.specs.Cell.{log_of}
use Rattle.nv_entry.specs.Log.{pairs}
use Rattle.nv_entry.specs.declared.item.Entry.{Entry}
use Rattle.nv_epoch.specs.SnapList.{ids}
use Rattle.nv_log.specs.Chain.{log}
use Rattle.nv_audit.specs.Owed.{owed_records}
use Rattle.nv_audit.proofs.owed.push_owed_by.Goals as goal

-- no entry stands in the log
pub returns-then-is_empty-clause-ok : goal.returns-then-is_empty-clause-ok
returns-then-is_empty-clause-ok c =
    let cell = c.args.cell.now.state in
    let owed = c.args.owed.now.items in
    let none : log_of cell ≡ [] =
    sym (c.log-2.ensures.value ∙ ap log c.log.ensures.state)
    ∙ nil_from_length c.log-2.result.now (eqb-true (length c.log-2.result.now) 0 (sym c.is_empty.ensures ∙ c.if-is_empty.true)) in
    sym (append-nil owed)
    ∙ ap (λ (es : List Entry). owed ++ owed_records (ids c.args.snaps.now) c.args.named.now c.args.ino (pairs cell.block es)) (sym none)
