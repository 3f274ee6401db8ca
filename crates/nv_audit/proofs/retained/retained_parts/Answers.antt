use Rattle.std.proofs.Common.{◌≡◌, Bool, [], List, length, ap, eqb-true, sym, ◌∙◌}
use Rattle.std.proofs.lemmas.List.{nil_from_length}
use Rattle.nv_cell.specs.Cell.{log_of}
use Rattle.nv_entry.specs.Held.{retention_of}
use Rattle.nv_audit.specs.Logged.{LoggedValue}
use Rattle.nv_audit.specs.Retained.{needed_by, needed_in, with_named}
use Rattle.nv_audit.proofs.Retaining.{all_retained, needed_count}
use Rattle.nv_audit.proofs.retained.retained_parts.Goals as goal

-- nothing is pending
pub returns-then-is_empty-clause-ok : goal.returns-then-is_empty-clause-ok
returns-then-is_empty-clause-ok c =
    let r = retention_of c.args.retention.now in
    let cell = c.args.cell.now.state in
    let none : r.pending ≡ [] = nil_from_length r.pending (eqb-true (length r.pending) 0 (sym c.if-is_empty.ensures)) in
    c.in_ok-parts.ensures ∙ ap (λ (l : LoggedValue). needed_by r.snapshots l.block l.log) c.of-logged.ensures
    ∙ sym (ap (λ names. with_named (log_of cell) names (needed_in r.snapshots cell)) none)
    ∙ all_retained r cell c.holds_together.ensures

pub mark_named-requires-clause-parts : goal.mark_named-requires-clause-parts
mark_named-requires-clause-parts c =
    let r = retention_of c.args.retention.now in
    ap (λ (bs : List Bool). length bs)
    (c.in_ok-parts.ensures ∙ ap (λ (l : LoggedValue). needed_by r.snapshots l.block l.log) c.of-logged.ensures)
    ∙ needed_count c.args.retention.now.snapshots.now c.args.cell.now.state c.holds_together.ensures

pub returns-clause-ok : goal.returns-clause-ok
returns-clause-ok c =
    let r = retention_of c.args.retention.now in
    let cell = c.args.cell.now.state in
    c.mark_named.ensures
    ∙ ap (with_named (log_of cell) r.pending)
    (c.in_ok-parts.ensures ∙ ap (λ (l : LoggedValue). needed_by r.snapshots l.block l.log) c.of-logged.ensures)
    ∙ all_retained r cell c.holds_together.ensures
