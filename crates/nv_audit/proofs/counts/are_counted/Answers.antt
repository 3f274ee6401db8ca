use Rattle.std.proofs.Common.{◌≡◌, Bool, List, length, ap, ap₂, sym, ◌∙◌}
use Rattle.nv_cell.specs.Cell.{log_of}
use Rattle.nv_entry.specs.Covered.{part_total}
use Rattle.nv_entry.specs.Held.{retention_of}
use Rattle.nv_entry.specs.declared.item.Entry.{Entry}
use Rattle.nv_log.specs.Chain.{log}
use Rattle.nv_audit.specs.Retained.{marked_entries, retained_in}
use Rattle.nv_audit.proofs.PageEntries.{counted_by}
use Rattle.nv_audit.proofs.Retaining.{marked_count, retained_count}
use Rattle.nv_audit.proofs.counts.are_counted.Goals as goal

pub marked_entries-requires : goal.marked_entries-requires
marked_entries-requires c =
    let r = retention_of c.args.retention.now in
    let cell = c.args.cell.now.state in
    let all : c.log-2.result.now ≡ log_of cell = c.log-2.ensures.value ∙ ap log c.log.ensures.state in
    ap (λ (bs : List Bool). length bs) (c.deref.ensures.value ∙ c.in_ok-parts.ensures.ok) ∙ retained_count r cell
    ∙ ap part_total (sym all)

pub are_valid_as-requires : goal.are_valid_as-requires
are_valid_as-requires c =
    let all : c.log-2.result.now ≡ log_of c.args.cell.now.state = c.log-2.ensures.value ∙ ap log c.log.ensures.state in
    ap (λ (bs : List Bool). length bs) (c.deref-2.ensures.value ∙ c.in_ok-entries.ensures)
    ∙ marked_count c.log-2.result.now c.deref.result.now ∙ ap (λ (es : List Entry). length es) all

pub returns-clause-ok : goal.returns-clause-ok
returns-clause-ok c =
    let r = retention_of c.args.retention.now in
    let cell = c.args.cell.now.state in
    let all : c.log-2.result.now ≡ log_of cell = c.log-2.ensures.value ∙ ap log c.log.ensures.state in
    let marked : c.deref-2.result.now ≡ marked_entries (log_of cell) (retained_in r cell) =
    c.deref-2.ensures.value ∙ c.in_ok-entries.ensures ∙ ap₂ marked_entries all (c.deref.ensures.value ∙ c.in_ok-parts.ensures.ok) in
    let both = counted_by r cell c.deref-2.result.now c.holds_together.ensures c.requires marked in (
      λ t. both.0 (c.are_valid_as.ensures.0 t),
      λ are. c.are_valid_as.ensures.1 (both.1 are),
    )
