use Rattle.std.proofs.Common.{◌++◌, ℕ, List, ap, ap₂, ◌∙◌}
use Rattle.nv_book.specs.declared.record.Record.{Record}
use Rattle.nv_audit.specs.Lists.{used_from}
use Rattle.nv_epoch.specs.SnapList.{ids}
use Rattle.nv_audit.specs.Records.{states_of}
use Rattle.nv_audit.specs.declared.part_list.InodePart.{InodePart}
use Rattle.nv_audit.proofs.lists.used_of.Goals as goal

pub returns-clause-ok : goal.returns-clause-ok
returns-clause-ok c =
    let living = c.deref.ensures.value ∙ c.in_ok-snapshots.ensures in
    let deferred = c.deref-2.ensures.value ∙ c.in_ok-deferred.ensures ∙ c.deferred.ensures.deferred in
    let cells = states_of c.args.cells.now in
    c.in_ok-extend_from_slice.ensures.items
    ∙ ap₂ (λ (xs ys : List ℕ). xs ++ ys)
    (c.in_ok-used.ensures.ok
    ∙ ap₂ (λ (ss : List ℕ) (rs : List Record). used_from ss rs c.deref-3.result.now 0 cells) living deferred
    ∙ ap (λ (ps : List InodePart). used_from (ids c.args.book.now.state.snaps) c.args.book.now.state.deferred ps 0 cells)
    c.deref-3.ensures.value)
    c.deref-4.ensures.value
