use Rattle.std.proofs.Common.{[], ap, length, List, ℕ, subst, sym, ◌∙◌}
use Rattle.std.specs.Global.{Vec}
use Rattle.nv_book.specs.declared.record.Record.{Record}
use Rattle.nv_entry.specs.declared.part.PartId.{PartId}
use Rattle.nv_audit.specs.Pending.{ArePendingOf}
use Rattle.nv_audit.specs.declared.part_list.InodePart.{InodePart}
use Rattle.nv_audit.proofs.resting.inodes_differ.Goals as goal

pub first_resting-requires : goal.first_resting-requires
first_resting-requires c = ap (λ (l : List (Vec PartId)). length l) c.deref-4.ensures.value ∙ c.in_ok-pending.ensures.len

pub returns-clause-ok : goal.returns-clause-ok
returns-clause-ok c =
    let book = c.args.book.now.state in
    let n = length c.args.cells.now in
    let lists = c.in_ok-pending.pending.items in
    let own : ArePendingOf n book.deferred [] lists =
    subst (λ (ps : List InodePart). ArePendingOf n book.deferred ps lists) (c.deref-2.ensures.value ∙ c.requires)
    (subst (λ (ds : List Record). ArePendingOf n ds c.deref-2.result.now lists)
    (c.deref.ensures.value ∙ c.in_ok-deferred.ensures ∙ c.deferred.ensures.deferred) c.in_ok-pending.ensures) in
    c.in_ok-first.ensures.ok book (record {
      living = c.deref-3.ensures.value ∙ c.in_ok-snapshots.ensures;
      pending = subst (λ (l : List (Vec PartId)). ArePendingOf (length l) book.deferred [] l) (sym c.deref-4.ensures.value)
          (subst (λ (k : ℕ). ArePendingOf k book.deferred [] lists) (sym own.len) own);
    })
