use Rattle.std.proofs.Common.{arith, rules, ltb, ltb-true, ltb-false}
use Rattle.std.proofs.lemmas.List.Sorted.{IsPartitionPoint-from_clause, IsPartitionedBy-ltb}
use Rattle.nv_book.specs.declared.manifest.Manifest.{Manifest}
use Rattle.nv_book.proofs.Spans.{blank, snapshot-at, snapshots_rise}
use Rattle.nv_book.proofs.held_spans.count_below.Goals as goal

pub returns : goal.returns
returns c =
    let parted = IsPartitionedBy-ltb (λ (m : Manifest). m.snapshot) _ c.args.bound (snapshots_rise _ c.requires) in
    let point = IsPartitionPoint-from_clause
    (λ (m : Manifest). ltb m.snapshot c.args.bound) _ _ c.partition_point.ensures.partitioned parted (λ a r q called. search rules) in
    record {
      below = λ k lt in'.
          let at = snapshot-at c.args.manifests.now k blank in' in
          let less = ltb-true _ c.args.bound (point.0 k blank (omega arith) lt) in
          omega (arith, at, less);
      others = λ k from in'.
          let at = snapshot-at c.args.manifests.now k blank in' in
          let above = ltb-false _ c.args.bound (point.1 k blank from in') in
          omega (arith, at, above);
    }
