use Rattle.std.proofs.Common.{◌≡◌, ◌∙◌, ℕ, ◌+◌, ◌++◌, length, List, [], ◌∷◌, ap, arith, sym, take}
use Rattle.std.proofs.lemmas.List.{append-nil, append_assoc, length-map, map-append, take_all, take_more}
use Rattle.nv_epoch.specs.SnapList.{numbers}
use Rattle.nv_epoch.specs.declared.snapshot.Snapshot.{Snapshot}
use Rattle.nv_core.proofs.stop.put_ids.Goals as goal

pub loop-snapshot-init : goal.loop-snapshot-init
loop-snapshot-init c =
    let many = length-map c.args.snaps.now.living (λ (s : Snapshot). s.number) in
    record {
      items = sym (append-nil c.args.snapshots.now.items);
      room = omega (arith, ap (λ (xs : List Snapshot). length xs) c.snapshots-snapshot-items.ensures.all, many, c.requires);
    }

pub loop-snapshot-preserved : goal.loop-snapshot-preserved
loop-snapshot-preserved c =
    let all = c.snapshots-snapshot-items.result.now in
    let k = c.loop-snapshot.snapshot-index in
    let s = c.snapshot-item.result in
    let inv = c.loop-snapshot.invariant in
    let old = c.args.snapshots.now.items in
    record {
      items =
          c.push_reserved.ensures.items ∙ ap (λ (xs : List ℕ). xs ++ s.number ∷ []) inv.items
          ∙ append_assoc old (numbers (take k all)) (s.number ∷ [])
          ∙ ap (λ (xs : List ℕ). old ++ xs) (sym (map-append (λ (x : Snapshot). x.number) (take k all) (s ∷ [])))
          ∙ ap (λ (xs : List Snapshot). old ++ numbers xs)
          (ap (λ (x : Snapshot). take k all ++ x ∷ []) c.snapshot-item.is ∙ sym (take_more all k s c.loop-snapshot-test.true));
      room = omega (arith, inv.room, c.push_reserved.ensures.len, c.push_reserved.ensures.capacity, c.loop-snapshot-test.true);
    }

pub returns : goal.returns
returns c =
    c.loop-snapshot.invariant.items
    ∙ ap (λ (xs : List Snapshot). c.args.snapshots.now.items ++ numbers xs)
    (take_all c.loop-snapshot.snapshot-index c.snapshots-snapshot-items.result.now (omega (arith, c.loop-snapshot-test.false)) ∙ c.snapshots-snapshot-items.ensures.all)
