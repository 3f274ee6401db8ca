use Rattle.std.proofs.Common.{◌<◌, length, arith}
use Rattle.std.specs.Option.{option_to_list}
use Rattle.std.proofs.lemmas.List.{length-map}
use Rattle.std.proofs.lemmas.List.Concat.{flat_map-cons}
use Rattle.nv_entry.specs.Keys.{parts_of}
use Rattle.nv_entry.specs.Log.{pair_of, pairs_of}
use Rattle.nv_entry.specs.declared.held.Pair.{Pair}
use Rattle.nv_epoch.specs.SnapList.{ids}
use Rattle.nv_audit.specs.Owed.{owed_record, owed_records}
use Rattle.nv_audit.proofs.Owing.{pair_here}
use Rattle.nv_audit.proofs.Pushing.{step}
use Rattle.nv_audit.proofs.owed.push_owed_of.Goals as goal

pub loop-place-preserved : goal.loop-place-preserved
loop-place-preserved c block later dead =
    let e = c.args.entry.now in
    let living = ids c.args.snaps.now in
    let named = c.args.named.now in
    let ino = c.args.ino in
    let i = c.loop-place.place in
    let pair = c.pair_from-pair.result in
    let lt : i < length (parts_of e.item) = omega (arith, c.loop-place-test.true, c.part_count-place-end.ensures) in
    let below : i < length (pairs_of block e later) = omega (arith, lt, length-map (parts_of e.item) (pair_of block e later)) in
    step (owed_records living named ino) (λ x xs. option_to_list (owed_record living named ino x))
    (λ x xs. flat_map-cons (λ (p : Pair). option_to_list (owed_record living named ino p)) x xs) (pairs_of block e later) i pair below
    (pair_here block e later i c.part_at.result c.death_at.result c.args.deaths.now pair lt (c.part_at.ensures c.part_at.result)
    (c.death_at.ensures c.death_at.result) dead c.pair_from-pair.ensures)
    c.loop-place.owed.items c.push_if_owed.new.owed.items _ c.in_ok-push_if_owed.ensures (c.loop-place.invariant block later dead)
