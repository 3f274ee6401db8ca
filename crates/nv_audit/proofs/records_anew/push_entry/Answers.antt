use Rattle.std.proofs.Common.{◌<◌, length, arith}
use Rattle.std.specs.Option.{option_to_list}
use Rattle.std.proofs.lemmas.List.{length-map}
use Rattle.nv_entry.specs.Keys.{parts_of}
use Rattle.nv_entry.specs.Log.{pair_of, pairs_of}
use Rattle.nv_audit.specs.MountedLogs.{pair_record, pair_records}
use Rattle.nv_audit.proofs.Owing.{pair_here}
use Rattle.nv_audit.proofs.Pushing.{step}
use Rattle.nv_audit.proofs.RecordsAnew.{records_cons}
use Rattle.nv_audit.proofs.records_anew.push_entry.Goals as goal

pub loop-place-preserved : goal.loop-place-preserved
loop-place-preserved c block later dead =
    let e = c.args.entry.now in
    let living = c.args.snapshots.now in
    let ino = c.args.ino in
    let i = c.loop-place.place in
    let pair = c.pair_from-pair.result in
    let lt : i < length (parts_of e.item) = omega (arith, c.loop-place-test.true, c.part_count-place-end.ensures) in
    let below : i < length (pairs_of block e later) = omega (arith, lt, length-map (parts_of e.item) (pair_of block e later)) in
    step (pair_records living ino) (λ x xs. option_to_list (pair_record living ino x)) (records_cons living ino) (pairs_of block e later) i pair
    below
    (pair_here block e later i c.part_at.result c.death_at.result c.args.deaths.now pair lt (c.part_at.ensures c.part_at.result)
    (c.death_at.ensures c.death_at.result) dead c.pair_from-pair.ensures)
    c.loop-place.records.items c.push_if_recorded.new.records.items _ c.in_ok-push_if_recorded.ensures (c.loop-place.invariant block later dead)
