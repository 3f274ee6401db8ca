use Rattle.std.proofs.Common.{◌+◌, ap, filter, length, arith, drop, slice_index}
use Rattle.nv_book.specs.declared.manifest.Manifest.{Manifest}
use Rattle.nv_book.specs.Manifests.{record_count, snapshots}
use Rattle.nv_book.specs.Records.{block_count, is_held_by}
use Rattle.nv_book.proofs.Counts.{total-left, total-more}
use Rattle.nv_book.proofs.Spans.{room-for-less}
use Rattle.nv_book.proofs.record_store.RecordStore.held_by_each.Goals as goal

pub loop-place-preserved : goal.loop-place-preserved
loop-place-preserved c =
    let ms = c.as_slice-manifests.result.now in
    let i = c.loop-place.place in
    let m = c.index-manifests-place.result in
    let is = c.index-manifests-place.is in
    let long = ap (λ (u : Manifest). length u.records) is in
    record {
      room = c.span.ensures.room (record_count (drop (i + 1) ms))
          (room-for-less _ (omega (arith, long, total-left length ms i m c.loop-place-test.true is)) c.loop-place.invariant.room);
      held = λ place in'.
          let holds = is_held_by (slice_index (snapshots ms) place) in
          let here = ap (λ (u : Manifest). block_count (filter holds u.records)) is in
          let more = total-more (λ rs. block_count (filter holds rs)) ms i m c.loop-place-test.true is in
          omega (arith, here, more, c.span.ensures.held place in', c.loop-place.invariant.held place in');
    }
