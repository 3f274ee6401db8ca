use Rattle.std.proofs.Common.{refl}
use Rattle.nv_entry.specs.Held.{keeps, retention_of}
use Rattle.nv_audit.specs.Lists.{blocks_kept, blocks_kept_of}
use Rattle.nv_audit.proofs.DividedPairs.{divided, enough}
use Rattle.nv_audit.proofs.Pushing.{step}
use Rattle.nv_audit.proofs.lists.push_kept.Goals as goal

pub split_at-requires : goal.split_at-requires
split_at-requires c =
    let r = c.args.retention.now in
    enough (keeps (retention_of r)) r.block c.loop-entry.entry-index c.part_count.result c.args.log.now c.entry-item.result
    c.loop-entry.left.now c.loop-entry-test.true c.entry-item.is c.loop-entry.invariant.left c.part_count.ensures

pub loop-entry-preserved : goal.loop-entry-preserved
loop-entry-preserved c =
    let r = c.args.retention.now in
    let log = c.args.log.now in
    let i = c.loop-entry.entry-index in
    let e = c.entry-item.result in
    let parts = divided (keeps (retention_of r)) r.block i c.part_count.result log e c.loop-entry.left.now c.split_at.result.0.now
    c.split_at.result.1.now c.loop-entry-test.true c.entry-item.is c.loop-entry.invariant.left c.part_count.ensures
    c.split_at.ensures.front c.split_at.ensures.back in
    record {
      left = parts.others;
      used = step (blocks_kept (retention_of r)) (blocks_kept_of (retention_of r)) (λ x xs. refl) log i e c.loop-entry-test.true
          c.entry-item.is c.loop-entry.used.items c.push_kept_of.new.used.items _ (c.in_ok-push_kept_of.ensures _ parts.first)
          c.loop-entry.invariant.used;
    }
