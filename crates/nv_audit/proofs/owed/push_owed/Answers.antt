use Rattle.std.proofs.Common.{◌≡◌, ◌<◌, List, length, get_or, arith, ap, ◌∙◌}
use Rattle.nv_entry.specs.declared.item.Entry.{Entry}
use Rattle.nv_epoch.specs.SnapList.{ids}
use Rattle.nv_log.specs.Chain.{log}
use Rattle.nv_audit.proofs.Covers.{death_of}
use Rattle.nv_audit.proofs.DividedPairs.{divided, enough}
use Rattle.nv_audit.proofs.Owing.{owed_more}
use Rattle.nv_audit.proofs.owed.push_owed.Goals as goal

pub split_at-requires : goal.split_at-requires
split_at-requires c =
    let cell = c.args.cell.now.state in
    let i = c.loop-entry.entry-index in
    let e = c.entry-item.result in
    let all : c.log-entry-items.result.now ≡ log cell.chain = c.log-entry-items.ensures.value ∙ ap log c.log.ensures.state in
    let lt : i < length (log cell.chain) = omega (arith, c.loop-entry-test.true, ap (λ (l : List Entry). length l) all) in
    let at : e ≡ get_or (log cell.chain) i e = c.entry-item.is ∙ ap (λ (l : List Entry). get_or l i e) all in
    enough death_of cell.block i c.part_count.result (log cell.chain) e c.loop-entry.left.now lt at c.loop-entry.invariant.left c.part_count.ensures

pub loop-entry-preserved : goal.loop-entry-preserved
loop-entry-preserved c =
    let cell = c.args.cell.now.state in
    let i = c.loop-entry.entry-index in
    let e = c.entry-item.result in
    let all : c.log-entry-items.result.now ≡ log cell.chain = c.log-entry-items.ensures.value ∙ ap log c.log.ensures.state in
    let lt : i < length (log cell.chain) = omega (arith, c.loop-entry-test.true, ap (λ (l : List Entry). length l) all) in
    let at : e ≡ get_or (log cell.chain) i e = c.entry-item.is ∙ ap (λ (l : List Entry). get_or l i e) all in
    let parts = divided death_of cell.block i c.part_count.result (log cell.chain) e c.loop-entry.left.now c.split_at.result.0.now
    c.split_at.result.1.now lt at c.loop-entry.invariant.left c.part_count.ensures c.split_at.ensures.front c.split_at.ensures.back in
    record {
      left = parts.others;
      owed = owed_more (ids c.args.snaps.now) c.args.named.now c.args.ino cell.block i (log cell.chain) e c.loop-entry.owed.items
          c.push_owed_of.new.owed.items _ lt at (c.in_ok-push_owed_of.ensures cell.block _ parts.first) c.loop-entry.invariant.owed;
    }
