use Rattle.std.proofs.Common.{◌≡◌, ◌<◌, List, length, get_or, arith, ap, ◌∙◌}
use Rattle.nv_entry.specs.declared.item.Entry.{Entry}
use Rattle.nv_audit.proofs.Covers.{death_of}
use Rattle.nv_audit.proofs.DividedPairs.{divided, enough}
use Rattle.nv_audit.proofs.RecordsAnew.{recorded_more}
use Rattle.nv_audit.proofs.records_anew.push_all.Goals as goal

pub split_at-requires : goal.split_at-requires
split_at-requires c =
    let own = c.args.logged.now in
    let i = c.loop-entry.entry-index in
    let e = c.entry-item.result in
    let all : c.log-entry-items.result.now ≡ own.log = c.log-entry-items.ensures.value in
    let lt : i < length own.log = omega (arith, c.loop-entry-test.true, ap (λ (l : List Entry). length l) all) in
    let at : e ≡ get_or own.log i e = c.entry-item.is ∙ ap (λ (l : List Entry). get_or l i e) all in
    enough death_of own.block i c.part_count.result own.log e c.loop-entry.left.now lt at c.loop-entry.invariant.left c.part_count.ensures

pub loop-entry-preserved : goal.loop-entry-preserved
loop-entry-preserved c =
    let own = c.args.logged.now in
    let i = c.loop-entry.entry-index in
    let e = c.entry-item.result in
    let all : c.log-entry-items.result.now ≡ own.log = c.log-entry-items.ensures.value in
    let lt : i < length own.log = omega (arith, c.loop-entry-test.true, ap (λ (l : List Entry). length l) all) in
    let at : e ≡ get_or own.log i e = c.entry-item.is ∙ ap (λ (l : List Entry). get_or l i e) all in
    let parts = divided death_of own.block i c.part_count.result own.log e c.loop-entry.left.now c.split_at.result.0.now
    c.split_at.result.1.now lt at c.loop-entry.invariant.left c.part_count.ensures c.split_at.ensures.front c.split_at.ensures.back in
    record {
      left = parts.others;
      told = recorded_more c.args.snapshots.now c.args.ino own.block i own.log e c.loop-entry.records.items c.push_entry.new.records.items _
          lt at (c.in_ok-push_entry.ensures own.block _ parts.first) c.loop-entry.invariant.told;
    }
