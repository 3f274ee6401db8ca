use Rattle.std.proofs.Common.{◌≡◌, ◌<◌, List, length, get_or, arith, ap, ◌∙◌}
use Rattle.nv_entry.specs.declared.item.Entry.{Entry}
use Rattle.nv_audit.proofs.Covers.{death_of}
use Rattle.nv_audit.proofs.DividedPairs.{divided}
use Rattle.nv_audit.proofs.Retaining.{needed_more}
use Rattle.nv_audit.proofs.retained.needed_parts.Goals as goal

pub loop-entry-preserved : goal.loop-entry-preserved
loop-entry-preserved c =
    let own = c.args.logged.now in
    let i = c.loop-entry.entry-index in
    let e = c.entry-item.result in
    let all : c.log-entry-items.result.now ≡ own.log = c.log-entry-items.ensures.value in
    let lt : i < length own.log = omega (arith, c.loop-entry-test.true, ap (λ (l : List Entry). length l) all) in
    let is : e ≡ get_or own.log i e = c.entry-item.is ∙ ap (λ (l : List Entry). get_or l i e) all in
    let parts = divided death_of own.block i c.part_count.result own.log e c.loop-entry.rest.now c.split_at.result.0.now
    c.split_at.result.1.now lt is c.loop-entry.invariant.left c.part_count.ensures c.split_at.ensures.front c.split_at.ensures.back in
    record {
      left = parts.others;
      needed = needed_more c.args.snapshots.now own.block own.log i e c.split_at.result.0.now c.loop-entry.parts.items
          c.push_needed.new.parts.items _ lt is parts.first c.in_ok-push_needed.ensures c.loop-entry.invariant.needed;
    }
