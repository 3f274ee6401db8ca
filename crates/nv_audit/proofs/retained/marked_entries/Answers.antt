use Rattle.nv_entry.specs.Covered.{part_count}
use Rattle.nv_audit.proofs.Retaining.{marked_left, marked_more}
use Rattle.std.proofs.Common.{◌≡◌, take, drop, ap, ◌∙◌, ℕ}
use Rattle.nv_audit.proofs.retained.marked_entries.Goals as goal

pub loop-entry-preserved : goal.loop-entry-preserved
loop-entry-preserved c =
    let log = c.args.log.now in
    let i = c.loop-entry.entry-index in
    let e = c.entry-item.result in
    let rest = c.loop-entry.rest.now in
    let front : c.split_at.result.0.now ≡ take (part_count e) rest = c.split_at.ensures.front ∙ ap (λ (n : ℕ). take n rest) c.part_count.ensures in
    let cut : c.split_at.result.1.now ≡ drop (part_count e) rest = c.split_at.ensures.back ∙ ap (λ (n : ℕ). drop n rest) c.part_count.ensures in
    record {
      left = marked_left log i e rest c.split_at.result.1.now c.loop-entry-test.true c.entry-item.is c.loop-entry.invariant.left cut;
      marked = marked_more log i e rest c.split_at.result.0.now c.split_at.result.1.now c.loop-entry.entries.items c.push.new.self.items _
          c.has_marked.result c.loop-entry-test.true c.entry-item.is front cut c.has_marked.ensures c.in_ok-push.ensures.items
          c.loop-entry.invariant.marked;
    }
