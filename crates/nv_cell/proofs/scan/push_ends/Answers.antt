use Rattle.std.proofs.Common.{◌≡◌, ◌+◌, ap, arith, length, ◌∙◌}
use Rattle.std.proofs.lemmas.List.{length_push}
use Rattle.nv_entry.specs.Covered.{part_total}
use Rattle.nv_cell.specs.Numbers.{part_base}
use Rattle.nv_cell.proofs.Cells.{end_step}
use Rattle.nv_cell.proofs.EntryRead.{entry_read, parts_below}
use Rattle.nv_cell.proofs.Publishing.{take_whole}
use Rattle.nv_cell.proofs.scan.push_ends.Goals as goal

pub overflow_add-end : goal.overflow_add-end
overflow_add-end c =
    let es = c.args.chain.now.state.entries in
    let low = parts_below es c.loop-t.t (length es) _ c.entry_at.ensures (omega (arith, c.loop-t-test.true, c.len-t-end.ensures)) in
    omega (arith, low, ap part_total (take_whole es), c.requires.small, c.part_count-count.ensures, c.loop-t.invariant.end)

pub loop-t-preserved : goal.loop-t-preserved
loop-t-preserved c =
    let es = c.args.chain.now.state.entries in
    let t = c.loop-t.t in
    let p = entry_read es t _ c.entry_at.ensures in
    let inv = c.loop-t.invariant in
    let end = c.loop-t.end + c.part_count-count.result in
    let to : end ≡ part_base es (t + 1) = omega (arith, p.parts, c.part_count-count.ensures, inv.end) in
    record {
      end = to;
      len = ap length c.push_reserved.ensures.items ∙ length_push c.loop-t.ends.items end ∙ ap (λ n. n + 1) inv.len;
      ended = λ i li. rw c.push_reserved.ensures.items (end_step c.loop-t.ends.items es t end i inv.len to li (λ l. inv.ended i l));
      capacity = c.push_reserved.ensures.capacity ∙ inv.capacity;
    }
