use Rattle.std.proofs.Common.{List, get_or-drop, None, slice_index_or, length-take, length-drop, ◌≡◌, ◌∙◌, arith, ap, drop}
use Rattle.std.proofs.lemmas.List.{get_or-take}
use Rattle.nv_cell.specs.declared.mark.Mark.{Mark}
use Rattle.nv_cell.specs.declared.mark.Mark.TheVariants.{Current}
use Rattle.nv_core.specs.Reports.{one_of}
use Rattle.nv_cell.specs.Cell.{log_of}
use Rattle.nv_cell.specs.Numbers.{part_base}
use Rattle.nv_cell.proofs.Publishing.{total_take}
use Rattle.nv_entry.specs.Covered.{part_count}
use Rattle.nv_core.proofs.Kept.{entry_marks, entry_within, kept_more}
use Rattle.nv_core.proofs.reports.kept_of.Goals as goal

pub mark_at-requires : goal.mark_at-requires
mark_at-requires c =
    let cell = c.args.cell.now.state in
    let e = c.args.entry.now in
    let marks = c.marks_of-marks.ensures ∙ entry_marks (log_of cell) cell.marks c.args.place e c.requires in
    let within = entry_within (log_of cell) c.args.place e c.requires in
    let long = length-take (part_count e) (drop (part_base (log_of cell) c.args.place) cell.marks) in
    let rest = length-drop (part_base (log_of cell) c.args.place) cell.marks in
    rw marks (omega (arith, within, long, rest, c.holds_together.ensures.marks.len, c.loop-k-test.true, c.part_count-k-end.ensures))

pub loop-k-preserved : goal.loop-k-preserved
loop-k-preserved c =
    let cell = c.args.cell.now.state in
    let e = c.args.entry.now in
    let base = part_base (log_of cell) c.args.place in
    let within = entry_within (log_of cell) c.args.place e c.requires in
    let marks = length-drop base cell.marks in
    let blocks = length-drop base cell.blocks in
    let whole = total_take cell.chain.entries cell.chain.tail in
    let more = kept_more c.args.book.now.state e.epoch c.loop-k.k (drop base cell.marks) (drop base cell.blocks)
    (omega (arith, within, marks, c.holds_together.ensures.marks.len, c.loop-k-test.true, c.part_count-k-end.ensures))
    (omega (arith, within, blocks, whole, c.holds_together.ensures.blocks.len, c.loop-k-test.true, c.part_count-k-end.ensures)) in
    let marked = c.marks_of-marks.ensures ∙ entry_marks (log_of cell) cell.marks c.args.place e c.requires in
    let mark : c.mark_at.result ≡ slice_index_or (drop base cell.marks) c.loop-k.k Current =
    c.mark_at.ensures ∙ ap (λ (l : List Mark). slice_index_or l c.loop-k.k Current) marked
    ∙ get_or-take (part_count e) (drop base cell.marks) c.loop-k.k Current
    (omega (arith, c.loop-k-test.true, c.part_count-k-end.ensures)) in
    let part : c.kept_part-count.result ≡ one_of c.args.book.now.state e.epoch (slice_index_or (drop base cell.marks) c.loop-k.k Current)
    (slice_index_or (drop base cell.blocks) c.loop-k.k None) =
    rw (← mark, get_or-drop base cell.blocks c.loop-k.k None) (c.kept_part-count.ensures.value c.args.place c.requires
    (mark ∙ get_or-drop base cell.marks c.loop-k.k Current)) in
    record {
      count = omega (arith, more, part, c.loop-k.invariant.count);
      few = omega arith;
    }
