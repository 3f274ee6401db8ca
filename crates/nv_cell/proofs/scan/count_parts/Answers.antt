use Rattle.std.proofs.Common.{◌≡◌, ◌-◌, ◌^◌, ap, arith, length, min, ◌∙◌}
use Rattle.nv_entry.specs.Covered.{part_total}
use Rattle.nv_cell.specs.Numbers.{part_base}
use Rattle.nv_cell.proofs.EntryRead.{entry_read}
use Rattle.nv_cell.proofs.Publishing.{take_whole}
use Rattle.nv_cell.proofs.scan.count_parts.Goals as goal

pub loop-t-preserved : goal.loop-t-preserved
loop-t-preserved c =
    let p = entry_read c.args.chain.now.state.entries c.loop-t.t _ c.entry_at.ensures in
    omega (arith, p.parts, c.part_count.ensures, c.saturating_add-total.ensures, c.loop-t.invariant)

pub returns : goal.returns
returns c =
    let es = c.args.chain.now.state.entries in
    let done : c.loop-t.t ≡ length es = omega (arith, c.loop-t-test.false, c.len-t-end.ensures, c.loop-t.auto.t-end) in
    c.loop-t.invariant ∙ ap (λ n. min (part_base es n) (2 ^ 64 - 1)) done ∙ ap (λ xs. min (part_total xs) (2 ^ 64 - 1)) (take_whole es)
