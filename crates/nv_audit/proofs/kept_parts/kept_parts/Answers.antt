use Rattle.std.proofs.Common.{◌≡◌, ◌<◌, ◌++◌, List, length, map, arith, ap, ◌∙◌}
use Rattle.nv_cell.specs.Cell.{log_of}
use Rattle.nv_cell.specs.declared.mark.Mark.{Mark}
use Rattle.nv_audit.specs.KeptParts.{is_marked_as_kept}
use Rattle.nv_audit.specs.declared.kept_parts.KeptParts.{KeptParts}
use Rattle.nv_audit.proofs.GatheredParts.{gathered_all, gathered_more, gathered_none, log_length}
use Rattle.nv_audit.proofs.kept_parts.kept_parts.Goals as goal

pub loop-entry-init : goal.loop-entry-init
loop-entry-init c = gathered_none c.args.cell.now.state _ c.new.ensures.items c.new-2.ensures.items

pub loop-entry-preserved : goal.loop-entry-preserved
loop-entry-preserved c =
    let cell = c.args.cell.now.state in
    let i = c.loop-entry.entry in
    let parts = c.loop-entry.parts in
    let new : KeptParts = record { firsts = c.push.new.self; left = c.push_kept.new.left } in
    let len = log_length cell c.holds_together.ensures in
    let lt : i < length (log_of cell) = omega (arith, c.loop-entry-test.true, c.tail-entry-end.ensures, len) in
    let size : c.len.result ≡ length parts.left.items = omega (arith, c.len.ensures) in
    gathered_more cell c.holds_together.ensures i c.len.result parts new lt c.loop-entry.invariant size c.in_ok-push.ensures.items
    (c.in_ok-push_kept.ensures ∙ ap (λ (l : List Mark). parts.left.items ++ map is_marked_as_kept l) c.marks_of.ensures)

pub returns-clause-parts : goal.returns-clause-parts
returns-clause-parts c =
    let cell = c.args.cell.now.state in
    let len = log_length cell c.holds_together.ensures in
    let end : c.loop-entry.entry ≡ length (log_of cell) =
    omega (arith, c.loop-entry-test.false, c.loop-entry.auto.entry-end, c.tail-entry-end.ensures, len) in
    (gathered_all cell c.holds_together.ensures c.loop-entry.entry c.loop-entry.parts end c.loop-entry.invariant).0

pub returns-clause-left : goal.returns-clause-left
returns-clause-left c =
    let cell = c.args.cell.now.state in
    let len = log_length cell c.holds_together.ensures in
    let end : c.loop-entry.entry ≡ length (log_of cell) =
    omega (arith, c.loop-entry-test.false, c.loop-entry.auto.entry-end, c.tail-entry-end.ensures, len) in
    (gathered_all cell c.holds_together.ensures c.loop-entry.entry c.loop-entry.parts end c.loop-entry.invariant).1
