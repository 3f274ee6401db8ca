use Rattle.std.proofs.Common.{◌≡◌, drop, length}
use Rattle.nv_cell.specs.Cell.{log_of}
use Rattle.nv_audit.specs.Retained.{with_named}
use Rattle.nv_audit.proofs.retained.mark_named.Given as goal

abbrev pub invariant-loop-id : goal.invariant-loop-id
invariant-loop-id l = record {
  len : length l.parts.items ≡ length l.cell.state.marks;
  marked : with_named (log_of l.cell.state) (drop l.id-index l.names) l.parts.items
      ≡ with_named (log_of l.cell.state) l.names l.initial.parts.items;
}
