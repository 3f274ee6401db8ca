use Rattle.std.proofs.Common.{drop}
use Rattle.std.specs.Prelude.{◌↔◌}
use Rattle.nv_entry.specs.Shape.{AreLawful, items_of}
use Rattle.nv_audit.proofs.log_shape.are_lawful_from.Given as goal

abbrev pub invariant-loop-entry : goal.invariant-loop-entry
invariant-loop-entry l =
    AreLawful l.block (items_of l.log) l.fn.before ↔ AreLawful l.block (items_of (drop l.entry-index l.log)) l.kind
