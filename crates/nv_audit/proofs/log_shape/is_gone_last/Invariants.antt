use Rattle.std.proofs.Common.{drop}
use Rattle.std.specs.Prelude.{◌↔◌}
use Rattle.nv_entry.specs.Shape.{IsGoneLast, items_of}
use Rattle.nv_audit.proofs.LogShapes.{IsGoneLastBehind}
use Rattle.nv_audit.proofs.log_shape.is_gone_last.Given as goal

abbrev pub invariant-loop-entry : goal.invariant-loop-entry
invariant-loop-entry l = IsGoneLast (items_of l.log) ↔ IsGoneLastBehind l.gone (items_of (drop l.entry-index l.log))
