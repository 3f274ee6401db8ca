use Rattle.std.proofs.Common.{ℕ, ◌<◌, slice_index_or}
use Rattle.nv_entry.specs.Shape.{IsShaped}
use Rattle.nv_audit.specs.Logged.{LoggedValue}
use Rattle.nv_audit.proofs.faults.items.are_shaped.Given as goal

abbrev pub invariant-loop-logged : goal.invariant-loop-logged
invariant-loop-logged l = (n : ℕ) (own : LoggedValue) → n < l.logged-index
    → IsShaped (slice_index_or l.logs n own).block (slice_index_or l.logs n own).log
