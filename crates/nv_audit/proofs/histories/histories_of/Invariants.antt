use Rattle.std.proofs.Common.{◌≡◌, ℕ, ◌<◌, length, slice_index_or}
use Rattle.nv_audit.specs.Histories.{IsHistoryBy}
use Rattle.nv_audit.specs.Logged.{LoggedValue}
use Rattle.nv_audit.specs.declared.histories.History.{History}
use Rattle.nv_audit.proofs.histories.histories_of.Given as goal

abbrev pub invariant-loop-logged : goal.invariant-loop-logged
invariant-loop-logged l = record {
  len : length l.histories.items ≡ l.logged-index;
  each : (n : ℕ) (own : LoggedValue) (history : History) → n < l.logged-index
      → IsHistoryBy (slice_index_or l.logs n own).log (slice_index_or l.histories.items n history);
}
