use Rattle.std.proofs.Common.{◌≡◌, ◌+◌, ◌++◌, drop}
use Rattle.nv_script.specs.Json.{entry_object, marks_at, values_from}
use Rattle.nv_trace.proofs.json_log.push_entries.Given as goal

abbrev pub invariant-loop-place : goal.invariant-loop-place
invariant-loop-place l =
    l.out.items ++ values_from (λ place e. entry_object e (marks_at l.cell.state (l.start + place))) l.place (drop l.place l.entries)
    ≡ l.initial.out.items ++ values_from (λ place e. entry_object e (marks_at l.cell.state (l.start + place))) 0 l.entries
