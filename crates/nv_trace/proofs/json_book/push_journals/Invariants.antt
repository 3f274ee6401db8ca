use Rattle.std.proofs.Common.{◌≡◌, ◌++◌, drop}
use Rattle.nv_script.specs.Json.{journal_object, values_from}
use Rattle.nv_trace.proofs.json_book.push_journals.Given as goal

abbrev pub invariant-loop-place : goal.invariant-loop-place
invariant-loop-place l =
    l.out.items ++ values_from (λ place cpu. journal_object l.book.state cpu) l.place (drop l.place l.cpus)
    ≡ l.initial.out.items ++ values_from (λ place cpu. journal_object l.book.state cpu) 0 l.cpus
