use Rattle.std.proofs.Common.{◌≡◌, ◌++◌, drop}
use Rattle.nv_script.specs.Json.{snap_object, values_from}
use Rattle.nv_trace.proofs.json_book.push_snaps.Given as goal

abbrev pub invariant-loop-place : goal.invariant-loop-place
invariant-loop-place l =
    l.out.items ++ values_from (λ place m. snap_object l.book.state m) l.place (drop l.place l.manifests)
    ≡ l.initial.out.items ++ values_from (λ place m. snap_object l.book.state m) 0 l.manifests
