use Rattle.std.proofs.Common.{◌≡◌, ◌++◌, drop}
use Rattle.nv_script.specs.Json.{values_from}
use Rattle.nv_trace.proofs.json.push_values.Given as goal

abbrev pub invariant-loop-place : goal.invariant-loop-place
invariant-loop-place g l =
    l.out.items ++ values_from (λ place one. g.T.AsJson.json one) l.place (drop l.place l.all)
    ≡ l.initial.out.items ++ values_from (λ place one. g.T.AsJson.json one) 0 l.all
