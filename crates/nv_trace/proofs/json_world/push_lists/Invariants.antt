use Rattle.std.proofs.Common.{◌≡◌, ◌++◌, drop}
use Rattle.nv_script.specs.Json.{list_object, values_from}
use Rattle.nv_trace.proofs.json_world.push_lists.Given as goal

abbrev pub invariant-loop-cpu : goal.invariant-loop-cpu
invariant-loop-cpu l =
    l.out.items ++ values_from list_object l.cpu (drop l.cpu l.world.shared.lists.items)
    ≡ l.initial.out.items ++ values_from list_object 0 l.world.shared.lists.items
