use Rattle.std.proofs.Common.{arith}
use Rattle.nv_calls.proofs.RunLists.{count-in_place}
use Rattle.nv_calls.proofs.runs.write_items.Goals as goal

pub overflow_add-page : goal.overflow_add-page
overflow_add-page c =
    omega (arith, count-in_place _ _ _ _ c.in-Some.is c.runs.view_is, c.requires)

pub add_items-requires-2 : goal.add_items-requires-2
add_items-requires-2 c =
    rw c.deref-2.ensures.value (omega (arith, count-in_place _ _ _ _ c.in-Some.is c.runs.view_is, c.requires))
