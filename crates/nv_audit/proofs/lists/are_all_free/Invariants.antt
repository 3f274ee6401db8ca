use Rattle.std.proofs.Common.{ℕ, ◌+◌, ◌<◌, slice_index_or}
use Rattle.nv_base.specs.Homes.{home_start}
use Rattle.nv_audit.specs.Lists.{IsRangeFree, mark_at, no_list}
use Rattle.nv_audit.proofs.lists.are_all_free.Given as goal

abbrev pub invariant-loop-cpu : goal.invariant-loop-cpu
invariant-loop-cpu l =
    (cpu : ℕ) → cpu < l.cpu
    → IsRangeFree (slice_index_or l.lists cpu no_list) (mark_at l.marks) (home_start l.geometry.numbers.blocks l.geometry.numbers.cpus cpu)
    (home_start l.geometry.numbers.blocks l.geometry.numbers.cpus (cpu + 1))
