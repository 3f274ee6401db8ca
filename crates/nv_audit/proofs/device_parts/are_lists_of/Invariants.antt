use Rattle.std.proofs.Common.{ℕ, ◌<◌, slice_index_or}
use Rattle.nv_alloc.specs.FreeList.{IsHomeList}
use Rattle.nv_audit.specs.Lists.{no_list}
use Rattle.nv_audit.proofs.device_parts.are_lists_of.Given as goal

abbrev pub invariant-loop-cpu : goal.invariant-loop-cpu
invariant-loop-cpu l = (cpu : ℕ) → cpu < l.cpu → IsHomeList l.geometry.numbers cpu (slice_index_or l.lists cpu no_list)
