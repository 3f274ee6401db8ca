use Rattle.std.proofs.Common.{◌≡◌, ℕ, ◌<◌, ◌≤◌, get_or, map, vec_capacity, vec_len}
use Rattle.std.specs.List.{range_with_len}
use Rattle.nv_alloc.specs.FreeList.{IsHomeList, no_list}
use Rattle.nv_mount.specs.Missing.{list_unmarked}
use Rattle.nv_mount.proofs.missing.push_lists.Given as goal

abbrev pub invariant-loop-cpu : goal.invariant-loop-cpu
invariant-loop-cpu l = record {
  lists : l.lists.items ≡ map (list_unmarked l.geometry.numbers l.marks) (range_with_len 0 l.cpu);
  homes : (k : ℕ) → k < l.cpu → IsHomeList l.geometry.numbers k (get_or l.lists.items k no_list);
  len : vec_len l.lists ≡ l.cpu;
  room : l.geometry.numbers.cpus ≤ vec_capacity l.lists;
}
