use Rattle.std.proofs.Common.{◌≡◌, ◌-◌, ◌≤◌, false, get_or}
use Rattle.nv_alloc.proofs.ZeroBlocks.{zeros}
use Rattle.nv_alloc.proofs.free_list.FreeList.add_unmarked.Given as goal

abbrev pub invariant-loop-number : goal.invariant-loop-number
invariant-loop-number l = record {
  is : l.self ≡ record l.initial.self {
    blocks = zeros l.initial.self.size (λ n. get_or l.marks n false) l.number (l.end - l.number);
  };
  low : l.initial.self.start ≤ l.number;
}
