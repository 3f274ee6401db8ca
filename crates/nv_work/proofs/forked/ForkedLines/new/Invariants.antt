use Rattle.std.proofs.Common.{◌≡◌, vec_len, map, []}
use Rattle.std.specs.List.{range_with_len}
use Rattle.nv_work.specs.Threads.{share_of}
use Rattle.nv_work.proofs.forked.ForkedLines.new.Given as goal

abbrev pub invariant-loop-thread : goal.invariant-loop-thread
invariant-loop-thread l = record {
  count : vec_len l.lists ≡ l._thread;
  lists : map (λ calls. calls.items) l.lists.items ≡ map (share_of l.threads []) (range_with_len 0 l._thread);
}
