use Rattle.std.proofs.Common.{◌≡◌, ◌-◌, ◌++◌, take, drop}
use Rattle.nv_alloc.proofs.free_list.FreeList.take.Given as goal

abbrev pub invariant-loop : goal.invariant-loop
invariant-loop l = record {
  list : l.self ≡ record l.initial.self { blocks = drop l.counter l.initial.self.blocks };
  queue : l.queue ≡ record l.initial.queue {
    blocks = l.initial.queue.blocks ++ take l.counter l.initial.self.blocks;
    room = l.initial.queue.room - l.counter;
  };
}
