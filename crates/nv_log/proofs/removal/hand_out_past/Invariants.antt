use Rattle.std.proofs.Common.{◌≡◌, ◌+◌, ◌-◌, ◌++◌, drop, length, reverse, take, vec_capacity}
use Rattle.nv_log.proofs.removal.hand_out_past.Given as goal

abbrev pub invariant-loop-page : goal.invariant-loop-page
invariant-loop-page l = record {
  blocks : l.blocks.items ≡ take (length l.initial.blocks.items + l.count - l._page) l.initial.blocks.items;
  out : l.out ≡ record l.initial.out {
    blocks = l.initial.out.blocks
        ++ reverse (drop (length l.initial.blocks.items + l.count - l._page) l.initial.blocks.items);
    room = l.initial.out.room - length (drop (length l.initial.blocks.items + l.count - l._page) l.initial.blocks.items);
  };
  capacity : vec_capacity l.blocks ≡ vec_capacity l.initial.blocks;
}
