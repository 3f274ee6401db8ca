use Rattle.std.proofs.Common.{arith}
use Rattle.nv_mount.proofs.OpenedSlots.{seen_all, seen_more}
use Rattle.nv_mount.proofs.mount.seen_of.Goals as goal

pub loop-k-preserved : goal.loop-k-preserved
loop-k-preserved c = record {
  seen =
      seen_more c.args.bare.now c.loop-k.k c.index-bare-bare.result c.loop-k.slots.items c.push_reserved.new.self.items (omega arith)
      c.index-bare-bare.is c.loop-k.invariant.seen c.push_reserved.ensures.items;
  len = omega (arith, c.push_reserved.ensures.len, c.loop-k.invariant.len);
  room = omega (arith, c.push_reserved.ensures.capacity, c.loop-k.invariant.room);
}

pub returns : goal.returns
returns c = seen_all c.args.bare.now c.loop-k.k c.loop-k.slots.items (omega arith) c.loop-k.invariant.seen
