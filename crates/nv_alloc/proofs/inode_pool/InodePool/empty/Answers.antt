use Rattle.std.proofs.Common.{false, length, sym, ap, arith, refl}
use Rattle.std.proofs.lemmas.List.{length-replicate}
use Rattle.nv_alloc.proofs.Slots.{places-none}
use Rattle.nv_alloc.proofs.inode_pool.InodePool.empty.Goals as goal

pub invariant_of-result : goal.invariant_of-result
invariant_of-result c =
    let inodes = c.args.geometry.now.numbers.inodes in
    rw c.in_ok-free.ensures (record {
      sized = length-replicate inodes false;
      counted = sym (ap length (places-none 0 inodes));
      small = omega (arith, c.args.geometry.now.limits.inodes_fit);
    })

pub returns-clause-ok : goal.returns-clause-ok
returns-clause-ok c = rw (c.in_ok-free.ensures, places-none 0 c.args.geometry.now.numbers.inodes) refl
