use Rattle.std.proofs.Common.{◌≡◌, true, set, ap, arith, length, length-set}
use Rattle.nv_alloc.specs.Places.{places}
use Rattle.nv_alloc.specs.Numbers.{put_by}
use Rattle.nv_alloc.proofs.Lists.{length-put_by}
use Rattle.nv_alloc.proofs.Shelves.{pool_given}
use Rattle.nv_alloc.proofs.Slots.{length-places}
use Rattle.nv_alloc.proofs.inode_pool.InodePool.give.Goals as goal
use Rattle.nv_alloc.proofs.inode_pool.InodePool.give.Goals.{After-insert}

pub overflow_add-self : goal.overflow_add-self
overflow_add-self c = let k = length-places 0 c.self.inside.free in
    omega (arith, k, c.self.invariant.sized, c.self.invariant.counted, c.self.invariant.small)

given : (c : After-insert)
    → places 0 (set c.self.inside.free c.args.ino true) ≡ put_by (λ n. n) c.args.ino (places 0 c.self.inside.free)
given c =
    let asked = rw (← c.self.view_is) at c.requires in
    pool_given c.self.inside.free c.args.ino (omega (arith, asked.inode, c.self.invariant.sized)) asked.absent

pub invariant_of-self : goal.invariant_of-self
invariant_of-self c =
    let more = ap length (given (goal.at.invariant_of-self c).After-insert) in
    rw (c.insert.ensures, c.number.ensures) (record {
      sized = omega (arith, length-set c.self.inside.free c.args.ino true, c.self.invariant.sized);
      counted = omega (arith, more, length-put_by (λ n. n) c.args.ino (places 0 c.self.inside.free), c.self.invariant.counted);
      small = c.self.invariant.small;
    })

pub returns : goal.returns
returns c =
    rw (← c.self.view_is, c.insert.ensures, c.number.ensures)
    (ap (λ ns. record { inodes = c.self.inside.inodes; numbers = ns }) (given (goal.at.returns c).After-insert))
