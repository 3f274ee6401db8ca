use Rattle.std.proofs.Common.{◌≡◌, ◌∷◌, [], false, set, sym, ap, arith, length, refl, length-set, drop}
use Rattle.nv_alloc.specs.Places.{places}
use Rattle.nv_alloc.proofs.Shelves.{pool_taken}
use Rattle.nv_alloc.proofs.Slots.{places-empty}
use Rattle.nv_alloc.proofs.inode_pool.InodePool.take.Goals as goal
use Rattle.nv_alloc.proofs.inode_pool.InodePool.take.Goals.{After-remove}

pub returns-in_err-place : goal.returns-in_err-place
returns-in_err-place c =
    let empty : places 0 c.self.inside.free ≡ [] = places-empty 0 c.self.inside.free c.in_err-place.ensures in
    rw (← c.self.view_is, empty) (record { lowest = c.from_residual.ensures; rest = refl })

taken : (c : After-remove)
    → places 0 c.self.inside.free ≡ c.in_ok-place.place ∷ places 0 (set c.self.inside.free c.in_ok-place.place false)
taken c = pool_taken c.self.inside.free c.in_ok-place.place c.in_ok-place.ensures

pub overflow_sub-self : goal.overflow_sub-self
overflow_sub-self c = omega (arith, ap length (taken (goal.at.overflow_sub-self c).After-remove), c.self.invariant.counted)

pub invariant_of-self : goal.invariant_of-self
invariant_of-self c =
    rw c.remove.ensures (record {
      sized = omega (arith, length-set c.self.inside.free c.in_ok-place.place false, c.self.invariant.sized);
      counted = omega (arith, ap length (taken (goal.at.invariant_of-self c).After-remove), c.self.invariant.counted);
      small = c.self.invariant.small;
    })

pub returns : goal.returns
returns c =
    let first = taken (goal.at.returns c).After-remove in
    rw (← c.self.view_is) (record {
      lowest = rw (c.new.ensures, c.from.ensures, first) refl;
      rest = rw c.remove.ensures (ap (λ ns. record { inodes = c.self.inside.inodes; numbers = drop 1 ns }) (sym first));
    })
