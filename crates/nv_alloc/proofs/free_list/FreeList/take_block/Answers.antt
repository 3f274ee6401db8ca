use Rattle.std.proofs.Common.{◌-◌, arith, length-set, refl}
use Rattle.nv_alloc.proofs.Shelves.{free_block, free_counted, free_home, free_left, free_out, free_sized, free_some, shelf_length}
use Rattle.nv_alloc.proofs.free_list.FreeList.take_block.Goals as goal

pub overflow_sub-place : goal.overflow_sub-place
overflow_sub-place c =
    let home = free_home c.self.invariant c.args.number (rw (← c.self.view_is) at c.requires) in
    omega (arith, home.0, c.number.ensures)

pub overflow_cast-place : goal.overflow_cast-place
overflow_cast-place c =
    let home = free_home c.self.invariant c.args.number (rw (← c.self.view_is) at c.requires) in
    omega (arith, home.0, home.1, c.number.ensures, c.self.invariant.small)

pub remove-requires : goal.remove-requires
remove-requires c =
    let home = free_home c.self.invariant c.args.number (rw (← c.self.view_is) at c.requires) in
    omega (arith, home.0, home.1, c.number.ensures, shelf_length c.self.invariant)

pub overflow_sub-self : goal.overflow_sub-self
overflow_sub-self c =
    let some = free_counted c.self.invariant c.args.number (rw (← c.self.view_is) at c.requires) in
    omega (arith, some)

pub index_mut-requires : goal.index_mut-requires
index_mut-requires c =
    let home = free_home c.self.invariant c.args.number (rw (← c.self.view_is) at c.requires) in
    omega (arith, home.0, home.1, c.number.ensures, c.self.inside.slots.ok)

pub unreachable-requires : goal.unreachable-requires
unreachable-requires c =
    free_some c.self.invariant c.args.number (c.number.result - c.self.inside.start) (rw (← c.self.view_is) at c.requires) (omega arith)
    c.index_mut.result.now c.index_mut.ensures.value c.in-None.ensures.value

pub invariant_of-self : goal.invariant_of-self
invariant_of-self c =
    rw (c.take.ensures.after, c.remove.ensures)
    (free_out c.self.invariant c.args.number (c.number.result - c.self.inside.start) (rw (← c.self.view_is) at c.requires) (omega arith)
    c.index_mut.result.now c.index_mut.ensures.value c.in-Some.block c.in-Some.ensures.value)

pub returns : goal.returns
returns c =
    let there = rw (← c.self.view_is) at c.requires in
    let place = c.number.result - c.self.inside.start in
    rw (← c.self.view_is, c.take.ensures.after, length-set) (record {
      block =
          free_block c.self.invariant c.args.number place there (omega arith) c.index_mut.result.now c.index_mut.ensures.value
          c.in-Some.block c.in-Some.ensures.value;
      list = rw (free_left c.self.invariant c.args.number place there (omega arith)) refl;
      sized =
          free_sized c.self.invariant c.args.number place there (omega arith) c.index_mut.result.now c.index_mut.ensures.value
          c.in-Some.block c.in-Some.ensures.value;
    })
