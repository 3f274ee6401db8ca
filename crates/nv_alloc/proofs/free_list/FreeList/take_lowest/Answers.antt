use Rattle.std.proofs.Common.{◌≡◌, ap, arith, length, []}
use Rattle.nv_alloc.specs.Places.{present}
use Rattle.nv_alloc.proofs.Shelves.{shelf_none, shelf_some, shelf_take, shelf_taken, taken_sized}
use Rattle.nv_alloc.proofs.free_list.FreeList.take_lowest.Goals as goal

pub unreachable-requires : goal.unreachable-requires
unreachable-requires c =
    let empty : present c.self.inside.slots.items ≡ [] = shelf_none c.self.invariant c.in_default.ensures in
    let some = rw (← c.self.view_is) at c.requires in
    absurd (omega (arith, ap length empty, some))

pub unreachable-requires-in-None : goal.unreachable-requires-in-None
unreachable-requires-in-None c =
    shelf_some c.self.invariant c.in-Some.place c.index_mut.result.now c.in-Some.ensures c.index_mut.ensures.value c.in-None.ensures.value

pub invariant_of-self : goal.invariant_of-self
invariant_of-self c = rw (c.take.ensures.after, c.remove.ensures)
    (shelf_take c.self.invariant c.in-Some.place c.index_mut.result.now c.in-Some.ensures c.index_mut.ensures.value c.in-Some-take.block
    c.in-Some-take.ensures.value)

pub returns-clause-lowest : goal.returns-clause-lowest
returns-clause-lowest c = rw (c.take.ensures.after, ← c.self.view_is)
    (shelf_taken c.self.invariant c.in-Some.place c.index_mut.result.now c.in-Some.ensures c.index_mut.ensures.value c.in-Some-take.block
    c.in-Some-take.ensures.value)

pub returns-clause-sized : goal.returns-clause-sized
returns-clause-sized c = rw (← c.self.view_is)
    (taken_sized c.self.invariant c.in-Some.place c.index_mut.result.now c.in-Some.ensures c.index_mut.ensures.value c.in-Some-take.block
    c.in-Some-take.ensures.value)
