use Rattle.std.proofs.Common.{◌-◌, None, arith, length-set, refl}
use Rattle.std.proofs.lemmas.List.{get_or_default}
use Rattle.nv_alloc.proofs.Shelves.{IsGiven, shelf_count, given, taken}
use Rattle.nv_alloc.proofs.free_list.FreeList.give.Goals as goal
use Rattle.nv_alloc.proofs.free_list.FreeList.give.Goals.{After-index_mut}

all : (c : After-index_mut) → IsGiven c.self.invariant (c.number-2.result - c.self.inside.start) c.args.block
all c =
    given c.self.invariant (c.number-2.result - c.self.inside.start) c.args.block
    (taken _ c.args.block (rw (← c.self.view_is) at c.requires)) (omega arith)

pub overflow_add-self : goal.overflow_add-self
overflow_add-self c = let k = shelf_count c.self.invariant in omega (arith, k)

pub unreachable-requires : goal.unreachable-requires
unreachable-requires c =
    let there = all (goal.at.unreachable-requires c).After-index_mut in
    let d = get_or_default c.self.inside.slots.items (c.number-2.result - c.self.inside.start) c.index_mut.result.now None there.within in
    cc (there.is_free, d, c.index_mut.ensures.value, c.in-Some.ensures.value)

pub invariant_of-self : goal.invariant_of-self
invariant_of-self c =
    rw (c.replace.ensures.after, c.insert.ensures) (all (goal.at.invariant_of-self c).After-index_mut).shelf'

pub returns : goal.returns
returns c =
    rw (← c.self.view_is, c.replace.ensures.after, length-set, (all (goal.at.returns c).After-index_mut).blocks) refl
