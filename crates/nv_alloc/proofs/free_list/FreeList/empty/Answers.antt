use Rattle.std.proofs.Common.{◌≡◌, ◌+◌, ◌-◌, ◌≤◌, length, arith, ap, refl, ◌∙◌}
use Rattle.std.proofs.lemmas.List.{length-replicate}
use Rattle.nv_base.proofs.HomeRanges.{cuts}
use Rattle.nv_alloc.proofs.Slots.{no_block, present-none}
use Rattle.nv_alloc.proofs.Shelves.{shelf_bare}
use Rattle.nv_alloc.proofs.free_list.FreeList.empty.Goals as goal

pub invariant_of-result : goal.invariant_of-result
invariant_of-result c = shelf_bare c.args.geometry.now.numbers.block c.home_start-start.result
    (c.home_start.result - c.home_start-start.result) c.in_ok-slots.slots.items c.in_ok-free.free c.in_ok-slots.ensures c.in_ok-free.ensures
    (omega (arith, c.home_start-start.ensures.within, c.home_start.ensures.within, c.args.geometry.now.limits.blocks_fit))

pub returns-clause-ok : goal.returns-clause-ok
returns-clause-ok c =
    let numbers = c.args.geometry.now.numbers in
    let start = c.home_start-start.result in
    let order : start ≤ c.home_start.result =
    rw (c.home_start-start.ensures.value, c.home_start.ensures.value)
    ((cuts numbers.blocks numbers.cpus (omega (arith, c.args.geometry.now.limits.some_cpus))).in_order c.args.cpu) in
    let many : length c.in_ok-slots.slots.items ≡ c.home_start.result - start =
    ap length c.in_ok-slots.ensures ∙ length-replicate (c.home_start.result - start) no_block in
    let end : start + length c.in_ok-slots.slots.items ≡ c.home_start.result = omega (arith, many, order) in
    rw (end, c.in_ok-slots.ensures, present-none (c.home_start.result - start), c.home_start.ensures.value, c.home_start-start.ensures.value)
    refl
