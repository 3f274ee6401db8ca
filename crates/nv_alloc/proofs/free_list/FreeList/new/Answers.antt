use Rattle.std.proofs.Common.{◌≡◌, ◌+◌, ◌-◌, ◌≤◌, length, arith, ap, ◌∙◌}
use Rattle.nv_base.proofs.HomeRanges.{cuts}
use Rattle.nv_alloc.proofs.Slots.{length-full, present-full}
use Rattle.nv_alloc.proofs.Shelves.{shelf_full}
use Rattle.nv_alloc.proofs.free_list.FreeList.new.Goals as goal
use Rattle.nv_alloc.proofs.free_list.FreeList.new.Goals.{In_ok-slots}

pub invariant_of-result : goal.invariant_of-result
invariant_of-result c = shelf_full c.args.geometry.now.numbers.block c.home_start-start.result
    (c.home_start.result - c.home_start-start.result) c.in_ok-slots.slots.items c.in_ok-free.free c.in_ok-slots.ensures c.in_ok-free.ensures
    (omega (arith, c.home_start-start.ensures.within, c.home_start.ensures.within, c.args.geometry.now.limits.blocks_fit))

-- each number of the home range has a slot
count : (c : In_ok-slots) → length c.in_ok-slots.slots.items ≡ c.home_start.result - c.home_start-start.result
count c =
    let start = c.home_start-start.result in
    ap length c.in_ok-slots.ensures ∙ length-full c.args.geometry.now.numbers.block start (c.home_start.result - start)

pub returns-clause-end : goal.returns-clause-end
returns-clause-end c =
    let numbers = c.args.geometry.now.numbers in
    let order : c.home_start-start.result ≤ c.home_start.result =
    rw (c.home_start-start.ensures.value, c.home_start.ensures.value)
    ((cuts numbers.blocks numbers.cpus (omega (arith, c.args.geometry.now.limits.some_cpus))).in_order c.args.cpu) in
    let same : c.home_start-start.result + length c.in_ok-slots.slots.items ≡ c.home_start.result =
    omega (arith, count (goal.at.returns-clause-end c).In_ok-slots, order) in
    same ∙ c.home_start.ensures.value

pub returns-clause-blocks : goal.returns-clause-blocks
returns-clause-blocks c =
    let start = c.home_start-start.result in
    let many : start + length c.in_ok-slots.slots.items - start ≡ c.home_start.result - start =
    omega (arith, count (goal.at.returns-clause-blocks c).In_ok-slots) in
    rw (many, c.in_ok-slots.ensures) (present-full c.args.geometry.now.numbers.block start (c.home_start.result - start))
