use Rattle.std.proofs.Common.{◌≡◌, ℕ, length, map, drop, arith, ap, refl, ◌∙◌}
use Rattle.std.proofs.Math.Seq.{take-append_seam}
use Rattle.std.specs.Option.{option_map}
use Rattle.nv_alloc.specs.Block.{zeroed}
use Rattle.nv_alloc.proofs.ZeroBlocks.{changed-all, changed-at, changed-more}
use Rattle.nv_alloc.proofs.free_list.zeros.clear_slots.Goals as goal

pub loop-slot-init : goal.loop-slot-init
loop-slot-init c = refl

pub loop-slot-preserved : goal.loop-slot-preserved
loop-slot-preserved c =
    let all = c.deref_mut-slot-items.result.now in
    let i : ℕ = c.loop-slot.slot-index in
    rw (c.clear_slot.ensures, c.loop-slot.invariant, changed-at (option_map zeroed) all i c.slot-item.result)
    (changed-more (option_map zeroed) all i c.slot-item.result c.loop-slot-test.true)

pub returns : goal.returns
returns c =
    let all = c.deref_mut-slot-items.result.now in
    let done : c.loop-slot.slot-items ≡ map (option_map zeroed) c.args.slots.now.items =
    c.loop-slot.invariant
    ∙ changed-all (option_map zeroed) all c.loop-slot.slot-index (omega (arith, c.loop-slot-test.false))
    ∙ ap (map (option_map zeroed)) c.deref_mut-slot-items.ensures.value in
    let many : c.args.slots.now.len ≡ length c.loop-slot.slot-items =
    omega (arith, c.loop-slot.auto.slot-items, c.deref_mut-slot-items.ensures.len) in
    rw many (take-append_seam c.loop-slot.slot-items (drop (length c.loop-slot.slot-items) c.args.slots.now.items)) ∙ done
