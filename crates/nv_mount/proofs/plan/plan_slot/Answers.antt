use Rattle.std.proofs.Common.{◌<◌, List, length, ap, arith, subst, sym, ◌∙◌}
use Rattle.nv_base.specs.declared.fault.ImageFault.TheVariants as fault
use Rattle.nv_epoch.specs.Holders.{IsRising}
use Rattle.nv_mount.specs.View.{SlotViewValue, ViewValue}
use Rattle.nv_mount.proofs.Seen.{increasing, same_entries, slot_read, tail_within}
use Rattle.nv_mount.proofs.plan.plan_slot.Goals as goal

pub new-requires-clause-within : goal.new-requires-clause-within
new-requires-clause-within c =
    let view = c.args.view.now in
    let ino = c.args.ino in
    let image = c.requires.seen.0 in
    let seen = c.requires.seen.2 in
    let slots = ap (λ (v : ViewValue). v.slots) c.view.view_is in
    let lt : ino < length image.slots = omega (arith, c.requires.within, seen.count) in
    let few : ino < length c.view.inside.slots.now =
    omega (arith, c.requires.within, ap (λ (ss : List SlotViewValue). length ss) slots) in
    let read =
    c.slot.view_is ∙ sym c.index-view-ino.is
    ∙ slot_read view c.view.inside.slots.now ino c.index-view-ino.result slots few c.index-view-ino.is in
    let many = ap (λ (s : SlotViewValue). length s.chain.state.entries) read in
    let same = ap length (same_entries image view seen ino lt) in
    omega (arith, many, same, c.requires.seen.3, tail_within image ino c.requires.seen.1 lt)

pub new-requires-clause-rising : goal.new-requires-clause-rising
new-requires-clause-rising c =
    let same = ap (λ (v : ViewValue). v.snapshots) c.view.view_is ∙ c.requires.seen.2.snapshots in
    increasing c.view.inside.snapshots.now (subst IsRising (sym same) (c.requires.seen.1 fault.Snaps).rising)
