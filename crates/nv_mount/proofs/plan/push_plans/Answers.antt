use Rattle.std.proofs.Common.{◌≡◌, ◌<◌, false, length, ap, arith}
use Rattle.nv_audit.proofs.MountedLogs.{tail_at, tails_many}
use Rattle.nv_mount.specs.Plan.{IsSlotPlan}
use Rattle.nv_mount.specs.View.{ViewValue}
use Rattle.nv_mount.proofs.Pushed.{each_push}
use Rattle.nv_mount.proofs.Seen.{erased_at, erased_many}
use Rattle.nv_mount.proofs.plan.push_plans.Goals as goal

pub bounds-tails-ino : goal.bounds-tails-ino
bounds-tails-ino c =
    let asked = c.requires.seen in
    let same = ap (λ (v : ViewValue). length v.slots) c.view.view_is in
    omega (arith, c.loop-ino-test.true, same, asked.2.count, tails_many asked.0 c.args.tails.now asked.3)

pub bounds-ended-ino : goal.bounds-ended-ino
bounds-ended-ino c =
    let asked = c.requires.seen in
    let same = ap (λ (v : ViewValue). length v.slots) c.view.view_is in
    omega (arith, c.loop-ino-test.true, same, asked.2.count, erased_many asked.0 c.args.ended.now asked.4)

pub plan_slot-requires-clause-seen : goal.plan_slot-requires-clause-seen
plan_slot-requires-clause-seen c =
    let asked = c.requires.seen in
    let ino = c.loop-ino.ino in
    let same = ap (λ (v : ViewValue). length v.slots) c.view.view_is in
    let lt : ino < length asked.0.slots = omega (arith, c.loop-ino-test.true, same, asked.2.count) in (
      asked.0,
      asked.1,
      asked.2,
      tail_at asked.0 c.args.tails.now ino 0 asked.3 lt,
      erased_at asked.0 c.args.ended.now ino false asked.4 lt,
    )

pub loop-ino-preserved : goal.loop-ino-preserved
loop-ino-preserved c =
    let view = c.args.view.now in
    let ino = c.loop-ino.ino in
    let inv = c.loop-ino.invariant in
    let same = ap (λ (v : ViewValue). length v.slots) c.view.view_is in
    let count : length c.loop-ino.slots.items ≡ ino = omega (arith, inv.len, c.loop-ino.slots.ok) in
    record {
      each = λ image faultless seen cut gone.
          let lt : ino < length image.slots = omega (arith, c.loop-ino-test.true, same, seen.count) in
          each_push (IsSlotPlan image view) c.loop-ino.slots.items c.push_reserved.new.self.items c.in_ok-plan.plan ino
          c.push_reserved.ensures.items count (inv.each image faultless seen cut gone)
          (c.in_ok-plan.ensures.ok image faultless seen (tail_at image c.args.tails.now ino 0 cut lt)
          (erased_at image c.args.ended.now ino false gone lt));
      len = omega (arith, c.push_reserved.ensures.len, inv.len);
      room = omega (arith, c.push_reserved.ensures.capacity, inv.room);
    }
