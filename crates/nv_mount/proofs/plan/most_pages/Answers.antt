use Rattle.std.proofs.Common.{◌<◌, ◌≤◌, ℕ, length, ap, arith, subst}
use Rattle.nv_audit.proofs.MountedLogs.{tail_at}
use Rattle.nv_log.specs.Image.{pages_past}
use Rattle.nv_mount.specs.View.{ViewValue, slot_in}
use Rattle.nv_mount.proofs.plan.most_pages.Goals as goal

pub returns : goal.returns
returns c image seen cut ino lt =
    let same = ap (λ (v : ViewValue). length v.slots) c.view.view_is in
    let within : ino < c.loop-ino.ino = omega (arith, lt, c.loop-ino-test.false, c.loop-ino.auto.ino-end, same, seen.count) in
    subst (λ (n : ℕ). length (pages_past n (slot_in c.args.view.now ino).chain.state) ≤ c.loop-ino.most)
    (tail_at image c.args.tails.now ino 0 cut lt) (c.loop-ino.invariant ino within)
