use Rattle.std.proofs.Common.{◌≡◌, ℕ, ◌<◌, length, arith, ap, ◌∙◌}
use Rattle.nv_audit.specs.Image.{slot_of}
use Rattle.nv_audit.specs.Logged.{logged}
use Rattle.nv_audit.specs.Mounted.{cell_anew}
use Rattle.nv_audit.proofs.MountedLogs.{front_logs, logs_more, tail_at, tails_many}
use Rattle.nv_audit.proofs.mounted.mounted_logs.Goals as goal

pub loop-ino-init : goal.loop-ino-init
loop-ino-init c = c.new-logs.ensures.items

pub mounted_log-requires-clause-slot : goal.mounted_log-requires-clause-slot
mounted_log-requires-clause-slot c =
    omega (arith, c.loop-ino-test.true, tails_many c.args.image.now c.args.tails.now c.requires.tails)

pub loop-ino-preserved : goal.loop-ino-preserved
loop-ino-preserved c =
    let image = c.args.image.now in
    let tails = c.args.tails.now in
    let ino = c.loop-ino.ino in
    let lt : ino < length image.slots = omega (arith, c.loop-ino-test.true, tails_many image tails c.requires.tails) in
    let own =
    c.in_ok-mounted_log.ensures.ok
    ∙ ap (λ (t : ℕ). logged (cell_anew image.numbers image.snapshots t (slot_of image ino)))
    (tail_at image tails ino 0 c.requires.tails lt) in
    logs_more image ino c.loop-ino.logs.items c.push.new.self.items c.in_ok-mounted_log.field-0 c.loop-ino.invariant own
    c.in_ok-push.ensures.items

pub returns-clause-ok : goal.returns-clause-ok
returns-clause-ok c =
    let end : c.loop-ino.ino ≡ length c.args.image.now.slots =
    omega (arith, c.loop-ino-test.false, c.loop-ino.auto.ino-end, tails_many c.args.image.now c.args.tails.now c.requires.tails) in
    c.loop-ino.invariant ∙ ap (front_logs c.args.image.now) end
