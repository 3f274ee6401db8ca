use Rattle.std.proofs.Common.{◌≡◌, ◌<◌, ◌++◌, ℕ, List, length, ap, ap₂, arith, sym, ◌∙◌}
use Rattle.nv_audit.specs.Logged.{LoggedValue}
use Rattle.nv_audit.specs.Mounted.{log_records}
use Rattle.nv_audit.proofs.MountedLogs.{tails_many}
use Rattle.nv_book.specs.declared.record.Record.{Record}
use Rattle.nv_mount.specs.View.{ViewValue}
use Rattle.nv_mount.proofs.Anew.{flat_more, records_are, records_in}
use Rattle.nv_mount.proofs.Seen.{front_in, seen_within}
use Rattle.nv_mount.proofs.parts.records_anew.Goals as goal

pub bounds-tails-ino : goal.bounds-tails-ino
bounds-tails-ino c =
    let same = ap (λ (v : ViewValue). length v.slots) c.view.view_is in
    omega (arith, c.loop-ino-test.true, same, c.requires.2.count, tails_many c.requires.0 c.args.tails.now c.requires.3)

pub front_of-log-requires-clause-tail : goal.front_of-log-requires-clause-tail
front_of-log-requires-clause-tail c =
    let same = ap (λ (v : ViewValue). length v.slots) c.view.view_is in
    let image = c.requires.0 in
    let lt : c.loop-ino.ino < length image.slots = omega (arith, c.loop-ino-test.true, same, c.requires.2.count) in
    seen_within image c.args.view.now c.requires.2 c.args.tails.now c.loop-ino.ino 0 c.requires.1 c.requires.3 lt

pub loop-ino-preserved : goal.loop-ino-preserved
loop-ino-preserved c =
    let view = c.args.view.now in
    let tails = c.args.tails.now in
    let ino = c.loop-ino.ino in
    let log = front_in view tails ino in
    let snapshots = c.view.inside.snapshots.now in
    let own : log_records c.front_of-log.result.block snapshots c.new.result c.front_of-log.result.log ≡ records_in view tails ino =
    ap (λ (l : LoggedValue). log_records l.block snapshots c.new.result l.log) c.front_of-log.ensures
    ∙ ap (λ (v : ViewValue). log_records view.numbers.block v.snapshots c.new.result log) c.view.view_is
    ∙ ap (λ (n : ℕ). log_records view.numbers.block view.snapshots n log) c.new.ensures in
    c.in_ok-push_records_anew.ensures.ok
    ∙ ap₂ (λ (before these : List Record). before ++ these) c.loop-ino.invariant own
    ∙ sym (flat_more (records_in view tails) ino)

pub returns-clause-ok : goal.returns-clause-ok
returns-clause-ok c image faultless seen cut =
    let same = ap (λ (v : ViewValue). length v.slots) c.view.view_is in
    let end : c.loop-ino.ino ≡ length image.slots =
    omega (arith, c.loop-ino-test.false, c.loop-ino.auto.ino-end, same, seen.count) in
    c.loop-ino.invariant ∙ records_are image c.args.view.now c.args.tails.now seen cut c.loop-ino.ino end
