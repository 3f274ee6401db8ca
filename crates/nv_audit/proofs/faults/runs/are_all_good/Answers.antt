use Rattle.std.proofs.Common.{◌<◌, length, arith, refl, sym, ◌∙◌}
use Rattle.std.proofs.lemmas.Bool.{false≢true}
use Rattle.nv_audit.specs.Faults.{IsRunGood}
use Rattle.nv_audit.proofs.Items.{few_logs, its_log, one_ino_more}
use Rattle.nv_audit.proofs.faults.runs.are_all_good.Goals as goal

pub is_slot_good-requires-clause-slot : goal.is_slot_good-requires-clause-slot
is_slot_good-requires-clause-slot c =
    omega (arith, c.loop-ino-test.true, few_logs c.args.image.now c.args.logs.now c.requires.logs)

pub is_slot_good-requires-clause-log : goal.is_slot_good-requires-clause-log
is_slot_good-requires-clause-log c =
    let image = c.args.image.now in
    let logs = c.args.logs.now in
    let ino = c.loop-ino.ino in
    let lt : ino < length image.slots = omega (arith, c.loop-ino-test.true, few_logs image logs c.requires.logs) in
    c.index-logs-ino.is ∙ its_log image logs c.requires.logs ino c.index-logs-ino.result lt

pub returns-then-not-good-clause-ok : goal.returns-then-not-good-clause-ok
returns-then-not-good-clause-ok c =
    let image = c.args.image.now in
    let ino = c.loop-ino.ino in
    let lt : ino < length image.slots =
    omega (arith, c.loop-ino-test.true, few_logs image c.args.logs.now c.requires.logs) in (
      λ t. absurd (false≢true t),
      λ all. absurd (false≢true (sym c.if-not-good.true ∙ c.in_ok-good.ensures.ok.1 (all ino lt))),
    )

pub loop-ino-init : goal.loop-ino-init
loop-ino-init c k lt = absurd (omega (arith, lt))

pub loop-ino-preserved : goal.loop-ino-preserved
loop-ino-preserved c =
    one_ino_more (IsRunGood c.args.image.now) c.loop-ino.ino c.loop-ino.invariant (c.in_ok-good.ensures.ok.0 c.if-not-good.false)

pub returns-clause-ok : goal.returns-clause-ok
returns-clause-ok c =
    let few = few_logs c.args.image.now c.args.logs.now c.requires.logs in (
      λ t k lt. c.loop-ino.invariant k (omega (arith, lt, few, c.loop-ino-test.false)),
      λ all. refl,
    )
