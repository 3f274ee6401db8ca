use Rattle.std.proofs.Common.{ap, arith, sym, ◌∙◌}
use Rattle.nv_audit.specs.Logged.{LoggedValue}
use Rattle.nv_audit.specs.Mounted.{is_over}
use Rattle.nv_audit.proofs.MountedLogs.{log_left, log_over}
use Rattle.nv_audit.proofs.mounted.log_left.Goals as goal

pub front_logged-log-requires-clause-block : goal.front_logged-log-requires-clause-block
front_logged-log-requires-clause-block c = omega (arith, c.args.geometry.now.limits.some_bytes)

pub erased_logged-requires-clause-block : goal.erased_logged-requires-clause-block
erased_logged-requires-clause-block c = omega (arith, c.args.geometry.now.limits.some_bytes)

pub returns-then-over-clause-ok : goal.returns-then-over-clause-ok
returns-then-over-clause-ok c =
    let living = c.args.snapshots.now in
    c.erased_logged.ensures
    ∙ log_over c.args.geometry.now.numbers living c.args.tail c.args.slot.now
    (ap (λ (l : LoggedValue). is_over living l.block l.log) (sym c.front_logged-log.ensures) ∙ sym c.in_ok-over.ensures.ok ∙ c.if-over.true)

pub returns-clause-ok : goal.returns-clause-ok
returns-clause-ok c =
    let living = c.args.snapshots.now in
    c.front_logged-log.ensures
    ∙ log_left c.args.geometry.now.numbers living c.args.tail c.args.slot.now
    (ap (λ (l : LoggedValue). is_over living l.block l.log) (sym c.front_logged-log.ensures) ∙ sym c.in_ok-over.ensures.ok ∙ c.if-over.false)
