use Rattle.std.proofs.Common.{subst, sym}
use Rattle.nv_core.specs.Turns.{IsTurn}
use Rattle.nv_core.specs.Worlds.{ShowsCall}
use Rattle.nv_core.specs.declared.reservation.Reservation.{Reservation}
use Rattle.nv_core.specs.declared.reservation.Reservation.TheVariants as reserved
use Rattle.nv_core.specs.declared.turn.Turn.TheVariants as turn
use Rattle.nv_core.proofs.step.turn.Goals as goal

pub returns-else-eq-clause-turn : goal.returns-else-eq-clause-turn
returns-else-eq-clause-turn c r shows =
    subst (λ (h : Reservation). IsTurn c.args.actor c.args.shared.now h r turn.Moves c.commit_step.new.shared
    (reserved.Commit c.commit_step.new.commit) c.args.running.now) (sym c.in-Commit.is)
    (c.commit_step.ensures.turn r (subst (λ (h : Reservation). ShowsCall h c.args.running.now r) c.in-Commit.is shows))

pub returns-else-eq-clause-rest : goal.returns-else-eq-clause-rest
returns-else-eq-clause-rest c r shows =
    c.commit_step.ensures.rest r (subst (λ (h : Reservation). ShowsCall h c.args.running.now r) c.in-Commit.is shows)

pub returns-then-eq-clause-rest : goal.returns-then-eq-clause-rest
returns-then-eq-clause-rest c r shows =
    c.handover_step-then-eq.ensures.rest r (subst (λ (h : Reservation). ShowsCall h c.args.running.now r) c.in-Commit.is shows)
