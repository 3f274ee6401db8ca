use Rattle.std.proofs.Common.{◌≡◌, ◌-◌, ℕ, ap, subst}
use Rattle.std.specs.Prelude.{Ok}
use Rattle.nv_machine.specs.World.{Running}
use Rattle.nv_steps.specs.LastSteps.{once_drained}
use Rattle.nv_sessions.specs.RunCalls.{draining, told_as}
use Rattle.nv_sessions.specs.SessionRuns.{IsGivingRun}
use Rattle.nv_sessions.specs.Sessions.{held_by}
use Rattle.nv_sessions.proofs.Draining.{exits_run}
use Rattle.nv_sessions.proofs.Holding.{keeps}
use Rattle.nv_sessions.proofs.OtherRefusals.{exit_is}
use Rattle.nv_sessions.proofs.session.Session.drain.Goals as goal

-- the hand does not get empty
pub returns-in_err-empty_hand-clause-run : goal.returns-in_err-empty_hand-clause-run
returns-in_err-empty_hand-clause-run g c =
    keeps c.args.service.now.geometry.numbers c.args.self.now.number (draining c.args.number)
    (held_by c.empty_hand.new.hand c.empty_hand.new.giving) (told_as c.from_residual.result) _
    (ap told_as (exit_is c.from_residual.result _ c.from_residual.ensures.1)) c.in_err-empty_hand.ensures.err c.in_err-empty_hand.ensures.kept

pub returns-in_err-answer-clause-run : goal.returns-in_err-answer-clause-run
returns-in_err-answer-clause-run g c =
    let numbers = c.args.service.now.geometry.numbers in
    let actor = c.args.self.now.number in
    let call = draining c.args.number in
    let starts : once_drained 0 (c.most_drained-most.result - 1) call ≡ call =
    ap (λ (most : ℕ). once_drained 0 (most - 1) call) c.most_drained-most.ensures in
    exits_run numbers actor _ call (held_by c.drain_deferred.new.hand c.drain_deferred.new.giving) c.from_residual-in_err-answer.result _ starts
    (exit_is c.from_residual-in_err-answer.result _ c.from_residual-in_err-answer.ensures.1) (c.in_err-answer.ensures.run actor call)

pub returns-clause-run : goal.returns-clause-run
returns-clause-run g c =
    let numbers = c.args.service.now.geometry.numbers in
    let actor = c.args.self.now.number in
    let call = draining c.args.number in
    let starts : once_drained 0 (c.most_drained-most.result - 1) call ≡ call =
    ap (λ (most : ℕ). once_drained 0 (most - 1) call) c.most_drained-most.ensures in
    subst (λ (r : Running). IsGivingRun numbers actor r (held_by c.drain_deferred.new.hand c.drain_deferred.new.giving) (Ok c.in_ok-answer.answer))
    starts (c.in_ok-answer.ensures.run actor call)
