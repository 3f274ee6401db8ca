use Rattle.std.proofs.Common.{ap, arith, inr, refl, subst}
use Rattle.std.specs.Prelude.{Ok, Result}
use Rattle.nv_base.specs.declared.fault.Fault.{Fault}
use Rattle.nv_calls.specs.declared.answer.Answer.{Answer}
use Rattle.nv_calls.specs.declared.answer.Answer.TheVariants as answers
use Rattle.nv_clean.specs.declared.cleaned.Cleaned.{Cleaned}
use Rattle.nv_machine.specs.World.{empty_hand}
use Rattle.nv_sessions.specs.Ending.{cleaner_of}
use Rattle.nv_sessions.specs.Holding.{IsCleaned}
use Rattle.nv_sessions.specs.RunCalls.{cleaning, told_as}
use Rattle.nv_sessions.specs.Sessions.{SessionValue, held_by}
use Rattle.nv_steps.specs.Hands.{hand_of}
use Rattle.nv_sessions.proofs.CleaningTurns.{cleaned_run, nothing_in, refused_run, seated, stale_at_once}
use Rattle.nv_sessions.proofs.Holding.{keeps}
use Rattle.nv_sessions.proofs.OtherRefusals.{exit_is}
use Rattle.nv_sessions.proofs.session.Session.clean.Goals as goal

-- the hand does not get empty
pub returns-in_err-empty_hand-clause-run : goal.returns-in_err-empty_hand-clause-run
returns-in_err-empty_hand-clause-run g c =
    let numbers = c.args.service.now.geometry.numbers in
    keeps numbers c.args.self.now.number (cleaning numbers (cleaner_of c.args.manner c.args.ino))
    (held_by c.empty_hand.new.hand c.empty_hand.new.giving) (told_as c.from_residual.result) _
    (ap told_as (exit_is c.from_residual.result _ c.from_residual.ensures.1)) c.in_err-empty_hand.ensures.err c.in_err-empty_hand.ensures.kept

pub returns-in_err-give_back-clause-run : goal.returns-in_err-give_back-clause-run
returns-in_err-give_back-clause-run g c =
    let numbers = c.args.service.now.geometry.numbers in
    let exit = c.from_residual-in_err-give_back in
    keeps numbers c.args.self.now.number (cleaning numbers (cleaner_of c.args.manner c.args.ino))
    (held_by c.give_back.new.hand c.give_back.new.giving) (told_as exit.result) _ (ap told_as (exit_is exit.result _ exit.ensures.1))
    c.in_err-give_back.ensures.err c.in_err-give_back.ensures.kept

-- the number has no slot
pub returns-then-number-service-clause-run : goal.returns-then-number-service-clause-run
returns-then-number-service-clause-run g c =
    inr (stale_at_once c.args.service.now.geometry.numbers c.args.self.now.number c.args.manner c.args.ino (omega (arith, c.if-number-service.true, c.number.ensures)))

-- a turn refuses it
pub returns-in_err-cleaned-clause-run : goal.returns-in_err-cleaned-clause-run
returns-in_err-cleaned-clause-run g c =
    let numbers = c.args.service.now.geometry.numbers in
    let number = c.self.inside.seat.number in
    let start = cleaning numbers (cleaner_of c.args.manner c.args.ino) in
    let back = c.in_ok-give_back.ensures in
    let exit = c.from_residual-in_err-cleaned in
    let before = hand_of c.clean_log-cleaned.new.hand in
    let after = hand_of c.give_back.new.hand in
    let is = subst (λ (e : Result Cleaned Fault). IsCleaned numbers number empty_hand start e before) c.in_err-cleaned.was
    c.clean_log-cleaned.ensures.run in
    inr (seated numbers number empty_hand start c.args.self.now.number _ (told_as exit.result) after (ap (λ (s : SessionValue). s.number) c.self.view_is)
    (nothing_in c.give_back.new.hand back.ok) (ap told_as (exit_is exit.result _ exit.ensures.1))
    (refused_run numbers number empty_hand start before after _ is (λ r unlocks. back.run number empty_hand start r unlocks)))

-- it has cleaned
pub returns-clause-run : goal.returns-clause-run
returns-clause-run g c =
    let numbers = c.args.service.now.geometry.numbers in
    let number = c.self.inside.seat.number in
    let start = cleaning numbers (cleaner_of c.args.manner c.args.ino) in
    let back = c.in_ok-give_back.ensures in
    let before = hand_of c.clean_log-cleaned.new.hand in
    let after = hand_of c.give_back.new.hand in
    let cleaned = c.in_ok-cleaned.cleaned in
    let told : Result Answer Fault = Ok (answers.Cleaned cleaned.thorough cleaned.entries cleaned.pages) in
    let is = subst (λ (e : Result Cleaned Fault). IsCleaned numbers number empty_hand start e before) c.in_ok-cleaned.was c.clean_log-cleaned.ensures.run in
    inr (seated numbers number empty_hand start c.args.self.now.number told told after (ap (λ (s : SessionValue). s.number) c.self.view_is)
    (nothing_in c.give_back.new.hand back.ok) refl
    (cleaned_run numbers number empty_hand start before after cleaned is (λ r unlocks. back.run number empty_hand start r unlocks)))
