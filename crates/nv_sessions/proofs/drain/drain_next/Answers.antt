use Rattle.std.proofs.Common.{inr, refl, subst}
use Rattle.std.specs.Prelude.{Err}
use Rattle.nv_base.specs.declared.fault.Fault.{Fault}
use Rattle.nv_machine.specs.World.{empty_hand}
use Rattle.nv_sessions.specs.Draining.{HasDrained, HasLooked}
use Rattle.nv_sessions.specs.SessionRuns.{IsGivingRun}
use Rattle.nv_sessions.specs.Sessions.{held_by}
use Rattle.nv_steps.specs.Hands.{hand_of}
use Rattle.nv_steps.specs.LastSteps.{once_drained}
use Rattle.nv_steps.specs.declared.picks.Picked.TheVariants as pick
use Rattle.nv_sessions.proofs.Draining.{gives_back, nothing_in, same_some}
use Rattle.nv_sessions.proofs.Holding.{keeps}
use Rattle.nv_sessions.proofs.OtherRefusals.{exits}
use Rattle.nv_sessions.proofs.drain.drain_next.Goals as goal

pub returns-in-Ends-clause-run : goal.returns-in-Ends-clause-run
returns-in-Ends-clause-run g c actor left h0 r0 r w p is =
    let numbers = c.args.service.now.geometry.numbers in
    let run : HasLooked numbers actor h0 r0 (pick.Ends c.in-Ends.told) =
    c.in-Ends.ensures.run numbers actor left h0 r0 (once_drained c.args.released left r) w (record { next = refl; slots = refl }) in
    subst (HasDrained numbers actor h0 r0 c.args.released left r) (same_some is) run

pub returns-clause-run : goal.returns-clause-run
returns-clause-run g c actor left h0 r0 r w p is =
    let numbers = c.args.service.now.geometry.numbers in
    gives_back numbers actor h0 r0 p r c.args.released left (hand_of c.release_first.new.hand) (hand_of c.give_back.new.hand)
    (nothing_in c.give_back.new.hand c.in_ok-give_back.ensures.ok) (c.in_ok-give_back.ensures.run actor h0 r0)
    (c.in_ok-picked.ensures.run actor left h0 r0 (once_drained c.args.released left r) w (record { next = refl; slots = refl }) p is)

-- a test breaks it off
pub returns-in_err-picked-clause-refused : goal.returns-in_err-picked-clause-refused
returns-in_err-picked-clause-refused g c actor left r0 r w =
    let numbers = c.args.service.now.geometry.numbers in
    let held = held_by c.release_first.new.hand c.args.giving.now in
    exits (λ (why : Fault). IsGivingRun numbers actor r0 held (Err why)) c.from_residual.result _ c.from_residual.ensures.1
    (inr (c.in_err-picked.ensures.refused actor left empty_hand r0 (once_drained c.args.released left r) w (record { next = refl; slots = refl })))

-- or its hand keeps some of what the release set free
pub returns-in_err-give_back-clause-refused : goal.returns-in_err-give_back-clause-refused
returns-in_err-give_back-clause-refused g c actor left r0 r w =
    let numbers = c.args.service.now.geometry.numbers in
    let exit = c.from_residual-in_err-give_back in
    let held = held_by c.give_back.new.hand c.give_back.new.giving in
    exits (λ (why : Fault). IsGivingRun numbers actor r0 held (Err why)) exit.result _ exit.ensures.1
    (keeps numbers actor r0 held (Err _) _ refl c.in_err-give_back.ensures.err c.in_err-give_back.ensures.kept)
