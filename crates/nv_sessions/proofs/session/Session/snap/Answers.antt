use Rattle.std.proofs.Common.{ℕ, ap, refl, subst, sym, true, ◌∙◌}
use Rattle.std.specs.Prelude.{Ok, Result}
use Rattle.nv_base.specs.declared.fault.Fault.{Fault}
use Rattle.nv_calls.specs.declared.answer.Answer.{Answer}
use Rattle.nv_machine.specs.World.{empty_hand}
use Rattle.nv_steps.specs.Runs.{IsRun}
use Rattle.nv_steps.proofs.OneTurn.{one_turn}
use Rattle.nv_sessions.specs.ByValue.{once_snapped}
use Rattle.nv_sessions.specs.Sessions.{at_seat, held_by}
use Rattle.nv_sessions.specs.RunCalls.{making, told_as}
use Rattle.nv_sessions.specs.declared.seen.Seen.{Seen}
use Rattle.nv_sessions.specs.declared.seen.Seen.TheVariants as seen
use Rattle.nv_sessions.proofs.SeatCalls.{counting}
use Rattle.nv_sessions.proofs.OtherRefusals.{exit_is}
use Rattle.nv_sessions.proofs.session.Session.snap.Goals as goal

pub returns-clause-counted : goal.returns-clause-counted
returns-clause-counted g c =
    let seat = c.self.inside.seat in
    ap (λ (n : ℕ). counting n (held_by c.self.inside.hand seat.giving) (at_seat seat.number seat.commits.amount seat.notes)) c.in_ok-answer.ensures.counted
    ∙ ap once_snapped c.self.view_is

-- a call of one turn is a run
pub returns-clause-run : goal.returns-clause-run
returns-clause-run g c =
    let numbers = c.args.service.now.geometry.numbers in
    let actor = c.args.self.now.number in
    one_turn numbers actor true making empty_hand empty_hand _ _ (Ok c.in_ok-answer.answer)
    (c.in_ok-answer.ensures.turn numbers actor true making (record { next = refl; slots = refl }))

pub returns-in_err-answer-clause-run : goal.returns-in_err-answer-clause-run
returns-in_err-answer-clause-run g c =
    let numbers = c.args.service.now.geometry.numbers in
    let actor = c.args.self.now.number in
    subst (λ (end : Result Seen Fault). IsRun numbers actor empty_hand making (told_as end) empty_hand)
    (sym (exit_is c.from_residual.result _ c.from_residual.ensures.1))
    (one_turn numbers actor true making empty_hand empty_hand _ _ _
    (c.in_err-answer.ensures.turn numbers actor true making (record { next = refl; slots = refl })))

pub returns-clause-answer : goal.returns-clause-answer
returns-clause-answer g c = (_, ap (λ (a : Answer). let s : Seen = seen.Other a in s) c.in_ok-answer.ensures.answer)
