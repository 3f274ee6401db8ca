use Rattle.std.proofs.Common.{ℕ, ap, arith, refl, subst, sym, true, ◌∙◌}
use Rattle.std.specs.Prelude.{Ok, Result}
use Rattle.nv_base.specs.declared.fault.Fault.TheVariants as fault
use Rattle.nv_base.specs.declared.fault.Fault.{Fault}
use Rattle.nv_calls.specs.declared.snapshot_or_cleaner_call.SnapshotOrCleanerCall.TheVariants as snapshot_or_cleaner
use Rattle.nv_machine.specs.World.{empty_hand}
use Rattle.nv_steps.specs.Runs.{IsRun}
use Rattle.nv_steps.proofs.OneTurn.{one_turn}
use Rattle.nv_sessions.specs.ByValue.{once_snapped}
use Rattle.nv_sessions.specs.Refusing.{MayRefuseSnapshotOrCleaner, snapshot_or_cleaner_faults}
use Rattle.nv_sessions.specs.Sessions.{at_seat, held_by}
use Rattle.nv_sessions.specs.RunCalls.{dropping, told_as}
use Rattle.nv_sessions.specs.declared.seen.Seen.{Seen}
use Rattle.nv_sessions.proofs.OtherRefusals.{exit_is, exits, one_of}
use Rattle.nv_sessions.proofs.SeatCalls.{counting}
use Rattle.nv_sessions.proofs.session.Session.drop_snap.Goals as goal

pub returns-in_err-answer-clause-err : goal.returns-in_err-answer-clause-err
returns-in_err-answer-clause-err g c =
    let call = snapshot_or_cleaner.Drop c.args.snapshot in
    exits (MayRefuseSnapshotOrCleaner call) c.from_residual.result _ c.from_residual.ensures.1
    (one_of (snapshot_or_cleaner_faults call) _ fault.NoSnapshot fault.Pinned (0, omega arith, refl) (1, omega arith, refl)
    c.in_err-answer.ensures.err)

pub returns-clause-counted : goal.returns-clause-counted
returns-clause-counted g c =
    let seat = c.self.inside.seat in
    ap (λ (n : ℕ). counting n (held_by c.self.inside.hand seat.giving) (at_seat seat.number seat.commits.amount seat.notes)) c.in_ok-answer.ensures.counted
    ∙ ap once_snapped c.self.view_is

-- a call of one turn is a run
pub returns-clause-run : goal.returns-clause-run
returns-clause-run g c =
    let numbers = c.args.service.now.geometry.numbers in
    let actor = c.args.self.now.number in
    one_turn numbers actor true (dropping c.args.snapshot) empty_hand empty_hand _ _ (Ok c.in_ok-answer.answer)
    (c.in_ok-answer.ensures.turn numbers actor true (dropping c.args.snapshot) (record { next = refl; slots = refl }))

pub returns-in_err-answer-clause-run : goal.returns-in_err-answer-clause-run
returns-in_err-answer-clause-run g c =
    let numbers = c.args.service.now.geometry.numbers in
    let actor = c.args.self.now.number in
    subst (λ (end : Result Seen Fault). IsRun numbers actor empty_hand (dropping c.args.snapshot) (told_as end) empty_hand)
    (sym (exit_is c.from_residual.result _ c.from_residual.ensures.1))
    (one_turn numbers actor true (dropping c.args.snapshot) empty_hand empty_hand _ _ _
    (c.in_err-answer.ensures.turn numbers actor true (dropping c.args.snapshot) (record { next = refl; slots = refl })))
