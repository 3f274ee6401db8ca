use Rattle.std.proofs.Common.{◌≡◌, ◌⊎◌, ap, arith, subst, sym}
use Rattle.std.specs.Prelude.{Err, Ok, Result}
use Rattle.nv_base.specs.declared.fault.Fault.{Fault}
use Rattle.nv_base.specs.declared.fault.Fault.TheVariants as fault
use Rattle.nv_book.specs.Book.{BookValue}
use Rattle.nv_calls.specs.declared.answer.Answer.{Answer}
use Rattle.nv_epoch.specs.SnapList.{IsSound, after_making}
use Rattle.nv_machine.specs.World.{empty_hand}
use Rattle.nv_sessions.specs.Deferred.{has_some}
use Rattle.nv_sessions.specs.Snapped.{AreSnapped}
use Rattle.nv_steps.specs.OnBook.{on_book}
use Rattle.nv_steps.specs.Turns.{IsEnd}
use Rattle.nv_sessions.proofs.OtherRefusals.{exit_is, exits, making_fails}
use Rattle.nv_sessions.proofs.Snapping.{IsCounted, made_one}
use Rattle.nv_sessions.proofs.book.LockedBook.make_snapshot.Goals as goal

pub invariant_of-self : goal.invariant_of-self
invariant_of-self g c =
    subst
    (IsCounted g.C.Commits.commit g.C.Commits.living g.C.Commits.epoch c.self.inside.commits.total c.self.inside.snap_book.total
    c.self.inside.flagged)
    (sym c.in_err-answer.ensures.same) c.self.invariant

pub invariant_of-self-2 : goal.invariant_of-self-2
invariant_of-self-2 g c =
    let is = c.in_ok-answer.ensures.ok in
    let living = g.C.Commits.living in
    let epoch = g.C.Commits.epoch in
    let snaps = c.self.inside.book.state.snaps in
    let counted = made_one living epoch c.self.inside.snap_book.total snaps c.self.invariant.1 in (
      omega (arith, c.self.invariant.0, ap (λ (b : BookValue). b.state.commit) is),
      subst (λ (b : BookValue). AreSnapped living epoch b.state.snaps c.add.new.self.total) (sym is)
          (subst (AreSnapped living epoch (after_making snaps)) (sym c.add.ensures.total) counted),
      subst (λ (b : BookValue). c.self.inside.flagged ≡ has_some b.state.deferred) (sym is) c.self.invariant.2,
    )

pub returns-in_err-answer-clause-err : goal.returns-in_err-answer-clause-err
returns-in_err-answer-clause-err g c =
    let e = c.in_err-answer.ensures in
    let sound = subst IsSound c.snaps.ensures.snaps c.rises.ensures in
    exits (λ (why : Fault). (why ≡ fault.EpochLimit) ⊎ (why ≡ fault.TooManySnapshots)) c.from_residual.result _ c.from_residual.ensures.1
    (making_fails (Err _) c.self.inside.book.state.snaps sound e.made e.epoch_limit e.too_many)

-- a turn on the book behind its lock
pub returns-clause-turn : goal.returns-clause-turn
returns-clause-turn g c numbers actor granted r before =
    subst (λ (b : BookValue). IsEnd numbers actor (on_book r empty_hand granted b.state c.make_snapshot.new.book.state) (Ok c.in_ok-answer.answer)
    empty_hand) c.self.view_is (c.in_ok-answer.ensures.turn numbers actor granted r before)

pub returns-in_err-answer-clause-turn : goal.returns-in_err-answer-clause-turn
returns-in_err-answer-clause-turn g c numbers actor granted r before =
    let told = exit_is c.from_residual.result _ c.from_residual.ensures.1 in
    subst (λ (b : BookValue). IsEnd numbers actor (on_book r empty_hand granted b.state c.make_snapshot.new.book.state) c.from_residual.result
    empty_hand) c.self.view_is
    (subst (λ (end : Result Answer Fault). IsEnd numbers actor
    (on_book r empty_hand granted c.self.inside.book.state c.make_snapshot.new.book.state) end empty_hand) (sym told)
    (c.in_err-answer.ensures.turn numbers actor granted r before))
