use Rattle.std.proofs.Common.{◌≡◌, ◌∙◌, ◌⊎◌, ap, arith, refl, subst, sym}
use Rattle.std.specs.Prelude.{Err, Ok, Result}
use Rattle.nv_base.specs.declared.fault.Fault.{Fault}
use Rattle.nv_base.specs.declared.fault.Fault.TheVariants as fault
use Rattle.nv_book.specs.Book.{BookValue}
use Rattle.nv_calls.specs.declared.answer.Answer.{Answer}
use Rattle.nv_epoch.specs.Holders.{IsRising}
use Rattle.nv_epoch.specs.SnapList.{Snapshots, after_removal, ids, pins_of}
use Rattle.nv_machine.specs.World.{empty_hand}
use Rattle.nv_sessions.specs.Snapped.{AreSnapped}
use Rattle.nv_steps.specs.OnBook.{on_book}
use Rattle.nv_steps.specs.Turns.{IsEnd}
use Rattle.nv_sessions.proofs.OtherRefusals.{drop_fails, exit_is, exits}
use Rattle.nv_sessions.proofs.Snapping.{IsCounted, dropped_one}
use Rattle.nv_sessions.proofs.book.LockedBook.drop_snapshot.Goals as goal

pub invariant_of-self : goal.invariant_of-self
invariant_of-self g c =
    subst
    (IsCounted g.C.Commits.commit g.C.Commits.living g.C.Commits.epoch c.self.inside.commits.total c.self.inside.snap_book.total
    c.self.inside.flagged)
    (sym c.in_err-answer.ensures.same) c.self.invariant

pub invariant_of-self-2 : goal.invariant_of-self-2
invariant_of-self-2 g c =
    let is = c.in_ok-answer.ensures.ok in
    let living = g.C.Commits.living in
    let epoch = g.C.Commits.epoch in
    let snaps = c.self.inside.book.state.snaps in
    let rising = subst (λ (list : Snapshots). IsRising (ids list)) c.snaps.ensures.snaps c.rises.ensures.rising in
    let counted =
    dropped_one living epoch c.self.inside.snap_book.total snaps c.args.s 0 rising (c.in_ok-answer.ensures.dropped.0 refl)
    c.self.invariant.1 in (
      omega (arith, c.self.invariant.0, ap (λ (b : BookValue). b.state.commit) is),
      subst (λ (b : BookValue). AreSnapped living epoch b.state.snaps c.add.new.self.total) (sym is)
          (subst (AreSnapped living epoch (after_removal snaps c.args.s)) (sym c.add.ensures.total) counted),
      c.set.ensures ∙ c.has_deferred.ensures,
    )

pub returns-in_err-answer-clause-err : goal.returns-in_err-answer-clause-err
returns-in_err-answer-clause-err g c =
    let e = c.in_err-answer.ensures in
    exits (λ (why : Fault). (why ≡ fault.NoSnapshot) ⊎ (why ≡ fault.Pinned)) c.from_residual.result _ c.from_residual.ensures.1
    (drop_fails (Err _) (pins_of c.self.inside.book.state.snaps c.args.s) e.dropped e.no_snapshot e.pinned)

-- a turn on the book behind its lock
pub returns-clause-turn : goal.returns-clause-turn
returns-clause-turn g c numbers actor granted r before =
    subst (λ (b : BookValue). IsEnd numbers actor (on_book r empty_hand granted b.state c.drop_snapshot.new.book.state) (Ok c.in_ok-answer.answer)
    empty_hand) c.self.view_is (c.in_ok-answer.ensures.turn numbers actor granted r before)

pub returns-in_err-answer-clause-turn : goal.returns-in_err-answer-clause-turn
returns-in_err-answer-clause-turn g c numbers actor granted r before =
    let told = exit_is c.from_residual.result _ c.from_residual.ensures.1 in
    subst (λ (b : BookValue). IsEnd numbers actor (on_book r empty_hand granted b.state c.drop_snapshot.new.book.state) c.from_residual.result
    empty_hand) c.self.view_is
    (subst (λ (end : Result Answer Fault). IsEnd numbers actor
    (on_book r empty_hand granted c.self.inside.book.state c.drop_snapshot.new.book.state) end empty_hand) (sym told)
    (c.in_err-answer.ensures.turn numbers actor granted r before))
