use Rattle.std.proofs.Common.{◌≡◌, ap, arith, subst, sym}
use Rattle.nv_book.specs.Book.{BookValue}
use Rattle.nv_sessions.specs.Deferred.{has_some}
use Rattle.nv_sessions.specs.Snapped.{AreSnapped}
use Rattle.nv_sessions.proofs.Snapping.{IsCounted}
use Rattle.nv_sessions.proofs.book.LockedBook.enter.Goals as goal

pub invariant_of-self : goal.invariant_of-self
invariant_of-self g c =
    subst
    (IsCounted g.C.Commits.commit g.C.Commits.living g.C.Commits.epoch c.self.inside.commits.total c.self.inside.snap_book.total
    c.self.inside.flagged)
    (sym c.in_err-fixed.ensures.same) c.self.invariant

pub invariant_of-self-2 : goal.invariant_of-self-2
invariant_of-self-2 g c =
    let is = c.in_ok-fixed.ensures.ok in (
      omega (
        arith,
        c.self.invariant.0,
        ap (λ (b : BookValue). b.state.commit) is,
        c.add.ensures.total,
        c.audit.ensures.total,
      ),
      subst (λ (b : BookValue). AreSnapped g.C.Commits.living g.C.Commits.epoch b.state.snaps c.self.inside.snap_book.total) (sym is)
          c.self.invariant.1,
      subst (λ (b : BookValue). c.self.inside.flagged ≡ has_some b.state.deferred) (sym is) c.self.invariant.2,
    )
