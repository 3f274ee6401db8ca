use Rattle.std.proofs.Common.{rules, ◌≡◌, ◌+◌, subst, sym}
use Rattle.nv_book.specs.Book.{BookState, BookValue, after_enter}
use Rattle.nv_calls.specs.CanCommit.{CanCommit, IsClosed}
use Rattle.nv_sessions.specs.Committing.{TakeNext}
use Rattle.nv_sessions.specs.Deferred.{has_some}
use Rattle.nv_sessions.specs.Snapped.{AreSnapped}
use Rattle.nv_sessions.proofs.ReadyOver.{can, placed}
use Rattle.nv_sessions.proofs.commit.commit_over.Goals as goal

pub test_commit-requires-clause-placed : goal.test_commit-requires-clause-placed
test_commit-requires-clause-placed g c = placed (g.L.Cells.cells c.args.lent.now) c.args.ready c.requires.ready

pub commit_on-requires : goal.commit_on-requires
commit_on-requires g c =
    let cells = g.L.Cells.cells c.args.lent.now in
    let book = c.book.inside.book.state in
    let take : TakeNext book cells c.args.ready = search rules in
    let closed : IsClosed book c.args.cpu = search rules in
    let is : c.book-2.inside.book ≡ (record { state = after_enter c.args.seat book; room = c.args.ready.need }) = search rules in
    subst (λ (b : BookValue). CanCommit cells b c.args.cpu c.args.ready) (sym is)
    (can cells c.args.ready c.requires.ready book c.args.seat c.args.cpu take closed)

pub invariant_of-book : goal.invariant_of-book
invariant_of-book g c =
    subst
    (λ (s : BookState). (s.commit ≡ g.C.Commits.commit + c.book-2.inside.commits.total)
    × AreSnapped g.C.Commits.living g.C.Commits.epoch s.snaps c.book-2.inside.snap_book.total
    × (c.book-2.inside.flagged ≡ has_some s.deferred)) (sym c.commit_on.ensures.book)
    c.book-2.invariant
