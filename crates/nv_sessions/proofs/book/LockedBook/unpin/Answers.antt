use Rattle.nv_sessions.proofs.BookLeft.{unpin_left, unpin_told}
use Rattle.nv_sessions.proofs.Snapping.{unpinned_book}
use Rattle.nv_sessions.proofs.book.LockedBook.unpin.Goals as goal

pub invariant_of-self : goal.invariant_of-self
invariant_of-self g c =
    unpinned_book g.C.Commits.commit g.C.Commits.living g.C.Commits.epoch c.self.inside.commits.total c.self.inside.snap_book.total
    c.self.inside.flagged c.self.inside.book c.unpin.new.book c.args.s c.self.invariant
    (unpin_left c.self.inside.book.state c.unpin.new.book.state c.args.s c.args.shown c.unpin.result c.unpin.ensures.turn)

pub returns-clause-told : goal.returns-clause-told
returns-clause-told g c =
    unpin_told c.self.inside.book.state c.unpin.new.book.state c.args.s c.args.shown c.unpin.result c.unpin.ensures.turn
