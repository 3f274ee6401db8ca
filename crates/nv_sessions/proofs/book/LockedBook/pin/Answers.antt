use Rattle.nv_sessions.proofs.BookLeft.{pinning_left, pinning_fails}
use Rattle.nv_sessions.proofs.Snapping.{pinned_book}
use Rattle.nv_sessions.proofs.book.LockedBook.pin.Goals as goal

pub invariant_of-self : goal.invariant_of-self
invariant_of-self g c =
    pinned_book g.C.Commits.commit g.C.Commits.living g.C.Commits.epoch c.self.inside.commits.total c.self.inside.snap_book.total
    c.self.inside.flagged c.self.inside.book c.pin.new.book c.args.s c.self.invariant
    (pinning_left c.args.inodes c.self.inside.book.state c.pin.new.book.state c.args.s c.pin.result c.pin.ensures.turn)

pub returns-clause-err : goal.returns-clause-err
returns-clause-err g c =
    pinning_fails c.args.inodes c.self.inside.book.state c.pin.new.book.state c.args.s c.pin.result c.pin.ensures.turn
