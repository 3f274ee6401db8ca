use Rattle.std.proofs.Common.{ap, refl}
use Rattle.nv_book.specs.Book.{BookValue}
use Rattle.nv_epoch.specs.SnapList.{pins_of}
use Rattle.nv_steps.proofs.BookTurns.{pin_done, pin_refused}
use Rattle.nv_steps.proofs.SnapshotTests.{none_pinned}
use Rattle.nv_steps.proofs.pins.pin.Goals as goal

pub returns-in-Ok-clause-turn : goal.returns-in-Ok-clause-turn
returns-in-Ok-clause-turn c numbers actor granted r many before =
    pin_done numbers actor granted r c.args.book.now.state c.pin.new.self.state c.args.snapshot c.args.inodes c.new.result many before
    (c.in-Ok.ensures.pinned.0 refl) (ap (λ (b : BookValue). b.state) c.in-Ok.ensures.ok) c.new.ensures

pub returns-in-Err-clause-turn : goal.returns-in-Err-clause-turn
returns-in-Err-clause-turn c numbers actor granted r many before =
    let old = c.args.book.now.state in
    pin_refused numbers actor granted r old c.pin.new.self.state c.args.snapshot c.in-Err.fault before
    (none_pinned (pins_of old.snaps c.args.snapshot) c.pin.result c.in-Err.fault c.pin.ensures.pinned c.in-Err.is)
    c.in-Err.ensures.err (ap (λ (b : BookValue). b.state) c.in-Err.ensures.same)
