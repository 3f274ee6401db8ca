use Rattle.std.proofs.Common.{ap, refl}
use Rattle.nv_book.specs.Book.{BookValue}
use Rattle.nv_epoch.specs.SnapList.{pins_of}
use Rattle.nv_machine.specs.SnapshotOrCleaner.{drop_tests}
use Rattle.nv_steps.proofs.BookTurns.{drop_done, drop_refused}
use Rattle.nv_steps.proofs.SnapshotTests.{drop_told}
use Rattle.nv_steps.proofs.snapshots.drop_snapshot.Goals as goal

pub returns-in-Ok-clause-turn : goal.returns-in-Ok-clause-turn
returns-in-Ok-clause-turn c numbers actor granted r before =
    drop_done numbers actor granted r c.args.book.now.state c.drop_snapshot.new.self.state c.args.snapshot before
    (ap drop_tests (c.in-Ok.ensures.dropped.0 refl)) (ap (λ (b : BookValue). b.state) c.in-Ok.ensures.ok)

pub returns-in-Err-clause-turn : goal.returns-in-Err-clause-turn
returns-in-Err-clause-turn c numbers actor granted r before =
    let old = c.args.book.now.state in
    let made = c.drop_snapshot.ensures in
    drop_refused numbers actor granted r old c.drop_snapshot.new.self.state c.args.snapshot c.in-Err.fault before
    (drop_told (pins_of old.snaps c.args.snapshot) c.drop_snapshot.result c.in-Err.fault made.dropped made.no_snapshot made.pinned
    c.in-Err.is) (ap (λ (b : BookValue). b.state) c.in-Err.ensures.same)
