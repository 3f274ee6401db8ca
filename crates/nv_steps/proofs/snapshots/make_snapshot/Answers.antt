use Rattle.std.proofs.Common.{ap, refl, subst}
use Rattle.nv_book.specs.Book.{BookValue}
use Rattle.nv_epoch.specs.SnapList.{IsSound}
use Rattle.nv_steps.proofs.BookTurns.{make_done, make_refused}
use Rattle.nv_steps.proofs.SnapshotTests.{make_passes, make_told}
use Rattle.nv_steps.proofs.snapshots.make_snapshot.Goals as goal

pub returns-in-Ok-clause-turn : goal.returns-in-Ok-clause-turn
returns-in-Ok-clause-turn c numbers actor granted r before =
    let old = c.args.book.now.state in
    let sound = subst IsSound c.snaps.ensures.snaps c.rises.ensures in
    let can = c.in-Ok.ensures.made.0 refl in
    make_done numbers actor granted r old c.make_snapshot.new.self.state c.in-Ok.snapshot before
    (make_passes old.snaps sound can.0 can.1) (ap (λ (b : BookValue). b.state) c.in-Ok.ensures.ok) c.in-Ok.ensures.number

pub returns-in-Err-clause-turn : goal.returns-in-Err-clause-turn
returns-in-Err-clause-turn c numbers actor granted r before =
    let old = c.args.book.now.state in
    let sound = subst IsSound c.snaps.ensures.snaps c.rises.ensures in
    let made = c.make_snapshot.ensures in
    make_refused numbers actor granted r old c.make_snapshot.new.self.state c.in-Err.fault before
    (make_told old.snaps sound c.make_snapshot.result c.in-Err.fault made.made made.epoch_limit made.too_many c.in-Err.is)
    (ap (λ (b : BookValue). b.state) c.in-Err.ensures.same)
