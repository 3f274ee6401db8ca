use Rattle.std.proofs.Common.{List, length, arith, ap, sym, ◌∙◌}
use Rattle.nv_book.specs.Book.{BookState, BookValue}
use Rattle.nv_book.specs.declared.manifest.Manifest.{Manifest}
use Rattle.nv_calls.specs.Commit.{CommitValue, receipt_of}
use Rattle.nv_calls.proofs.Composed.{AreAppended, AreAllPublished, all_changes, all_few, all_hand, all_manifests, all_noted, all_receipt, all_rooms, appended_by, can_publish, can_retire, done_placed, full_cells, full_placed, published_by}
use Rattle.nv_calls.proofs.whole.commit_on.Given as given
use Rattle.nv_calls.proofs.whole.commit_on.Goals as goal
use Rattle.nv_calls.proofs.whole.commit_on.Goals.{After-commit-2-1, After-commit-3-1}

-- ---- all entries are appended

appended : (g : given.Over) (c : goal.After-commit-2-1 g)
    → AreAppended (g.C.Cells.cells c.args.cells.now) c.args.book.now c.args.cpu c.args.ready c.requires
    (g.C.Cells.cells c.append_all.new.cells) c.append_all.new.commit
appended g c =
    let all = c.append_all.ensures in
    appended_by _ _ _ _ _ _ _ _ c.begin-commit.ensures all.cells all.room all.ready all.plans all.commit

pub publish_noted-requires-clause-cells : goal.publish_noted-requires-clause-cells
publish_noted-requires-clause-cells g c = full_cells _ _ _ _ _ _ _ (appended g c)

pub publish_noted-requires-clause-placed : goal.publish_noted-requires-clause-placed
publish_noted-requires-clause-placed g c = full_placed _ _ _ _ _ _ _ (appended g c)

pub publish_noted-requires-clause-can : goal.publish_noted-requires-clause-can
publish_noted-requires-clause-can g c = can_publish _ _ _ _ _ _ _ (appended g c)

-- ---- and published

published : (g : given.Over) (c : goal.After-commit-3-1 g)
    → AreAllPublished (g.C.Cells.cells c.args.cells.now) c.args.book.now c.args.cpu c.args.ready c.requires
    (g.C.Cells.cells c.append_all.new.cells) c.append_all.new.commit
    (g.C.Cells.cells c.publish_noted.new.cells) c.publish_noted.new.commit
published g c =
    let all = c.append_all.ensures in
    let told = c.publish_noted.ensures.published in
    record {
      appends = appended_by _ _ _ _ _ _ _ _ c.begin-commit.ensures all.cells all.room all.ready all.plans all.commit;
      publishes = published_by _ _ _ _ _ _ _ _ _ _ told.cells told.room told.killed told.told told.places c.publish_noted.ensures.commit;
    }

pub retire_all-requires-clause-placed : goal.retire_all-requires-clause-placed
retire_all-requires-clause-placed g c = done_placed _ _ _ _ _ _ _ _ _ _ (published g c).publishes

pub retire_all-requires-clause-can : goal.retire_all-requires-clause-can
retire_all-requires-clause-can g c = rw c.publish_noted.ensures.book (can_retire _ _ _ _ _ _ _ _ _ _ (published g c).publishes)

pub returns-clause-cells : goal.returns-clause-cells
returns-clause-cells g c =
    let p = published g (goal.at.returns-clause-cells g c).After-commit-3-1 in
    all_changes _ _ _ _ _ _ _ _ _ _ p.publishes _ _ (rw c.publish_noted.ensures.book at c.retire_all.ensures.cells)

pub returns-clause-book : goal.returns-clause-book
returns-clause-book g c =
    let p = published g (goal.at.returns-clause-book g c).After-commit-3-1 in
    c.retire_all.ensures.book
    ∙ rw c.publish_noted.ensures.book
    (ap (λ (m : List Manifest). let s : BookState = record c.args.book.now.state { manifests = m } in s)
    (all_manifests _ _ _ _ _ _ _ _ _ _ p.publishes))

pub returns-clause-hand : goal.returns-clause-hand
returns-clause-hand g c =
    let p = published g (goal.at.returns-clause-hand g c).After-commit-3-1 in
    c.finish.ensures.hand ∙ ap (λ (v : CommitValue). v.hand) c.retire_all.ensures.commit
    ∙ rw c.publish_noted.ensures.book (all_hand _ _ _ _ _ _ _ _ _ _ p.publishes)

pub finish-requires-clause-noted : goal.finish-requires-clause-noted
finish-requires-clause-noted g c two =
    let p = published g (goal.at.finish-requires-clause-noted g c).After-commit-3-1 in
    ap (λ (v : CommitValue). length v.noted) c.retire_all.ensures.commit
    ∙ all_noted _ _ _ _ _ _ _ _ _ _ p.publishes (omega (arith, two, c.retire_all.ensures.plans.count))
    ∙ sym c.retire_all.ensures.plans.count

pub returns-clause-cell_room : goal.returns-clause-cell_room
returns-clause-cell_room g c =
    let p = published g (goal.at.returns-clause-cell_room g c).After-commit-3-1 in
    all_rooms _ _ _ _ _ _ _ _ _ _ p.publishes _ _ (rw c.publish_noted.ensures.book at c.retire_all.ensures.cell_room)

pub returns-clause-room : goal.returns-clause-room
returns-clause-room g c =
    let p = published g (goal.at.returns-clause-room g c).After-commit-3-1 in
    omega (
      arith,
      ap (λ (b : BookValue). b.room) c.publish_noted.ensures.book,
      c.retire_all.ensures.room,
      all_few _ _ _ _ _ _ _ _ _ _ p.publishes,
    )

pub returns-clause-receipt : goal.returns-clause-receipt
returns-clause-receipt g c =
    let p = published g (goal.at.returns-clause-receipt g c).After-commit-3-1 in
    c.finish.ensures.receipt ∙ ap receipt_of c.retire_all.ensures.commit ∙ all_receipt _ _ _ _ _ _ _ _ _ _ p.publishes
