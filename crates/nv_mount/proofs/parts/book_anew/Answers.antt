use Rattle.std.proofs.Common.{ℕ, List, [], ap, subst, sym, ◌∙◌}
use Rattle.nv_base.specs.declared.geometry.GeometryNumbers.{GeometryNumbers}
use Rattle.nv_book.specs.Book.{BookValue, book_told}
use Rattle.nv_mount.specs.View.{ViewValue}
use Rattle.nv_mount.proofs.Anew.{AreDeadBy, FitsBook, all_dead, book_fits}
use Rattle.nv_mount.proofs.parts.book_anew.Goals as goal
use Rattle.nv_mount.proofs.parts.book_anew.Goals.{After-view}

fits : (c : After-view) → FitsBook (record {
  numbers = c.view.inside.geometry.now.numbers;
  slots = c.view.inside.slots.now;
  journals = c.view.inside.journals.now;
  snapshots = c.view.inside.snapshots.now;
  epoch = c.view.inside.epoch;
  commit = c.view.inside.commit;
})
fits c = subst FitsBook (sym c.view.view_is) (book_fits c.requires.0 c.args.view.now c.requires.1 c.requires.2)

pub rebuild-requires-clause-rising : goal.rebuild-requires-clause-rising
rebuild-requires-clause-rising c = (fits (goal.at.rebuild-requires-clause-rising c).After-view).rising

pub rebuild-requires-clause-below_epoch : goal.rebuild-requires-clause-below_epoch
rebuild-requires-clause-below_epoch c = (fits (goal.at.rebuild-requires-clause-below_epoch c).After-view).below

pub rebuild-requires-clause-fits : goal.rebuild-requires-clause-fits
rebuild-requires-clause-fits c = (fits (goal.at.rebuild-requires-clause-fits c).After-view).few

pub rebuild-requires-clause-some_epoch : goal.rebuild-requires-clause-some_epoch
rebuild-requires-clause-some_epoch c = (fits (goal.at.rebuild-requires-clause-some_epoch c).After-view).some

pub rebuild-requires-clause-epoch_fits : goal.rebuild-requires-clause-epoch_fits
rebuild-requires-clause-epoch_fits c = (fits (goal.at.rebuild-requires-clause-epoch_fits c).After-view).epoch

pub rebuild-requires-clause-commit_fits : goal.rebuild-requires-clause-commit_fits
rebuild-requires-clause-commit_fits c = (fits (goal.at.rebuild-requires-clause-commit_fits c).After-view).commit

pub retire_all-requires-clause-dead : goal.retire_all-requires-clause-dead
retire_all-requires-clause-dead c =
    let image = c.requires.0 in
    let now =
    ap (λ (b : BookValue). b.state.snaps.epoch) c.in_ok-book.ensures.ok ∙ ap (λ (v : ViewValue). v.epoch) c.view.view_is
    ∙ c.requires.2.epoch in
    let all = c.deref.ensures.value ∙ c.in_ok-records.ensures.ok image c.requires.1 c.requires.2 c.requires.3 in
    subst (AreDeadBy c.in_ok-book.book.state.snaps.epoch) (sym all)
    (all_dead c.in_ok-book.book.state.snaps.epoch image (sym now) c.requires.1)

pub returns-clause-ok : goal.returns-clause-ok
returns-clause-ok c image faultless seen cut =
    let inside = c.view.inside in
    let view = c.args.view.now in
    let all = c.deref.ensures.value ∙ c.in_ok-records.ensures.ok image faultless seen cut in
    let rs = c.deref.result.now in
    c.retire_all.ensures.told inside.geometry.now.numbers inside.snapshots.now inside.epoch inside.commit []
    (ap (λ (b : BookValue). b.state) c.in_ok-book.ensures.ok)
    ∙ ap (λ (v : ViewValue). book_told v.numbers v.snapshots v.epoch v.commit rs) c.view.view_is
    ∙ ap (λ (g : GeometryNumbers). book_told g view.snapshots view.epoch view.commit rs) seen.numbers
    ∙ ap (λ (ss : List ℕ). book_told image.numbers ss view.epoch view.commit rs) seen.snapshots
    ∙ ap (λ (n : ℕ). book_told image.numbers image.snapshots n view.commit rs) seen.epoch
    ∙ ap (λ (n : ℕ). book_told image.numbers image.snapshots image.epoch n rs) seen.commit
    ∙ ap (book_told image.numbers image.snapshots image.epoch image.commit) all
