use Rattle.std.proofs.Common.{[], arith, refl}
use Rattle.nv_book.proofs.Telling.{book-begun}
use Rattle.nv_book.proofs.Undoing.{undone-end}
use Rattle.nv_epoch.proofs.Pins.{numbers-unpinned}
use Rattle.nv_book.proofs.book.Book.rebuild.Goals as goal

pub invariant_of-result : goal.invariant_of-result
invariant_of-result c =
    rw (c.in_ok-rebuild.ensures.ok, c.in_ok-rebuild-2.ensures.ok, c.in_ok-new.ensures.ok)
    (book-begun c.args.living.now c.args.geometry.now.numbers.snaps c.args.epoch c.args.commit c.args.need c.requires.rising
    c.requires.below_epoch c.requires.commit_fits)

pub returns-clause-ok : goal.returns-clause-ok
returns-clause-ok c =
    rw (
      c.in_ok-rebuild.ensures.ok,
      c.in_ok-rebuild-2.ensures.ok,
      c.in_ok-closed_journals.ensures.ok,
      c.in_ok-new.ensures.ok,
      numbers-unpinned c.args.living.now,
      undone-end (record { epoch = c.args.epoch; commit = c.args.commit; living = c.args.living.now }) [] 0 (omega arith),
    ) refl
