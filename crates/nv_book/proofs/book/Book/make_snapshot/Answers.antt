use Rattle.std.proofs.Common.{refl, subst}
use Rattle.nv_book.specs.History.{IsHistory}
use Rattle.nv_book.proofs.Books.{book-made, made-leads, made-next}
use Rattle.nv_book.proofs.book.Book.make_snapshot.Goals as goal

pub invariant_of-self-2 : goal.invariant_of-self-2
invariant_of-self-2 c =
    let book = c.self.invariant in
    let snaps = c.self.inside.snaps in
    let filed = c.making_files.ensures.made _ _ _ _ book.dead book.filed in
    let next = made-next snaps c.self.inside.commit c.in_ok-s.s c.in_ok-s.ensures.number (c.in_ok-s.ensures.made.0 refl) in
    let noted = rw c.in_ok-s.ensures.number at (c.note.ensures _ _ book.history next).0 in
    rw (c.in_ok-s.ensures.ok, c.make-2.ensures, c.in_ok-s.ensures.number)
    (book-made _ _ _ _ book _ _ filed (subst (λ s. IsHistory snaps.most s c.note.new.self) (made-leads snaps c.self.inside.commit) noted))
