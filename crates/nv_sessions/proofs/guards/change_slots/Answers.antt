use Rattle.std.proofs.Common.{◌≡◌, ◌≢◌, ◌∙◌, ◌<◌, ℕ, List, ap, arith, inl, length, refl, slice_index, subst, sym, vec_len}
use Rattle.std.specs.List.{AllPairs}
use Rattle.std.proofs.lemmas.Bool.{eqb-false}
use Rattle.std.proofs.lemmas.Result.{on_ok_weaker}
use Rattle.nv_sessions.specs.Rounds.{IsEndedBy}
use Rattle.nv_sessions.specs.Sessions.{at_seat}
use Rattle.nv_sessions.specs.Taken.{GoesBack, taken_at}
use Rattle.nv_sessions.proofs.Refusals.{held_out}
use Rattle.nv_sessions.proofs.TakenCells.{all_back, all_whole, are_cells, ended, inos_same, places_kept, rising_inos}
use Rattle.nv_sessions.proofs.guards.change_slots.Goals as goal

pub returns-then-is_empty-clause-ended : goal.returns-then-is_empty-clause-ended
returns-then-is_empty-clause-ended g c = rw c.refused.ensures.end (refl, held_out _ _ (inl refl))

pub change_taken-done-requires-clause-cells : goal.change_taken-done-requires-clause-cells
change_taken-done-requires-clause-cells g c =
    are_cells c.take_all-taken.new.list.cells.items c.as_slice-slots.result.now (vec_len c.take_all-taken.new.list.cells)
    c.take_all-taken.ensures.inos c.as_slice-slots.ensures.few c.as_slice-slots.ensures.rising

pub change_taken-done-requires-clause-some : goal.change_taken-done-requires-clause-some
change_taken-done-requires-clause-some g c =
    let some : length c.as_slice-slots.result.now ≢ 0 =
    eqb-false (length c.as_slice-slots.result.now) 0 (sym c.is_empty.ensures ∙ c.if-is_empty.false) in
    on_ok_weaker c.take_all-taken.result
    (λ (all : vec_len c.take_all-taken.new.list.cells ≡ length c.as_slice-slots.result.now). omega (arith, all, some))
    c.take_all-taken.ensures.all

pub change_taken-done-requires-clause-whole : goal.change_taken-done-requires-clause-whole
change_taken-done-requires-clause-whole g c =
    all_whole g.C.Commits.opened c.args.seat.now.notes c.take_all-taken.new.list.cells.items c.take_all-taken.ensures.taken

pub put_all-requires : goal.put_all-requires
put_all-requires g c =
    let old = c.take_all-taken.new.list.cells.items in
    let new = c.change_taken-done.new.list.cells.items in
    let done = c.change_taken-done.ensures in
    let notes = done.notes ∙ c.take_all-taken.ensures.notes in
    let rising = rising_inos old (are_cells old c.as_slice-slots.result.now (vec_len c.take_all-taken.new.list.cells)
    c.take_all-taken.ensures.inos c.as_slice-slots.ensures.few c.as_slice-slots.ensures.rising) in
    let back : (k : ℕ) → k < vec_len c.change_taken-done.new.list.cells
    → GoesBack g.C.Commits.opened c.change_taken-done.new.seat.notes (taken_at new k) = λ k inside.
    subst (λ (l : List ℕ). GoesBack g.C.Commits.opened l (taken_at new k)) (sym notes)
    (all_back g.C.Commits.opened c.args.seat.now.notes old new c.take_all-taken.ensures.taken done.cells done.versions k
    (omega (arith, inside, c.change_taken-done.new.list.cells.ok))) in (
      omega arith,
      (
        places_kept c.take_all-taken.new.self.guards.items old new c.take_all-taken.ensures.places done.cells done.versions,
        (
          subst (AllPairs (λ (a b : ℕ). a < b)) (sym (inos_same old new done.cells)) rising,
          (
            back,
            (
              omega (arith, c.requires.parts.1, c.take_all-taken.ensures.parts, done.blocks_part),
              omega (arith, done.blocks),
            ),
          ),
        ),
      ),
    )

pub returns-clause-ended : goal.returns-clause-ended
returns-clause-ended g c =
    let seat = c.args.seat.now in
    let after = c.put_all.new.notes in
    let done = c.change_taken-done.ensures in
    let notes = done.notes ∙ c.take_all-taken.ensures.notes in
    let put = c.put_all.ensures in
    let new = c.change_taken-done.new.list.cells.items in
    let commits = c.change_taken-done.new.seat.commits.amount in
    subst (λ (number : ℕ). IsEndedBy g.C.Commits.commit (at_seat seat.number seat.commits.amount seat.notes) (at_seat number commits after)
    c.args.change.update c.change_taken-done.result.1) (sym done.number)
    (ended g.C.Commits.opened seat.notes c.take_all-taken.new.list.cells.items new c.take_all-taken.ensures.taken done.cells done.versions
    after
    (λ k inside next. omega (
      arith,
      put.higher k (omega (arith, inside, c.change_taken-done.new.list.cells.ok)) next,
      ap (λ (l : List ℕ). slice_index l (taken_at new k).ino) notes,
    ))
    (λ still. put.still (λ k inside. still k (omega (arith, inside, c.change_taken-done.new.list.cells.ok))) ∙ notes)
    g.C.Commits.commit seat.number seat.commits.amount commits c.args.change.update c.change_taken-done.result.1
    (λ i. omega (arith, put.kept i, ap (λ (l : List ℕ). slice_index l i) notes)) done.done)
