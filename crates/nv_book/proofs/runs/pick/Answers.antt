use Rattle.std.proofs.Common.{◌<◌, List, Some, slice_get, drop, ◌≡◌, [], ◌∷◌, true, false, length, arith, refl, sym, ap, ◌∙◌}
use Rattle.std.proofs.lemmas.Grind.{common_steps}
use Rattle.nv_book.specs.declared.record.Record.{Record}
use Rattle.nv_book.specs.declared.run.RecordRun.{RecordRun}
use Rattle.nv_book.specs.Runs.{records_of}
use Rattle.nv_book.proofs.Ends.{first-run}
use Rattle.nv_book.proofs.Series.{cut-list, drop-list}
use Rattle.nv_book.proofs.runs.pick.Goals as goal

pub cut-requires-clause-run : goal.cut-requires-clause-run
cut-requires-clause-run c = (first-run _ _ (c.in_ok-first.ensures.variant.0 refl) c.in_ok-first.ensures.value c.requires).2

picked : (xs ys : List Record) (r : Record) → xs ≡ r ∷ ys → (Some r ≡ slice_get xs 0) × (ys ≡ drop 1 xs)
picked xs ys r e = (rw e refl, rw e refl)

pub returns-then-first-gt0 : goal.returns-then-first-gt0
returns-then-first-gt0 c =
    let cut = cut-list _ _ (c.in_ok-first.ensures.variant.0 refl) c.in_ok-first.ensures.value c.requires c.if-first-gt0.true in
    let front = picked _ _ _ cut.0 in
    rw c.cut.ensures (record { first = front.0; rest = front.1; runs = cut.1; room = grind (arith, common_steps) })

pub returns : goal.returns
returns c =
    let left = drop-list _ _ (c.in_ok-first.ensures.variant.0 refl) c.in_ok-first.ensures.value c.requires c.if-first-gt0.false in
    let front = picked _ _ _ left.0 in
    rw c.pop_front-node.ensures.rest (record { first = front.0; rest = front.1; runs = left.1; room = grind (arith, common_steps) })

none-of : (rs : List RecordRun) → (0 < length rs → false ≡ true) → records_of rs ≡ []
unfolding records_of
none-of [] h = refl
none-of (r ∷ rs) h = let no : false ≡ true = h (omega arith) in cc

pub returns-in_err-first-clause-first : goal.returns-in_err-first-clause-first
returns-in_err-first-clause-first c = c.from_residual.ensures
    ∙ ap (λ rs. slice_get rs 0) (sym (none-of c.args.list.now c.in_err-first.ensures.variant.1))

pub returns-in_err-first-clause-rest : goal.returns-in_err-first-clause-rest
returns-in_err-first-clause-rest c = rw (none-of c.args.list.now c.in_err-first.ensures.variant.1) refl
