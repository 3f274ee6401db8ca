use Rattle.std.proofs.Common.{◌≡◌, ◌∙◌, ◌+◌, true, List, take, ap, arith, refl, slice_get, Some, length}
use Rattle.std.proofs.lemmas.Bool.{lt-ltb}
use Rattle.std.proofs.lemmas.List.{length-set, take_more_set}
use Rattle.std.proofs.lemmas.Option.{get_or_from_slice_get, slice_get_within}
use Rattle.nv_findex.specs.declared.page_run.PageRun.{PageRun}
use Rattle.nv_findex.specs.Runs.{has_page, present}
use Rattle.nv_findex.proofs.Places.{present_set}
use Rattle.nv_findex.proofs.runs.keep_below.Goals as goal

pub returns-clause-before : goal.returns-clause-before
returns-clause-before c =
    let some : slice_get c.args.runs.now.items c.args.at ≡ Some c.in-Some.run' = cc in
    let cut : PageRun = record c.in-Some.run' { end = c.args.page } in
    ap (λ (l : List PageRun). take (c.args.at + 1) l) c.replace.ensures.items
    ∙ take_more_set c.args.runs.now.items c.args.at cut (slice_get_within _ _ _ some) ∙ rw (some, lt-ltb _ _ c.if-page-run.false) refl

pub returns-clause-within : goal.returns-clause-within
returns-clause-within c = omega (arith, ap (λ (l : List PageRun). length l) c.replace.ensures.items, length-set {A = PageRun})

pub returns-clause-present : goal.returns-clause-present
returns-clause-present c =
    let some : slice_get c.args.runs.now.items c.args.at ≡ Some c.in-Some.run' = cc in
    let cut : PageRun = record c.in-Some.run' { end = c.args.page } in
    let old : has_page c.in-Some.run' ≡ true = rw some at c.requires.page in
    ap (λ (l : List PageRun). length (present l)) c.replace.ensures.items
    ∙ present_set c.args.runs.now.items c.args.at cut cut (slice_get_within _ _ _ some)
    (ap has_page (get_or_from_slice_get c.args.runs.now.items c.args.at _ cut some) ∙ old) (lt-ltb _ _ c.if-page-run.false)
