use Rattle.std.proofs.Common.{get_or, sym, ◌∙◌}
use Rattle.std.proofs.lemmas.Bool.{eq-eqb, eqb-true, false≢true}
use Rattle.std.proofs.lemmas.List.{get_or_default}
use Rattle.nv_audit.proofs.Paged.{ended, its_end, its_last, one_end_more}
use Rattle.nv_audit.proofs.faults.chains.are_ends.Goals as goal

pub loop-place-init : goal.loop-place-init
loop-place-init c = (λ all. all, λ all. all)

pub returns-then-not-is_end : goal.returns-then-not-is_end
returns-then-not-is_end c =
    let ends = c.args.ends.now in
    let i = c.loop-place.place in
    let end = get_or ends i 0 in (
      λ no. absurd (false≢true no),
      λ all. absurd (false≢true (sym c.if-not-is_end.true ∙ c.is_end.ensures.1
          (its_end c.args.page c.args.len ends c.loop-place.start i end c.loop-place-test.true
          (get_or_default ends i 0 end c.loop-place-test.true) c.loop-place.invariant all))),
    )

pub loop-place-preserved : goal.loop-place-preserved
loop-place-preserved c =
    let ends = c.args.ends.now in
    let i = c.loop-place.place in
    let end = get_or ends i 0 in
    one_end_more c.args.page c.args.len ends c.loop-place.start i end c.loop-place-test.true
    (get_or_default ends i 0 end c.loop-place-test.true) c.loop-place.invariant (c.is_end.ensures.0 c.if-not-is_end.false)

pub returns : goal.returns
returns c =
    let page = c.args.page in
    let len = c.args.len in
    let ends = c.args.ends.now in (
      λ yes. ended page len ends c.loop-place.start c.loop-place.place c.loop-place-test.false c.loop-place.invariant
          (eqb-true c.loop-place.start len yes),
      λ all. eq-eqb c.loop-place.start len
          (its_last page len ends c.loop-place.start c.loop-place.place c.loop-place-test.false c.loop-place.invariant all),
    )
