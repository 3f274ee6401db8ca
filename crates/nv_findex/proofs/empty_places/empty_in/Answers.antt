use Rattle.std.proofs.Common.{◌≡◌, ◌+◌, ℕ, cond, arith, drop, take, slice_range, subst, sym}
use Rattle.nv_findex.specs.Runs.{IsEmptyCount, has_page}
use Rattle.nv_findex.proofs.Places.{count_more, counted, present_le}
use Rattle.nv_findex.proofs.empty_places.empty_in.Goals as goal
use Rattle.nv_findex.proofs.empty_places.empty_in.Goals.{then-not-has_page, else-not-has_page}

pub returns-then-empty-eq0 : goal.returns-then-empty-eq0
returns-then-empty-eq0 c =
    let rs = c.args.runs.now.items in
    let parts = counted rs c.args.from c.args.to c.requires.order c.requires.within in
    omega (
      arith,
      c.requires.empty,
      c.if-empty-eq0.true,
      parts.present,
      parts.all,
      present_le (take c.args.from rs),
      present_le (slice_range rs c.args.from c.args.to),
      present_le (drop c.args.to rs),
    )

pub loop-at-preserved : goal.loop-at-preserved
loop-at-preserved c =
    let rs = c.args.runs.now.items in
    let more : c.if-not-has_page.count ≡ c.loop-at.count + cond (has_page c.at.result) 0 1 = elim c.if-not-has_page.branch [
      | then-not-has_page w ↦ rw (sym c.has_page.ensures, w.if-not-has_page.true) w.count-is
      | else-not-has_page w ↦ rw (sym c.has_page.ensures, w.if-not-has_page.false) (omega (arith, w.count-is))
    ] in
    subst (λ (n : ℕ). IsEmptyCount n (slice_range rs c.args.from (c.loop-at.at + 1))) (sym more)
    (count_more rs c.args.from c.loop-at.at c.loop-at.count c.at.result (omega arith) (omega arith) c.at.ensures c.loop-at.invariant)
