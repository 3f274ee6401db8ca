use Rattle.std.proofs.Common.{◌≡◌, ◌∙◌, ◌+◌, ◌-◌, ◌++◌, ℕ, take, drop, replicate, ap, sym, arith}
use Rattle.nv_findex.specs.declared.page_run.PageRun.{PageRun}
use Rattle.nv_findex.specs.Runs.{emptied, join}
use Rattle.nv_findex.proofs.Moves.{one_put, two_put}
use Rattle.nv_findex.proofs.put.put_both.Goals as goal

pub returns-then-goes_on-clause-items : goal.returns-then-goes_on-clause-items
unfolding join
returns-then-goes_on-clause-items c =
    let from = c.args.from in
    let put = c.put_one-end.new.runs.items in
    let joined : PageRun = record c.args.run { end = c.args.rest.end } in
    let left : c.put_one-end.result - (from + 1) ≡ c.args.to - from - 1 = omega (arith, c.put_one-end.ensures.end) in
    let empty = ap (λ (n : ℕ). take (from + 1) put ++ (replicate n (emptied joined) ++ drop c.put_one-end.result put)) left in
    rw (sym c.goes_on.ensures ∙ c.if-goes_on.true)
    (one_put c.args.runs.now.items put c.vacate.new.runs.items (replicate (c.args.to - from - 1) (emptied joined)) from c.put_one-end.result c.args.to joined
    (c.vacate.ensures.items ∙ empty) c.put_one-end.ensures.front c.put_one-end.ensures.behind)

pub returns-then-goes_on-clause-empty : goal.returns-then-goes_on-clause-empty
unfolding join
returns-then-goes_on-clause-empty c = rw (sym c.goes_on.ensures ∙ c.if-goes_on.true) (omega (arith, c.put_one-end.ensures.end))

pub returns-clause-items : goal.returns-clause-items
unfolding join
returns-clause-items c =
    let from = c.args.from in
    let one = c.put_one-middle.ensures in
    let two = c.put_behind-last.ensures in
    let put = c.put_behind-last.new.runs.items in
    let left : c.put_behind-last.result - (from + 1) ≡ c.args.to - from - 2 = omega (arith, one.end, two.place) in
    let empty = ap (λ (n : ℕ). take (from + 1) put ++ (replicate n (emptied c.args.run) ++ drop c.put_behind-last.result put)) left in
    rw (sym c.goes_on.ensures ∙ c.if-goes_on.false)
    (two_put c.args.runs.now.items c.put_one-middle.new.runs.items put c.vacate-2.new.runs.items (replicate (c.args.to - from - 2) (emptied c.args.run)) from
    c.put_one-middle.result c.put_behind-last.result c.args.to c.args.run c.args.rest (c.vacate-2.ensures.items ∙ empty) one.front one.behind two.front two.behind
    (omega (arith, one.end, two.place)))

pub returns-clause-empty : goal.returns-clause-empty
unfolding join
returns-clause-empty c = rw (sym c.goes_on.ensures ∙ c.if-goes_on.false) (omega (arith, c.put_one-middle.ensures.end, c.put_behind-last.ensures.place))
