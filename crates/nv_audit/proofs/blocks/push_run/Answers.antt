use Rattle.std.proofs.Common.{◌≡◌, ◌-◌, ◌≤◌, ◌++◌, ℕ, ◌∷◌, [], List, arith, ap, ◌∙◌}
use Rattle.std.specs.List.{range_with_len}
use Rattle.std.proofs.lemmas.List.{append_assoc}
use Rattle.nv_audit.proofs.EachOnce.{range_more}
use Rattle.nv_audit.proofs.blocks.push_run.Goals as goal

pub loop-number-preserved : goal.loop-number-preserved
loop-number-preserved c =
    let old = c.args.numbers.now.items in
    let first = c.args.run.first in
    let n = c.loop-number.number in
    let le : first ≤ n = omega (arith, c.loop-number.auto.number, c.number-number.ensures) in
    c.in_ok-push.ensures.items ∙ ap (λ (k : ℕ). c.loop-number.numbers.items ++ k ∷ []) c.new.ensures
    ∙ ap (λ (ns : List ℕ). ns ++ n ∷ []) c.loop-number.invariant
    ∙ append_assoc old (range_with_len first (n - first)) (n ∷ []) ∙ ap (λ (ns : List ℕ). old ++ ns) (range_more first n le)

pub returns : goal.returns
returns c =
    let old = c.args.numbers.now.items in
    let first = c.args.run.first in
    let last = c.args.run.last in
    let end : c.loop-number.number ≡ last =
    omega (arith, c.loop-number-test.false, c.loop-number.auto.number-end, c.number-number-end.ensures, c.requires) in
    c.in_ok-push-2.ensures.items ∙ ap (λ (ns : List ℕ). ns ++ last ∷ [])
    (c.loop-number.invariant ∙ ap (λ (k : ℕ). old ++ range_with_len first (k - first)) end)
    ∙ append_assoc old (range_with_len first (last - first)) (last ∷ []) ∙ ap (λ (ns : List ℕ). old ++ ns) (range_more first last c.requires)
