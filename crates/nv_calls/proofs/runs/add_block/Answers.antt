use Rattle.std.proofs.Common.{◌≡◌, ◌+◌, List, ◌∷◌, [], ◌++◌, length, arith, refl, ap, sym, ◌∙◌, subst}
use Rattle.nv_entry.specs.declared.item.BlockRun.{BlockRun}
use Rattle.nv_entry.specs.Sound.{blocks_of}
use Rattle.nv_calls.specs.Plan.{AreMaximal}
use Rattle.nv_calls.proofs.RunLists.{blocks_of-join, count-push, maximal-longer, maximal-more}
use Rattle.nv_calls.proofs.runs.add_block.Goals as goal

pub overflow_add-len : goal.overflow_add-len
overflow_add-len c =
    let old : c.args.runs.now ≡ c.pop.new.self ++ c.in-Some.last ∷ [] = c.in-Some.ensures.items in
    let count = ap (λ (runs : List BlockRun). length (blocks_of runs)) old ∙ count-push c.pop.new.self c.in-Some.last in
    omega (arith, count, c.requires.few)

pub returns-then-number-from-clause-blocks : goal.returns-then-number-from-clause-blocks
returns-then-number-from-clause-blocks c =
    let ends : c.in-Some.last.start + c.in-Some.last.len ≡ c.args.block = omega arith in
    let old : c.args.runs.now ≡ c.pop.new.self ++ c.in-Some.last ∷ [] = c.in-Some.ensures.items in
    ap blocks_of c.in_ok-push-2.ensures
    ∙ blocks_of-join c.pop.new.self c.in-Some.last _ c.args.block ends refl refl
    ∙ ap (λ xs. blocks_of xs ++ c.args.block ∷ []) (sym old)

pub returns-then-number-from-clause-maximal : goal.returns-then-number-from-clause-maximal
returns-then-number-from-clause-maximal c =
    let old : c.args.runs.now ≡ c.pop.new.self ++ c.in-Some.last ∷ [] = c.in-Some.ensures.items in
    subst AreMaximal (sym c.in_ok-push-2.ensures)
    (maximal-longer c.pop.new.self c.in-Some.last _ (subst AreMaximal old c.requires.maximal) refl (omega arith))

pub returns-clause-maximal : goal.returns-clause-maximal
returns-clause-maximal c =
    let old : c.args.runs.now ≡ c.pop.new.self ++ c.in-Some.last ∷ [] = c.in-Some.ensures.items in
    let one : BlockRun = c.run_of_one-2.result in
    subst AreMaximal (sym (c.in_ok-push-4.ensures ∙ ap (λ (xs : List BlockRun). xs ++ one ∷ []) c.in_ok-push-3.ensures))
    (maximal-more c.pop.new.self c.in-Some.last one (subst AreMaximal old c.requires.maximal)
    (λ e. omega (arith, e, c.if-number-from.false, c.run_of_one-2.ensures.start)) (omega (arith, c.run_of_one-2.ensures.len)))
