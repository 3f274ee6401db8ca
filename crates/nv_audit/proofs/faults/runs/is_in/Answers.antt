use Rattle.std.proofs.Common.{ℕ, rules, ap, ◌∙◌}
use Rattle.std.proofs.lemmas.List.Sorted.{answers_always}
use Rattle.nv_alloc.specs.Numbers.{has}
use Rattle.nv_audit.proofs.Among.{in_by}
use Rattle.nv_audit.proofs.faults.runs.is_in.Goals as goal

-- the closure gives a block's number
pub returns : goal.returns
returns c =
    let facts = c.binary_search_by_key.ensures in
    let by_number = facts.position (λ (n : ℕ). n) (answers_always _ _ _ (λ f a r g called. search rules)) in
    c.is_ok.ensures.value ∙ in_by c.args.present.now c.number.result c.binary_search_by_key.result by_number c.requires
    ∙ ap (has c.args.present.now) c.number.ensures
