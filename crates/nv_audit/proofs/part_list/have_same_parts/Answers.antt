use Rattle.std.proofs.Common.{◌≡◌, rules, sym, ◌∙◌}
use Rattle.std.proofs.lemmas.List.Sorted.{answers_always}
use Rattle.nv_audit.specs.PartLists.{is_same, order_of}
use Rattle.nv_audit.specs.contracts.part_list.InodePartPartialEq.TheImpl.{eq-value as equal}
use Rattle.nv_audit.specs.declared.part_list.InodePart.{InodePart}
use Rattle.nv_audit.proofs.PartLists.{equal_if_one, one_if_equal, one_if_same, same_if_one}
use Rattle.nv_audit.proofs.part_list.have_same_parts.Goals as goal

tells : (a b : InodePart) → equal.it a b ≡ is_same b a
tells a b = search rules

pub returns : goal.returns
returns c =
    let one = c.args.one.items in
    let other = c.args.other.items in
    let first = c.sort_unstable_by_key.new.self.items in
    let second = c.sort_unstable_by_key-2.new.self.items in
    let moved = c.sort_unstable_by_key.ensures.permutation in
    let too = c.sort_unstable_by_key-2.ensures.permutation in
    let up = c.sort_unstable_by_key.ensures.sorted order_of (answers_always _ _ _ (λ f a r g h. search rules)) in
    let also = c.sort_unstable_by_key-2.ensures.sorted order_of (answers_always _ _ _ (λ f a r g h. search rules)) in (
      λ t. same_if_one one other first second moved too (one_if_equal equal.it tells first second (sym c.eq.ensures ∙ t)),
      λ same. c.eq.ensures ∙ equal_if_one equal.it tells first second (one_if_same one other first second moved too up also same),
    )
