use Rattle.std.proofs.Common.{ℕ, rules, sym, subst}
use Rattle.std.specs.List.Sorted.{IsNonDecreasing}
use Rattle.std.proofs.lemmas.List.Sorted.{IsNonDecreasingBy-from_sort_by_key}
use Rattle.nv_audit.specs.Tree.{IsOnce}
use Rattle.nv_audit.proofs.Apart.{once_back, once_moved}
use Rattle.nv_audit.proofs.sound.are_all_apart.Goals as goal

pub is_once-requires : goal.is_once-requires
is_once-requires c =
    subst IsNonDecreasing (sym c.deref.ensures.value)
    (IsNonDecreasingBy-from_sort_by_key (λ (x : ℕ). x) c.sort_unstable_by_key.new.self.items c.sort_unstable_by_key.ensures.sorted
    (λ a r f k. search rules))

pub returns : goal.returns
returns c =
    let old = c.args.numbers.items in
    let new = c.sort_unstable_by_key.new.self.items in (
      λ t. once_back old new c.sort_unstable_by_key.ensures.permutation (subst IsOnce c.deref.ensures.value (c.is_once.ensures.0 t)),
      λ once. c.is_once.ensures.1 (subst IsOnce (sym c.deref.ensures.value)
          (once_moved old new c.sort_unstable_by_key.ensures.permutation once)),
    )
