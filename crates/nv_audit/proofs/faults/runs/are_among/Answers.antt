use Rattle.std.proofs.Common.{◌≡◌, ℕ, rules, sym, subst}
use Rattle.std.specs.List.Sorted.{IsNonDecreasing}
use Rattle.std.proofs.lemmas.List.Sorted.{IsNonDecreasingBy-from_sort_by_key}
use Rattle.nv_alloc.specs.Block.{numbers_of}
use Rattle.nv_audit.proofs.Among.{among_told}
use Rattle.nv_audit.proofs.faults.runs.are_among.Goals as goal

pub are_all_in-requires : goal.are_all_in-requires
are_all_in-requires c =
    subst IsNonDecreasing (sym c.deref.ensures.value)
    (IsNonDecreasingBy-from_sort_by_key (λ (x : ℕ). x) c.sort_unstable_by_key.new.self.items c.sort_unstable_by_key.ensures.sorted
    (λ a r f k. search rules))

pub returns : goal.returns
returns c =
    let blocks = c.args.blocks.now in
    let put : c.push_data.new.numbers.items ≡ numbers_of blocks = rw c.new-present.ensures.items at c.in_ok-push_data.ensures in
    among_told blocks c.args.numbers.now c.push_data.new.numbers.items c.sort_unstable_by_key.new.self.items c.deref.result.now
    c.are_all_in.result put c.sort_unstable_by_key.ensures.permutation c.deref.ensures.value c.are_all_in.ensures
