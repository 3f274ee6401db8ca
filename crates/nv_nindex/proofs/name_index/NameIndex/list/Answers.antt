use Rattle.std.proofs.Common.{ℕ, IsTrue, List, Ok, map, rules, subst}
use Rattle.std.specs.declared.alloc.AllocError.{AllocError}
use Rattle.std.proofs.ByRecursion.{all_shuffled}
use Rattle.std.proofs.lemmas.Iterator.Consumers.{YieldsList-from_rest, map_from_collect}
use Rattle.std.proofs.lemmas.List.Sorted.{IsPermutation-map, answers_always}
use Rattle.std.specs.List.Sorted.{IsPermutation}
use Rattle.nv_base.specs.Names.{is_lawful_name}
use Rattle.nv_nindex.specs.NameIndex.{lent}
use Rattle.nv_nindex.specs.declared.binding.Binding.{Binding}
use Rattle.nv_nindex.proofs.Order.{listed}
use Rattle.nv_nindex.proofs.name_index.NameIndex.list.Goals as goal

moved : (c : goal.After-sort_unstable_by_key) → IsPermutation c.args.self.now.names (map lent c.sort_unstable_by_key.new.self.items)
moved c = subst (λ names. IsPermutation names (map lent c.sort_unstable_by_key.new.self.items))
    (map_from_collect {E = AllocError} (Ok c.in_ok-list.list) c.in_ok-list.ensures.ran (YieldsList-from_rest _ c.iter.ensures.names))
    (IsPermutation-map lent _ _ c.sort_unstable_by_key.ensures.permutation)

pub returns-clause-names : goal.returns-clause-names
returns-clause-names c = listed c.args.self.now.names _ c.iter.ensures.distinct (moved c)
    (c.sort_unstable_by_key.ensures.sorted (λ given. given.1.entry) (answers_always _ _ _ (λ f a r g h. search rules)))

pub returns-clause-lawful : goal.returns-clause-lawful
returns-clause-lawful c =
    all_shuffled (λ (bound : List ℕ × Binding). IsTrue (is_lawful_name bound.0)) c.args.self.now.names _ (moved c) c.iter.ensures.lawful
