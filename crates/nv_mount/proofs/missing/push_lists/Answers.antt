use Rattle.std.proofs.Common.{◌≡◌, ℕ, ◌+◌, ◌<◌, ◌≤◌, ◌⊎◌, inl, inr, ◌++◌, ◌∷◌, [], List, length, get_or, map, arith, ap, subst, sym, ◌∙◌}
use Rattle.std.specs.List.{range_with_len}
use Rattle.std.proofs.lemmas.Bool.{cases_lt}
use Rattle.std.proofs.lemmas.List.{get_or_append_left, get_or_push}
use Rattle.std.proofs.lemmas.List.FromFn.{map-range_with_len_more}
use Rattle.nv_alloc.specs.FreeList.{FreeBlocks, IsHomeList, no_list}
use Rattle.nv_base.specs.declared.geometry.GeometryNumbers.{GeometryNumbers}
use Rattle.nv_mount.specs.Missing.{list_unmarked}
use Rattle.nv_mount.proofs.missing.push_lists.Goals as goal

-- each list is that of its CPU, with one more
homes_more : (g : GeometryNumbers) (lists new : List FreeBlocks) (list : FreeBlocks) (cpu : ℕ) → length lists ≡ cpu
    → new ≡ lists ++ list ∷ [] → ((k : ℕ) → k < cpu → IsHomeList g k (get_or lists k no_list)) → IsHomeList g cpu list
    → (k : ℕ) → k < cpu + 1 → IsHomeList g k (get_or new k no_list)
homes_more g lists new list cpu len put before last k lt =
    subst (λ (ls : List FreeBlocks). IsHomeList g k (get_or ls k no_list)) (sym put) (go (cases_lt k cpu)) where
      go : (k < cpu) ⊎ (cpu ≤ k) → IsHomeList g k (get_or (lists ++ list ∷ []) k no_list)
      go (inl low) =
          subst (IsHomeList g k) (sym (get_or_append_left lists (list ∷ []) no_list k (omega (arith, low, len)))) (before k low)
      go (inr le) =
          let at : cpu ≡ k = omega (arith, le, lt) in
          subst (IsHomeList g k) (sym (get_or_push lists list no_list k (len ∙ at))) (subst (λ (m : ℕ). IsHomeList g m list) at last)

lists_more : (f : ℕ → FreeBlocks) (lists new : List FreeBlocks) (list : FreeBlocks) (cpu : ℕ) → new ≡ lists ++ list ∷ []
    → lists ≡ map f (range_with_len 0 cpu) → list ≡ f cpu → new ≡ map f (range_with_len 0 (cpu + 1))
lists_more f lists new list cpu put are is =
    put ∙ ap (λ (ls : List FreeBlocks). ls ++ list ∷ []) are
    ∙ ap (λ (l : FreeBlocks). map f (range_with_len 0 cpu) ++ l ∷ []) is
    ∙ sym (map-range_with_len_more f 0 cpu cpu (omega arith))

pub loop-cpu-preserved : goal.loop-cpu-preserved
loop-cpu-preserved c =
    let g = c.args.geometry.now.numbers in
    let marks = c.args.marks.now in
    let cpu = c.loop-cpu.cpu in
    record {
      lists =
          lists_more (list_unmarked g marks) c.loop-cpu.lists.items c.push_reserved.new.self.items c.in_ok-list.list cpu
          c.push_reserved.ensures.items c.loop-cpu.invariant.lists c.in_ok-list.ensures.ok;
      homes =
          homes_more g c.loop-cpu.lists.items c.push_reserved.new.self.items c.in_ok-list.list cpu (omega (arith, c.loop-cpu.lists.ok, c.loop-cpu.invariant.len))
          c.push_reserved.ensures.items c.loop-cpu.invariant.homes c.in_ok-list.ensures.home;
      len = omega (arith, c.push_reserved.ensures.len, c.loop-cpu.invariant.len);
      room = omega (arith, c.push_reserved.ensures.capacity, c.loop-cpu.invariant.room);
    }
