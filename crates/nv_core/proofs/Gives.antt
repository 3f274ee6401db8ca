-- Blocks that go home to one list, as the machine's.
use Rattle.std.proofs.Common.{◌≡◌, ℕ, zero, suc, ◌+◌, ◌<◌, ◌≤◌, ◌∙◌, ◌++◌, List, [], ◌∷◌, ap, arith, if◌then◌else◌, length, refl, subst, sym}
use Rattle.std.specs.Prelude.{slice_index_or, slice_set}
use Rattle.std.proofs.lemmas.List.{length-set}
use Rattle.nv_alloc.specs.Block.{AreSized, BlockValue, numbers_of}
use Rattle.nv_alloc.specs.FreeList.{FreeBlocks}
use Rattle.nv_alloc.specs.Giving.{after_giving, not_taken}
use Rattle.nv_alloc.specs.Numbers.{times}
use Rattle.nv_alloc.proofs.GivingLemmas.{kept_of-append}
use Rattle.nv_base.specs.declared.geometry.GeometryNumbers.{GeometryNumbers}
use Rattle.nv_machine.specs.Hands.{AreGiven}
use Rattle.nv_machine.specs.Kinds.{blocks_in, given}
use Rattle.nv_machine.specs.World.{HandState, Shared, list_at, no_list}
use Rattle.nv_core.specs.Parts.{AreListsOf, IsListOf}
use Rattle.nv_machine.proofs.Homes.{kept_is_given}

-- ---- what a list does not take

pub all_given : (g : GeometryNumbers) (cpu : ℕ) (list : FreeBlocks) (bs : List BlockValue) → IsListOf g cpu list → AreSized g.block bs
    → ((n : ℕ) → times n (numbers_of bs) + times n (numbers_of list.blocks) ≤ 1) → AreGiven g cpu bs
    → AreGiven g (cpu + 1) (not_taken list bs)
all_given g cpu list bs home sized once given = kept_is_given g cpu list bs home.start home.end home.size sized once given

-- what the hand keeps, of all its blocks
pub kept_in : (cpu : ℕ) (s : Shared) (h : HandState) → blocks_in (given cpu s h) ≡ not_taken (list_at s cpu) (blocks_in h)
kept_in cpu s h = sym (kept_of-append (list_at s cpu) (h.blocks ++ h.pages) h.chain
    ∙ ap (λ (l : List BlockValue). l ++ not_taken (after_giving (list_at s cpu) (h.blocks ++ h.pages)) h.chain)
    (kept_of-append (list_at s cpu) h.blocks h.pages))

-- ---- the list that took them

each_set : (g : GeometryNumbers) (at i k : ℕ) (lists : List FreeBlocks) (list : FreeBlocks) → k < length lists
    → IsListOf g (at + i) list → IsListOf g (at + k) (slice_index_or lists k no_list)
    → IsListOf g (at + k) (slice_index_or (slice_set lists i list) k no_list)
each_set g at i k [] list lt new old = absurd (omega (arith, lt))
each_set g at zero zero (l ∷ lists) list lt new old = new
each_set g at zero (suc k) (l ∷ lists) list lt new old = old
each_set g at (suc i) zero (l ∷ lists) list lt new old = old
each_set g at (suc i) (suc k) (l ∷ lists) list lt new old =
    let here : at + suc k ≡ at + 1 + k = omega arith in
    let there : at + suc i ≡ at + 1 + i = omega arith in
    let rest = each_set g (at + 1) i k lists list (omega (arith, lt)) (subst (λ (n : ℕ). IsListOf g n list) there new)
    (subst (λ (n : ℕ). IsListOf g n (slice_index_or lists k no_list)) here old) in
    subst (λ (n : ℕ). IsListOf g n (slice_index_or (slice_set lists i list) k no_list)) (sym here) rest

-- the lists of which one is another of the same home
pub lists_set : (g : GeometryNumbers) (i : ℕ) (lists : List FreeBlocks) (list : FreeBlocks) → AreListsOf g lists → IsListOf g i list
    → AreListsOf g (slice_set lists i list)
lists_set g i lists list are is = record {
  count = length-set lists i list ∙ are.count;
  each = λ cpu lt.
      let here : cpu ≡ 0 + cpu = omega arith in
      let there : i ≡ 0 + i = omega arith in
      subst (λ (n : ℕ). IsListOf g n (slice_index_or (slice_set lists i list) cpu no_list)) (sym here)
      (each_set g 0 i cpu lists list (omega (arith, lt, are.count)) (subst (λ (n : ℕ). IsListOf g n list) there is)
      (subst (λ (n : ℕ). IsListOf g n (slice_index_or lists cpu no_list)) here (are.each cpu lt)));
}

-- ---- an item

-- an item that is there, whatever else would be
pub same_there : (lists : List FreeBlocks) (i : ℕ) (a b : FreeBlocks) → i < length lists
    → slice_index_or lists i a ≡ slice_index_or lists i b
same_there [] i a b lt = absurd (omega (arith, lt))
same_there (l ∷ lists) zero a b lt = refl
same_there (l ∷ lists) (suc i) a b lt = same_there lists i a b (omega (arith, lt))
