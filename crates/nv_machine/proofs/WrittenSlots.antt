-- The slots that a plan is written in, and what it has for each.
use Rattle.std.proofs.Common.{Bool, List, [], ap, arith, cond, false, filter, flat_map, inl, inr, length, nat_lt, refl, sym, true, ℕ, ◌++◌, ◌<◌, ◌==◌, ◌∙◌, ◌∷◌, ◌≡◌, ◌≤◌, ◌⊎◌}
use Rattle.std.specs.List.{AllByRecursion}
use Rattle.std.proofs.lemmas.Bool.{eqb-true, false≢true}
use Rattle.nv_alloc.specs.Numbers.{IsRising, has}
use Rattle.nv_calls.specs.Plan.{plan_blocks}
use Rattle.nv_calls.specs.Slots.{items_for}
use Rattle.nv_calls.specs.declared.plan.InodePlan.{InodePlan}
use Rattle.nv_cell.specs.Append.{IsWithinFile}
use Rattle.nv_entry.specs.Blocks.{item_blocks}
use Rattle.nv_entry.specs.declared.item.Item.{Item}
use Rattle.nv_machine.specs.Kept.{IsPlanFor}
use Rattle.nv_machine.specs.Reads.{is_written, slot_at, written_slots}
use Rattle.nv_machine.specs.World.{Running}
use Rattle.nv_machine.proofs.CellSteps.{HaveFront}
use Rattle.nv_machine.proofs.Lists.{has_at}

-- ---- slots that are written

pub written_there : (r : Running) (place : ℕ) → place < length (written_slots r)
    → has (written_slots r) (slot_at (written_slots r) place) ≡ true
written_there r place lt = has_at (written_slots r) place lt

-- a plan of one inode is written in one slot
none_above : (f : ℕ → Bool) (k : ℕ) → ((n : ℕ) → f n ≡ true → n ≡ k) → (xs : List ℕ) → AllByRecursion (λ n. k < n) xs → filter f xs ≡ []
none_above f k only [] all = refl
none_above f k only (x ∷ xs) all = go (f x) refl (none_above f k only xs all.1) where
  go : (b : Bool) → f x ≡ b → filter f xs ≡ [] → cond b (x ∷ filter f xs) (filter f xs) ≡ []
  go true e more = absurd (omega (arith, all.0, only x e))
  go false e more = more

one_slot : (f : ℕ → Bool) (k : ℕ) → ((n : ℕ) → f n ≡ true → n ≡ k) → (xs : List ℕ) → IsRising xs → length (filter f xs) ≤ 1
one_slot f k only [] r = omega arith
one_slot f k only (x ∷ xs) r = go (f x) refl (one_slot f k only xs r.1) where
  go : (b : Bool) → f x ≡ b → length (filter f xs) ≤ 1 → length (cond b (x ∷ filter f xs) (filter f xs)) ≤ 1
  go true e more =
      let none = none_above f x (λ n q. only n q ∙ sym (only x e)) xs r.0 in
      rw none (omega arith)
  go false e more = more

pub many_planned : (plan : List InodePlan) (slots : List ℕ) → IsRising slots → 1 < length (filter (is_written plan) slots) → 1 < length plan
many_planned (p ∷ q ∷ plan) slots rising lt = omega arith
many_planned (p ∷ []) slots rising lt =
    absurd (omega (arith, lt, one_slot (is_written (p ∷ [])) p.handle.ino (λ n e. go n (p.handle.ino == n) refl e) slots rising)) where
      go : (n : ℕ) (b : Bool) → (p.handle.ino == n) ≡ b → nat_lt 0 (length (cond b p.items [])) ≡ true → n ≡ p.handle.ino
      go n true e k = sym (eqb-true p.handle.ino n e)
      go n false e k = absurd (false≢true k)
many_planned [] slots rising lt = absurd (omega (arith, lt, one_slot (is_written []) 0 (λ n e. absurd (false≢true e)) slots rising))

-- ---- what is planned for a slot

both_none : (xs ys : List ℕ) → xs ++ ys ≡ [] → (xs ≡ []) × (ys ≡ [])
both_none [] ys h = (refl, h)
both_none (x ∷ xs) ys h = cc

none_for : (plan : List InodePlan) (ino : ℕ) → plan_blocks plan ≡ [] → flat_map item_blocks (items_for plan ino) ≡ []
none_for [] ino h = refl
none_for (p ∷ plan) ino h =
    let both = both_none (flat_map item_blocks p.items) (plan_blocks plan) h in
    go (p.handle.ino == ino) both.0 (none_for plan ino both.1) where
      go : (b : Bool) → flat_map item_blocks p.items ≡ [] → flat_map item_blocks (items_for plan ino) ≡ []
          → flat_map item_blocks (cond b p.items (items_for plan ino)) ≡ []
      go true own more = own
      go false own more = more

no_front : (items : List Item) (numbers : List ℕ) → flat_map item_blocks items ≡ [] → HaveFront items numbers
no_front items numbers e = record { rest = numbers; is = sym (ap (λ (l : List ℕ). l ++ numbers) e) }

pub front_of : (plan : List InodePlan) (numbers : List ℕ) (ino : ℕ) → IsPlanFor plan numbers → HaveFront (items_for plan ino) numbers
front_of plan numbers ino p = go plan p.blocks p.several where
  go : (plan : List InodePlan) → (plan_blocks plan ≡ numbers) ⊎ (plan_blocks plan ≡ []) → (1 < length plan → plan_blocks plan ≡ [])
      → HaveFront (items_for plan ino) numbers
  go plan (inr none) several = no_front (items_for plan ino) numbers (none_for plan ino none)
  go [] (inl all) several = no_front [] numbers refl
  go (q ∷ []) (inl all) several = one (q.handle.ino == ino) where
    one : (b : Bool) → HaveFront (cond b q.items []) numbers
    one true = record { rest = []; is = sym all }
    one false = no_front [] numbers refl
  go (q ∷ o ∷ plan) (inl all) several = no_front (items_for (q ∷ o ∷ plan) ino) numbers
      (none_for (q ∷ o ∷ plan) ino (several (omega arith)))

pub within_of : (plan : List InodePlan) (ino : ℕ) → AllByRecursion (λ (p : InodePlan). AllByRecursion IsWithinFile p.items) plan
    → AllByRecursion IsWithinFile (items_for plan ino)
within_of [] ino h = tt
within_of (p ∷ plan) ino h = go (p.handle.ino == ino) (within_of plan ino h.1) where
  go : (b : Bool) → AllByRecursion IsWithinFile (items_for plan ino) → AllByRecursion IsWithinFile (cond b p.items (items_for plan ino))
  go true more = h.0
  go false more = more
