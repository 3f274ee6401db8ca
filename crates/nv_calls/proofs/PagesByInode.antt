-- The log pages that a plan wants, told by the inodes of the plan.
use Rattle.std.proofs.Common.{◌≡◌, ◌≢◌, ℕ, suc, ◌+◌, ◌<◌, ◌≤◌, ◌==◌, Bool, true, false, cond, List, [], ◌∷◌, length, slice_index_or, AllPairs, sum_by, Option, Some, None, arith, refl, ap, subst}
use Rattle.std.specs.List.{AllByRecursion}
use Rattle.std.specs.Prelude.{option_map, unwrap_or}
use Rattle.std.proofs.lemmas.Bool.{eqb-false, eqb-true}
use Rattle.std.proofs.lemmas.List.Sums.{sum_by-cons}
use Rattle.nv_alloc.specs.declared.hand.Hand.{Hand}
use Rattle.nv_cell.specs.Cell.{CellValue}
use Rattle.nv_log.specs.Chain.{pages_for}
use Rattle.nv_calls.specs.Nodes.{cell_of}
use Rattle.nv_calls.specs.PagesWanted.{entry_counts, pages_needed, pages_wanted}
use Rattle.nv_calls.specs.Plan.{AreApart}
use Rattle.nv_calls.specs.Prepared.{CanReady, planned_by}
use Rattle.nv_calls.specs.Slots.{items_for}
use Rattle.nv_calls.specs.declared.plan.InodePlan.{InodePlan}
use Rattle.nv_calls.specs.declared.update.Update.{Update}
use Rattle.nv_calls.proofs.Places.{none_for}
use Rattle.nv_calls.proofs.PlannedAlike.{few_apart_by}

abbrev pub pages_if : ℕ → Option CellValue → ℕ
pages_if n cell = unwrap_or (option_map (λ (c : CellValue). pages_for c.state.chain n) cell) 0

-- how many pages the log of an inode needs for so many entries, where it is that of a cell
abbrev pub pages_at : List (ℕ × CellValue) → ℕ × ℕ → ℕ
pages_at cells entries = pages_if entries.1 (cell_of cells entries.0)

-- ---- over cells of different numbers

abbrev Rising : List (ℕ × CellValue) → Type 0
Rising cells = AllPairs (λ (a b : ℕ × CellValue). a.0 < b.0) cells

tail_rises : (c : ℕ × CellValue) (cells : List (ℕ × CellValue)) → Rising (c ∷ cells) → Rising cells
tail_rises c cells rises i j d lt within = rises (suc i) (suc j) d (omega (arith, lt)) (omega (arith, within))

module _ (ino n : ℕ) where
  -- the pages of the cell of that number, and none of any other
  abbrev only_for : ℕ × CellValue → ℕ
  only_for c = cond (ino == c.0) (pages_for c.1.state.chain n) 0

  none_above : (cells : List (ℕ × CellValue)) → ((k : ℕ) (d : ℕ × CellValue) → k < length cells → ino < (slice_index_or cells k d).0)
      → sum_by only_for cells ≡ 0
  none_above [] above = refl
  none_above (c ∷ cells) above =
      go (ino == c.0) refl (none_above cells (λ k d lt. above (suc k) d (omega (arith, lt)))) where
        go : (b : Bool) → (ino == c.0) ≡ b → sum_by only_for cells ≡ 0 → sum_by only_for (c ∷ cells) ≡ 0
        go true q rest = let same = eqb-true ino c.0 q in let up = above 0 c (omega arith) in absurd (omega (arith, same, up))
        go false q rest =
            let here : only_for c ≡ 0 = ap (λ (b : Bool). cond b (pages_for c.1.state.chain n) 0) q in
            omega (arith, rest, here, sum_by-cons only_for c cells)

  once_for : (cells : List (ℕ × CellValue)) → Rising cells → sum_by only_for cells ≡ pages_at cells (ino, n)
  once_for [] rises = refl
  once_for (c ∷ cells) rises = go (ino == c.0) (c.0 == ino) refl refl (once_for cells (tail_rises c cells rises)) where
    go : (a b : Bool) → (ino == c.0) ≡ a → (c.0 == ino) ≡ b → sum_by only_for cells ≡ pages_at cells (ino, n)
        → sum_by only_for (c ∷ cells) ≡ pages_if n (cond b (Some c.1) (cell_of cells ino))
    go true true p q rest =
        let same = eqb-true ino c.0 p in
        let here : only_for c ≡ pages_for c.1.state.chain n = ap (λ (b : Bool). cond b (pages_for c.1.state.chain n) 0) p in
        let none = none_above cells (λ k d lt.
        let up : c.0 < (slice_index_or cells k d).0 = rises 0 (suc k) d (omega arith) (omega (arith, lt)) in omega (arith, same, up)) in
        omega (arith, none, here, sum_by-cons only_for c cells)
    go false false p q rest =
        let here : only_for c ≡ 0 = ap (λ (b : Bool). cond b (pages_for c.1.state.chain n) 0) p in
        omega (arith, rest, here, sum_by-cons only_for c cells)
    go true false p q rest = absurd (omega (arith, eqb-true ino c.0 p, eqb-false c.0 ino q))
    go false true p q rest = absurd (omega (arith, eqb-true c.0 ino q, eqb-false ino c.0 p))

-- ---- inode by inode

module _ (p : InodePlan) (plan : List InodePlan) (apart : AllByRecursion (λ (other : InodePlan). other.handle.ino ≢ p.handle.ino) plan) where
  needed_first : (c : ℕ × CellValue) → pages_needed (p ∷ plan) c ≡ only_for p.handle.ino (length p.items) c + pages_needed plan c
  needed_first c = go (p.handle.ino == c.0) refl where
    go : (b : Bool) → (p.handle.ino == c.0) ≡ b → pages_for c.1.state.chain (length (cond b p.items (items_for plan c.0)))
        ≡ cond b (pages_for c.1.state.chain (length p.items)) 0 + pages_needed plan c
    go true q =
        let none = subst (λ (ino : ℕ). length (items_for plan ino) ≡ 0) (eqb-true p.handle.ino c.0 q) (none_for plan p.handle.ino apart) in
        let nothing : pages_needed plan c ≡ 0 = ap (pages_for c.1.state.chain) none in omega (arith, nothing)
    go false q = omega arith

  first_for : (cells : List (ℕ × CellValue))
      → sum_by (pages_needed (p ∷ plan)) cells ≡ sum_by (only_for p.handle.ino (length p.items)) cells + sum_by (pages_needed plan) cells
  first_for [] = refl
  first_for (c ∷ cells) =
      omega (
        arith,
        first_for cells,
        needed_first c,
        sum_by-cons (only_for p.handle.ino (length p.items)) c cells,
        sum_by-cons (pages_needed plan) c cells,
        sum_by-cons (pages_needed (p ∷ plan)) c cells,
      )

none_needed : (cells : List (ℕ × CellValue)) → sum_by (pages_needed []) cells ≡ 0
none_needed [] = refl
none_needed (c ∷ cells) = omega (arith, none_needed cells, sum_by-cons (pages_needed []) c cells)

by_inode : (cells : List (ℕ × CellValue)) → Rising cells → (plan : List InodePlan) → AreApart plan
    → pages_wanted cells plan ≡ sum_by (λ (p : InodePlan). pages_at cells (p.handle.ino, length p.items)) plan
by_inode cells rises [] apart = none_needed cells
by_inode cells rises (p ∷ plan) apart =
    omega (
      arith,
      first_for p plan apart.0 cells,
      once_for p.handle.ino (length p.items) cells rises,
      by_inode cells rises plan apart.1,
      sum_by-cons (λ (q : InodePlan). pages_at cells (q.handle.ino, length q.items)) p plan,
    )

pub three_places : (plan : List InodePlan) → length (entry_counts plan) ≡ 3
three_places [] = refl
three_places (p ∷ []) = refl
three_places (p ∷ q ∷ []) = refl
three_places (p ∷ q ∷ r ∷ plan) = refl

-- three places are enough, and those that are left count nothing
at_places : (f : ℕ × ℕ → ℕ) → f (0, 0) ≡ 0 → (plan : List InodePlan) → length plan ≤ 3
    → sum_by f (entry_counts plan) ≡ sum_by (λ (p : InodePlan). f (p.handle.ino, length p.items)) plan
at_places f none [] few = omega (arith, none)
at_places f none (p ∷ []) few = omega (arith, none)
at_places f none (p ∷ q ∷ []) few = omega (arith, none)
at_places f none (p ∷ q ∷ r ∷ []) few = refl
at_places f none (p ∷ q ∷ r ∷ s ∷ plan) few = absurd (omega (arith, few))

none_at : (cell : Option CellValue) → pages_if 0 cell ≡ 0
none_at None = refl
none_at (Some c) = refl

pub wanted_by_inode : (cells : List (ℕ × CellValue)) (hand : Hand) (u : Update) → CanReady cells hand u
    → sum_by (pages_at cells) (entry_counts (planned_by cells hand u)) ≡ pages_wanted cells (planned_by cells hand u)
wanted_by_inode cells hand u can =
    let plan = planned_by cells hand u in
    let few_apart = few_apart_by cells hand u can in
    omega (
      arith,
      at_places (pages_at cells) (none_at (cell_of cells 0)) plan few_apart.few,
      by_inode cells can.lent.rising plan few_apart.apart,
    )
