-- What is planned, cell by cell, and cells that get more room.
use Rattle.std.proofs.Common.{◌≡◌, ◌≢◌, ℕ, zero, suc, ◌+◌, ◌<◌, ◌==◌, Bool, true, false, List, [], ◌∷◌, ◌++◌, length, drop, map, arith, refl, ap, subst, sym, ◌∙◌, append_assoc, eq-eqb, get_or, slice_index_or}
use Rattle.std.specs.List.{AllByRecursion, AllPairs}
use Rattle.std.proofs.lemmas.Bool.{eqb-false, eqb-true}
use Rattle.nv_entry.specs.declared.item.Item.{Item}
use Rattle.nv_cell.specs.Cell.{CellRoom, CellValue}
use Rattle.nv_cell.specs.Room.{HasNoLess, IsReadyToAppend}
use Rattle.nv_calls.specs.Cells.{OnlyAt, ino_at, state_at, value_at, with_value}
use Rattle.nv_calls.specs.Prepared.{HaveNoLessRoom, cell_plans, if_items}
use Rattle.nv_calls.specs.Ready.{CellCommitValue, no_plan, plan_at}
use Rattle.nv_calls.specs.Slots.{items_for}
use Rattle.nv_calls.specs.declared.plan.InodePlan.{InodePlan}

-- ---- lists

pub all_at : {X : Type 0} (P : X → Type 0) (xs : List X) (d : X) (j : ℕ) → AllByRecursion P xs → j < length xs → P (slice_index_or xs j d)
all_at P [] d j all lt = absurd (omega (arith, lt))
all_at P (x ∷ xs) d zero all lt = all.0
all_at P (x ∷ xs) d (suc j) all lt = all_at P xs d j all.1 (omega (arith, lt))

pub all_by : {X : Type 0} (P : X → Type 0) (xs : List X) (d : X) → ((j : ℕ) → j < length xs → P (slice_index_or xs j d))
    → AllByRecursion P xs
all_by P [] d each = tt
all_by P (x ∷ xs) d each = (each 0 (omega arith), all_by P xs d (λ j lt. each (suc j) (omega (arith, lt))))

apart_by : (a b : ℕ) → (a == b) ≡ false → a ≢ b
apart_by a b q = eqb-false a b q

-- what is at a place, whatever stands past the end
pub at_place : {X : Type 0} (xs : List X) (i : ℕ) (x d : X) → i < length xs → x ≡ get_or xs i x → x ≡ slice_index_or xs i d
at_place [] i x d lt is = absurd (omega (arith, lt))
at_place (y ∷ xs) zero x d lt is = is
at_place (y ∷ xs) (suc i) x d lt is = at_place xs i x d (omega (arith, lt)) is

pub map_twice : {X Y Z : Type 0} (f : Y → Z) (g : X → Y) (xs : List X) → map f (map g xs) ≡ map (λ x. f (g x)) xs
map_twice f g [] = refl
map_twice f g (x ∷ xs) = ap (λ zs. f (g x) ∷ zs) (map_twice f g xs)

-- ---- cell by cell

plan_step : (plan : List InodePlan) (at k : ℕ) (cells : List (ℕ × CellValue)) → k < length cells
    → cell_plans plan at (drop k cells) ≡ if_items at (items_for plan (ino_at cells k)) (cell_plans plan (at + 1) (drop (k + 1) cells))
plan_step plan at k [] lt = absurd (omega (arith, lt))
plan_step plan at zero (c ∷ cells) lt = refl
plan_step plan at (suc k) (c ∷ cells) lt =
    let more : suc k + 1 ≡ suc (k + 1) = omega arith in
    plan_step plan at k cells (omega (arith, lt))
    ∙ ap (λ (n : ℕ). if_items at (items_for plan (ino_at cells k)) (cell_plans plan (at + 1) (drop n (c ∷ cells)))) (sym more)

abbrev pub plan_for : ℕ → List Item → CellCommitValue
plan_for at items = record { at = at; items = items; killed = [] }

pub if_some : (at : ℕ) (items : List Item) (plans : List CellCommitValue) → 0 < length items
    → if_items at items plans ≡ plan_for at items ∷ plans
if_some at [] plans some = absurd (omega (arith, some))
if_some at (item ∷ items) plans some = refl

pub if_none : (at : ℕ) (items : List Item) (plans : List CellCommitValue) → length items ≡ 0 → if_items at items plans ≡ plans
if_none at [] plans none = refl
if_none at (item ∷ items) plans none = absurd (omega (arith, none))

-- one cell more of those gone over
module _ (plan : List InodePlan) (at : ℕ) (cells : List (ℕ × CellValue)) (plans : List CellCommitValue) (items : List Item)
    (lt : at < length cells)
    (is : items ≡ items_for plan (ino_at cells at)) (so_far : plans ++ cell_plans plan at (drop at cells) ≡ cell_plans plan 0 cells) where
  step : plans ++ if_items at items (cell_plans plan (at + 1) (drop (at + 1) cells)) ≡ cell_plans plan 0 cells
  step =
      ap (λ (xs : List Item). plans ++ if_items at xs (cell_plans plan (at + 1) (drop (at + 1) cells))) is
      ∙ ap (λ (ps : List CellCommitValue). plans ++ ps) (sym (plan_step plan at at cells lt)) ∙ so_far

  pub with_items : 0 < length items → (plans ++ plan_for at items ∷ []) ++ cell_plans plan (at + 1)
      (drop (at + 1) cells) ≡ cell_plans plan 0 cells
  with_items some =
      append_assoc plans (plan_for at items ∷ []) (cell_plans plan (at + 1) (drop (at + 1) cells))
      ∙ ap (λ (ps : List CellCommitValue). plans ++ ps) (sym (if_some at items (cell_plans plan (at + 1) (drop (at + 1) cells)) some)) ∙ step

  pub without_items : length items ≡ 0 → plans ++ cell_plans plan (at + 1) (drop (at + 1) cells) ≡ cell_plans plan 0 cells
  without_items none =
      ap (λ (ps : List CellCommitValue). plans ++ ps) (sym (if_none at items (cell_plans plan (at + 1) (drop (at + 1) cells)) none)) ∙ step

-- ---- cells with more room

pub value_beside : (cells : List (ℕ × CellValue)) (k j : ℕ) (v : CellValue) → (j ≡ k → ⊥)
    → value_at (with_value cells k v) j ≡ value_at cells j
value_beside [] k j v apart = refl
value_beside (c ∷ cells) zero zero v apart = absurd (apart refl)
value_beside (c ∷ cells) zero (suc j) v apart = refl
value_beside (c ∷ cells) (suc k) zero v apart = refl
value_beside (c ∷ cells) (suc k) (suc j) v apart = value_beside cells k j v (λ e. apart (ap (λ (n : ℕ). suc n) e))

pub ino_everywhere : (cells : List (ℕ × CellValue)) (k j : ℕ) (v : CellValue) → ino_at (with_value cells k v) j ≡ ino_at cells j
ino_everywhere [] k j v = refl
ino_everywhere (c ∷ cells) zero zero v = refl
ino_everywhere (c ∷ cells) zero (suc j) v = refl
ino_everywhere (c ∷ cells) (suc k) zero v = refl
ino_everywhere (c ∷ cells) (suc k) (suc j) v = ino_everywhere cells k j v

pub count_same : (cells : List (ℕ × CellValue)) (k : ℕ) (v : CellValue) → length (with_value cells k v) ≡ length cells
count_same [] k v = refl
count_same (c ∷ cells) zero v = refl
count_same (c ∷ cells) (suc k) v = ap (λ (n : ℕ). suc n) (count_same cells k v)

no_less : (room : CellRoom) → HasNoLess room room
no_less room = record { pages = omega arith; entries = omega arith; parts = omega arith; runs = omega arith; killed = omega arith }

no_less_more : (a b c : CellRoom) → HasNoLess a b → HasNoLess b c → HasNoLess a c
no_less_more a b c x y = record {
  pages = omega (arith, x.pages, y.pages);
  entries = omega (arith, x.entries, y.entries);
  parts = omega (arith, x.parts, y.parts);
  runs = omega (arith, x.runs, y.runs);
  killed = omega (arith, x.killed, y.killed);
}

pub more_none : (cells : List (ℕ × CellValue)) → HaveNoLessRoom cells cells
more_none cells = record { count = refl; inos = λ k. refl; states = λ k. refl; rooms = λ k. no_less (value_at cells k).room }

differ : (b : Bool) → b ≡ true → b ≡ false → ⊥
differ true h k = cc
differ false h k = cc

-- the cells are ready for one plan more
pub ready_more : (plans : List CellCommitValue) (now new : List (ℕ × CellValue)) (index k : ℕ) → index < length plans
    → k ≡ (plan_at plans index).at → AllPairs (λ a b. a.at < b.at) plans → OnlyAt k now new
    → ((j : ℕ) → j < index → IsReadyToAppend (plan_at plans j).items (value_at now (plan_at plans j).at))
    → IsReadyToAppend (plan_at plans index).items (value_at new k)
    → (j : ℕ) → j < index + 1
    → IsReadyToAppend (plan_at plans j).items (value_at new (plan_at plans j).at)
ready_more plans now new index k lt is rising only before here j less = go (j == index) refl where
  go : (b : Bool) → (j == index) ≡ b → IsReadyToAppend (plan_at plans j).items (value_at new (plan_at plans j).at)
  go true q =
      let same : index ≡ j = sym (eqb-true j index q) in
      subst (λ (n : ℕ). IsReadyToAppend (plan_at plans n).items (value_at new (plan_at plans n).at)) same
      (subst (λ (n : ℕ). IsReadyToAppend (plan_at plans index).items (value_at new n)) is here)
  go false q =
      let lower : j < index = omega (arith, less, apart_by j index q) in
      let rises : (plan_at plans j).at < (plan_at plans index).at = rising j index no_plan lower lt in
      subst (λ (v : CellValue). IsReadyToAppend (plan_at plans j).items v)
      (sym (ap (λ (xs : List (ℕ × CellValue)). value_at xs (plan_at plans j).at) only
      ∙ value_beside now k (plan_at plans j).at (value_at new k) (λ e. omega (arith, e, rises, is))))
      (before j lower)

pub more_again : (cells now new : List (ℕ × CellValue)) (k : ℕ) → HaveNoLessRoom cells now → OnlyAt k now new
    → state_at new k ≡ state_at now k
    → HasNoLess (value_at now k).room (value_at new k).room
    → HaveNoLessRoom cells new
more_again cells now new k more only state room = record {
  count = ap length only ∙ count_same now k (value_at new k) ∙ more.count;
  inos = λ j. ap (λ (xs : List (ℕ × CellValue)). ino_at xs j) only ∙ ino_everywhere now k j (value_at new k) ∙ more.inos j;
  states = λ j. at_state j (j == k) refl;
  rooms = λ j. at_room j (j == k) refl;
}
  where
    beside : (j : ℕ) → (j == k) ≡ false → value_at new j ≡ value_at now j
    beside j q = ap (λ (xs : List (ℕ × CellValue)). value_at xs j) only
        ∙ value_beside now k j (value_at new k) (λ e. differ (j == k) (eq-eqb j k e) q)

    at_state : (j : ℕ) (b : Bool) → (j == k) ≡ b → state_at new j ≡ state_at cells j
    at_state j true q =
        let e : j ≡ k = eqb-true j k q in
        ap (λ (n : ℕ). state_at new n) e ∙ state ∙ more.states k ∙ ap (λ (n : ℕ). state_at cells n) (sym e)
    at_state j false q = ap (λ (v : CellValue). v.state) (beside j q) ∙ more.states j

    at_room : (j : ℕ) (b : Bool) → (j == k) ≡ b → HasNoLess (value_at cells j).room (value_at new j).room
    at_room j true q =
        let e : k ≡ j = sym (eqb-true j k q) in
        subst (λ (n : ℕ). HasNoLess (value_at cells n).room (value_at new n).room) e
        (no_less_more (value_at cells k).room (value_at now k).room (value_at new k).room (more.rooms k) room)
    at_room j false q =
        subst (λ (v : CellValue). HasNoLess (value_at cells j).room v.room) (sym (beside j q)) (more.rooms j)
