-- The slots of a commit's cells are those that its plan makes.
use Rattle.std.proofs.Common.{◌≡◌, ℕ, zero, suc, ◌+◌, ◌<◌, ◌≤◌, ◌==◌, nat_lt, Bool, true, false, cond, List, [], ◌∷◌, ◌++◌, length, map, take, drop, arith, refl, ap, ap₂, sym, ◌∙◌, subst}
use Rattle.std.specs.List.{sum_by}
use Rattle.std.proofs.lemmas.Bool.{eqb-true, eq-eqb, ltb-false, ltb-true}
use Rattle.std.proofs.lemmas.List.{append-nil, get_or-drop, get_or-take, length-drop, length-take}
use Rattle.std.proofs.lemmas.List.Sums.{sum_by-cons, sum_by-take-drop}
use Rattle.nv_cell.specs.Cell.{CellState, CellValue, log_of, published}
use Rattle.nv_entry.specs.declared.item.Entry.{Entry}
use Rattle.nv_entry.specs.declared.item.Item.{Item}
use Rattle.nv_log.specs.Chain.{log}
use Rattle.nv_book.specs.Book.{BookValue}
use Rattle.nv_calls.specs.declared.plan.InodePlan.{InodePlan}
use Rattle.nv_calls.specs.CanCommit.{CanCommit}
use Rattle.nv_calls.specs.Cells.{AreCells, ino_at, no_cell, state_at}
use Rattle.nv_calls.specs.Commit.{CommitValue, begun, stamp_of}
use Rattle.nv_calls.specs.Committed.{entry_count, grown, killing, place_before, cell_place_of}
use Rattle.nv_calls.specs.Plan.{planned}
use Rattle.nv_calls.specs.PublishedSlots.{AreOfSlots, PublishesPlans, handle_at, planned_in, slots_after}
use Rattle.nv_calls.specs.Ready.{ArePlaced, CellCommitValue, ReadyValue, no_plan, plan_at}
use Rattle.nv_calls.specs.Retiring.{retired}
use Rattle.nv_calls.specs.Slots.{InodeSlot, entries_of, items_for, place_in}
use Rattle.nv_calls.specs.Views.{slot_of}
use Rattle.nv_calls.proofs.Composed.{own_grown, sums}
use Rattle.nv_cell.specs.Readers.{is_erased}
use Rattle.nv_calls.proofs.Retires.{chain_stays, generation_stays}

-- ---- sums over plans

none_sum : (f : CellCommitValue → ℕ) (xs : List CellCommitValue) → ((i : ℕ) → i < length xs → f (plan_at xs i) ≡ 0) → sum_by f xs ≡ 0
none_sum f [] none = refl
none_sum f (x ∷ xs) none =
    let first : 0 < length (x ∷ xs) = omega arith in
    omega (
      arith,
      sum_by-cons f x xs,
      none 0 first,
      none_sum f xs (λ i lt. let more : suc i < length (x ∷ xs) = omega (arith, lt) in none (suc i) more),
    )

mapped_sum : (f : InodePlan → ℕ) (g : CellCommitValue → InodePlan) (xs : List CellCommitValue) → sum_by f (map g xs) ≡ sum_by (λ x. f (g x)) xs
mapped_sum f g [] = refl
mapped_sum f g (x ∷ xs) =
    sum_by-cons f (g x) (map g xs) ∙ ap (λ (n : ℕ). f (g x) + n) (mapped_sum f g xs) ∙ sym (sum_by-cons (λ y. f (g y)) x xs)

-- what passes a bound is counted whole, and the rest not at all
counted : (b : Bool) (n : ℕ) → b ≡ true → cond b n 0 ≡ n
counted true n is = refl
counted false n is = cc

left_out : (b : Bool) (n : ℕ) → b ≡ false → cond b n 0 ≡ 0
left_out true n is = cc
left_out false n is = refl

lt-is : (a b : ℕ) → a < b → nat_lt a b ≡ true
lt-is a b lt = go (nat_lt a b) refl where
  go : (t : Bool) → nat_lt a b ≡ t → t ≡ true
  go true q = refl
  go false q = absurd (omega (arith, ltb-false a b q, lt))

ge-is : (a b : ℕ) → b ≤ a → nat_lt a b ≡ false
ge-is a b le = go (nat_lt a b) refl where
  go : (t : Bool) → nat_lt a b ≡ t → t ≡ false
  go true q = absurd (omega (arith, ltb-true a b q, le))
  go false q = refl

module _ (cells : List (ℕ × CellValue)) (plans : List CellCommitValue) (are : AreCells cells) (placed : ArePlaced cells plans) where
  abbrev plan : CellCommitValue → InodePlan
  plan p = planned (handle_at cells p.at) p.items

  abbrev ino : ℕ → ℕ
  ino j = ino_at cells (cell_place_of plans j)

  -- numbers rise from cell to cell, and so from plan to plan
  pub ino_rises : (i j : ℕ) → i < j → j < length plans → ino i < ino j
  ino_rises i j lt lj = are.rising (cell_place_of plans i) (cell_place_of plans j) no_cell (placed.rising i j no_plan lt lj) (placed.within j lj)

  ino_differs : (i k : ℕ) → i < length cells → k < length cells → (i ≡ k → ⊥) → ino_at cells i ≡ ino_at cells k → ⊥
  ino_differs i k li lk differ same = go (nat_lt i k) refl where
    go : (b : Bool) → nat_lt i k ≡ b → ⊥
    go true q = let less = are.rising i k no_cell (ltb-true i k q) lk in omega (arith, less, same)
    go false q =
        let below : k < i = omega (arith, ltb-false i k q) in
        let less = are.rising k i no_cell below li in
        omega (arith, less, same)

  -- ---- where the entries of a plan begin

  pub place_is : (j : ℕ) → j < length plans → place_in (planned_in cells plans) (ino j) ≡ place_before plans j
  place_is j lj =
      let before : InodePlan → ℕ = λ p. cond (nat_lt p.handle.ino (ino j)) (length p.items) 0 in
      let weigh : CellCommitValue → ℕ = λ p. before (plan p) in
      let all : place_in (planned_in cells plans) (ino j) ≡ sum_by weigh plans = mapped_sum before plan plans in
      let low : (i : ℕ) → i < length (take j plans) → weigh (plan_at (take j plans) i) ≡ entry_count (plan_at (take j plans) i) =
      λ i li.
      let ij : i < j = omega (arith, li, length-take j plans) in
      let e : plan_at (take j plans) i ≡ plan_at plans i = get_or-take j plans i no_plan ij in
      subst (λ (p : CellCommitValue). weigh p ≡ entry_count p) (sym e)
      (counted (nat_lt (ino i) (ino j)) (entry_count (plan_at plans i)) (lt-is (ino i) (ino j) (ino_rises i j ij lj)))
      in
      let high : (i : ℕ) → i < length (drop j plans) → weigh (plan_at (drop j plans) i) ≡ 0 =
      λ i li.
      let within : j + i < length plans = omega (arith, li, length-drop j plans, lj) in
      let e : plan_at (drop j plans) i ≡ plan_at plans (j + i) = get_or-drop j plans i no_plan in
      subst (λ (p : CellCommitValue). weigh p ≡ 0) (sym e)
      (left_out (nat_lt (ino (j + i)) (ino j)) (entry_count (plan_at plans (j + i))) (ge-is (ino (j + i)) (ino j) (behind i within)))
      in
      let front_up : sum_by weigh (take j plans) ≤ place_before plans j =
      sums weigh entry_count (take j plans) (take j plans) refl (λ i li. omega (arith, low i li)) in
      let front_down : place_before plans j ≤ sum_by weigh (take j plans) =
      sums entry_count weigh (take j plans) (take j plans) refl (λ i li. omega (arith, low i li)) in
      omega (arith, all, sum_by-take-drop weigh plans j, none_sum weigh (drop j plans) high, front_up, front_down)
    where
      behind : (i : ℕ) → j + i < length plans → ino j ≤ ino (j + i)
      behind zero within = let e : j + zero ≡ j = omega arith in omega (arith, ap ino e)
      behind (suc i) within =
          let lt : j < j + suc i = omega arith in
          omega (arith, ino_rises j (j + suc i) lt within)

-- ---- the items of a plan

pub items_none : (cells : List (ℕ × CellValue)) (plans : List CellCommitValue) (number : ℕ)
    → ((i : ℕ) → i < length plans → ino_at cells (cell_place_of plans i) ≡ number → ⊥) → items_for (planned_in cells plans) number ≡ []
items_none cells [] number none = refl
items_none cells (p ∷ plans) number none =
    go (ino_at cells p.at == number) refl
    (items_none cells plans number (λ i lt. let more : suc i < length (p ∷ plans) = omega (arith, lt) in none (suc i) more)) where
      go : (b : Bool) → (ino_at cells p.at == number) ≡ b → items_for (planned_in cells plans) number ≡ []
          → cond b p.items (items_for (planned_in cells plans) number) ≡ []
      go true q rest = let first : 0 < length (p ∷ plans) = omega arith in absurd (none 0 first (eqb-true (ino_at cells p.at) number q))
      go false q rest = rest

pub items_at : (cells : List (ℕ × CellValue)) (plans : List CellCommitValue) (number j : ℕ) → j < length plans
    → ((i : ℕ) → i < j → ino_at cells (cell_place_of plans i) ≡ number → ⊥) → ino_at cells (cell_place_of plans j) ≡ number
    → items_for (planned_in cells plans) number ≡ (plan_at plans j).items
items_at cells [] number j lt before own = absurd (omega (arith, lt))
items_at cells (p ∷ plans) number zero lt before own = rw (eq-eqb (ino_at cells p.at) number own) refl
items_at cells (p ∷ plans) number (suc j) lt before own =
    go (ino_at cells p.at == number) refl
    (items_at cells plans number j (omega (arith, lt)) (λ i li. let more : suc i < suc j = omega (arith, li) in before
    (suc i) more) own) where
      go : (b : Bool) → (ino_at cells p.at == number) ≡ b → items_for (planned_in cells plans) number ≡ (plan_at plans j).items
          → cond b p.items (items_for (planned_in cells plans) number) ≡ (plan_at plans j).items
      go true q rest = let first : 0 < suc j = omega arith in absurd (before 0 first (eqb-true (ino_at cells p.at) number q))
      go false q rest = rest

-- ---- slots

slot_is : (generation other : ℕ) (a b : List Entry) → generation ≡ other → a ≡ b
    → (let s : InodeSlot = record { generation = generation; log = a } in s) ≡ (let s : InodeSlot = record { generation = other; log = b } in s)
slot_is generation other a b g l = ap₂ (λ (n : ℕ) (es : List Entry). let s : InodeSlot = record { generation = n; log = es } in s) g l

-- a cell that is not erased keeps its slot when its parts are retired
not_erased : (b : Bool) (cell other : CellState) → b ≡ false → cond b other cell ≡ cell
not_erased true cell other q = cc
not_erased false cell other q = refl

module _ (cells : List (ℕ × CellValue)) (book : BookValue) (cpu : ℕ) (ready : ReadyValue) (slots : ℕ → InodeSlot)
    (can : CanCommit cells book cpu ready) (of : AreOfSlots cells slots) where
  abbrev start : CommitValue
  start = begun (stamp_of book.state) ready

  abbrev at : ℕ → ℕ
  at j = cell_place_of start.plans j

  abbrev made : List InodePlan
  made = planned_in cells start.plans

  -- a slot for which nothing is planned stays
  stays : (ino : ℕ) → items_for made ino ≡ [] → slots_after cells start slots ino ≡ slots ino
  stays ino none =
      slot_is (slots ino).generation (slots ino).generation _ (slots ino).log refl
      (ap (λ (items : List Item). (slots ino).log ++ entries_of start.stamp.commit start.stamp.epoch (place_in made ino) items) none
      ∙ append-nil (slots ino).log)

  planned_is : (j : ℕ) → j < length start.plans
      → slot_of (published (grown cells start j).state) ≡ slots_after cells start slots (ino_at cells (at j))
  planned_is j lt =
      let g = own_grown cells book cpu ready can cells start j lt in
      let ino : ℕ = ino_at cells (at j) in
      let own : slots ino ≡ slot_of (state_at cells (at j)) = of (at j) (can.placed.within j lt) in
      let items : items_for made ino ≡ (plan_at start.plans j).items =
      items_at cells start.plans ino j lt
      (λ i li same. let less = ino_rises cells start.plans can.cells_are can.placed i j li lt in omega (arith, less, same)) refl in
      let place : place_in made ino ≡ place_before start.plans j = place_is cells start.plans can.cells_are can.placed j lt in
      let entries : List Entry = entries_of start.stamp.commit start.stamp.epoch (place_before start.plans j)
      (plan_at start.plans j).items in
      let log : log_of (published (grown cells start j).state)
      ≡ (slots ino).log ++ entries_of start.stamp.commit start.stamp.epoch (place_in made ino) (items_for made ino) =
      g.after ∙ ap (λ (s : InodeSlot). s.log ++ entries) (sym own)
      ∙ ap₂ (λ (n : ℕ) (xs : List Item). (slots ino).log ++ entries_of start.stamp.commit start.stamp.epoch n xs) (sym place) (sym items) in
      slot_is (grown cells start j).state.generation (slots ino).generation _ _ (g.grows.generation
      ∙ ap (λ (s : InodeSlot). s.generation) (sym own)) log

  pub publishes : PublishesPlans cells start slots
  publishes = record {
    planned = planned_is;
    others = λ k lt un.
        sym (of k lt)
        ∙ sym (stays (ino_at cells k) (items_none cells start.plans (ino_at cells k)
        (λ i li same. ino_differs cells start.plans can.cells_are can.placed (at i) k (can.placed.within i li) lt (un i li) same)));
    beyond = λ ino none. stays ino (items_none cells start.plans ino (λ i li same. none (at i) (can.placed.within i li) same));
    kept = λ living j lt stays_there.
        let k = killing cells start j in
        let after : CellState = retired living k.ino start.stamp.epoch k.parts k.cell in
        ap slot_of (not_erased (is_erased after) after _ stays_there)
        ∙ slot_is after.generation k.cell.generation (log_of after) (log_of k.cell)
        (generation_stays living k.ino start.stamp.epoch k.parts k.cell)
        (ap log (chain_stays living k.ino start.stamp.epoch k.parts k.cell))
        ∙ planned_is j lt;
  }
