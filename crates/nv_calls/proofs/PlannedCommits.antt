-- A call that is ready can be committed.
use Rattle.std.proofs.Common.{◌≡◌, ◌≢◌, ℕ, ◌<◌, ◌≤◌, ◌⊎◌, inl, inr, ◌==◌, nat_lt, Bool, true, false, cond, List, [], ◌∷◌, ◌++◌, Option, Some, None, length, take, arith, refl, ap, subst, sym, ◌∙◌}
use Rattle.std.specs.List.{AllByRecursion}
use Rattle.std.specs.Option.{IsSome, option_map}
use Rattle.std.proofs.lemmas.Bool.{eq-eqb, eqb-true, ltb-false, ltb-true}
use Rattle.std.proofs.lemmas.List.{append-nil}
use Rattle.nv_alloc.specs.Block.{numbers_of}
use Rattle.nv_alloc.specs.Queue.{QueueValue}
use Rattle.nv_alloc.specs.declared.hand.Hand.{Hand}
use Rattle.nv_base.specs.declared.numbers.Handle.{Handle}
use Rattle.nv_book.specs.Book.{BookValue}
use Rattle.nv_entry.specs.declared.item.Item.{Item}
use Rattle.nv_cell.specs.Cell.{CellValue}
use Rattle.nv_cell.specs.Room.{IsReadyToAppend}
use Rattle.nv_calls.specs.AllCalls.{plan}
use Rattle.nv_calls.specs.CanCommit.{AllowsCommit, CanCommit, CanTakeItems, HasNumber, IsSettledFor, TakesCommit, goes, numbers_of_all}
use Rattle.nv_calls.specs.Cells.{ino_at, no_cell, value_at}
use Rattle.nv_calls.specs.Commit.{stamp_of}
use Rattle.nv_calls.specs.Committed.{cell_place_of}
use Rattle.nv_calls.specs.Nodes.{block_in, nodes_in}
use Rattle.nv_calls.specs.Plan.{AreApart, plan_blocks}
use Rattle.nv_calls.specs.Prepared.{CanReady, HasNumberFor, HaveNoLessRoom, IsReadyBy, IsStill, handle_in, makes, planned_by, plans_by, taken_by}
use Rattle.nv_calls.specs.Ready.{ArePlaced, CellCommitValue, ReadyValue, no_plan, plan_at}
use Rattle.nv_calls.specs.Slots.{items_for}
use Rattle.nv_calls.specs.Steps.{HaveBlocks, numbers_in}
use Rattle.nv_calls.specs.Updates.{blank_call}
use Rattle.nv_calls.specs.declared.plan.InodePlan.{InodePlan}
use Rattle.nv_calls.specs.declared.update.Update.{Update}
use Rattle.nv_calls.specs.declared.update.Update.TheVariants as update
use Rattle.nv_calls.proofs.CellCommits.{all_at}
use Rattle.nv_calls.proofs.Composed.{cells_stay, places_stay}
use Rattle.nv_calls.proofs.Keeps.{keeps_to_its}
use Rattle.nv_calls.proofs.PlannedAlike.{few_apart_by, found_for, items_are, placed_by, plans_have_items}
use Rattle.nv_calls.proofs.PlannedGoes.{goes_for, one_goes}
use Rattle.nv_calls.proofs.PlansByCell.{items_all, plans_all}
use Rattle.nv_calls.proofs.Published.{ino_rises}

-- ---- blocks

nil_left : {X : Type 0} (xs ys : List X) → xs ++ ys ≡ [] → (xs ≡ []) × (ys ≡ [])
nil_left [] ys h = (refl, h)
nil_left (x ∷ xs) ys h = cc

-- a plan that uses no blocks uses none in any of its inodes
none_used : (plan : List InodePlan) → plan_blocks plan ≡ [] → AllByRecursion (λ (p : InodePlan). numbers_in p.items ≡ []) plan
none_used [] h = tt
none_used (p ∷ plan) h = let both = nil_left (numbers_in p.items) (plan_blocks plan) h in (both.0, none_used plan both.1)

none_in_all : (plans : List CellCommitValue) → AllByRecursion (λ (p : CellCommitValue). numbers_in p.items ≡ []) plans
    → numbers_of_all plans ≡ []
none_in_all [] all = refl
none_in_all (p ∷ plans) all = ap (λ (xs : List ℕ). xs ++ numbers_of_all plans) all.0 ∙ none_in_all plans all.1

-- the front blocks of a queue are those of all plans, where no more than one plan uses any
joined : (plans : List CellCommitValue) (block : ℕ) (queue : QueueValue)
    → (length plans ≤ 1) ⊎ AllByRecursion (λ (p : CellCommitValue). numbers_in p.items ≡ []) plans
    → AllByRecursion (λ (p : CellCommitValue). HaveBlocks p.items block queue) plans
    → numbers_of (take (length (numbers_of_all plans)) queue.blocks) ≡ numbers_of_all plans
joined [] block queue few have = refl
joined (p ∷ []) block queue few have =
    let one : numbers_of_all (p ∷ []) ≡ numbers_in p.items = append-nil (numbers_in p.items) in
    ap (λ (xs : List ℕ). numbers_of (take (length xs) queue.blocks)) one ∙ have.0.numbers ∙ sym one
joined (p ∷ q ∷ plans) block queue (inl few) have = absurd (omega (arith, few))
joined (p ∷ q ∷ plans) block queue (inr none) have =
    let all : numbers_of_all (p ∷ q ∷ plans) ≡ [] = none_in_all (p ∷ q ∷ plans) none in
    ap (λ (xs : List ℕ). numbers_of (take (length xs) queue.blocks)) all ∙ sym all

-- ---- the number of a new inode

number_is : (cells : List (ℕ × CellValue)) (b : Bool) (number : Option ℕ) → HasNumberFor cells b number
    → number ≡ option_map (λ (h : Handle). h.ino) (cond b (option_map (handle_in cells) number) None)
number_is cells true (Some ino) has = refl
number_is cells true None has = refl
number_is cells false number has = has

made_some : (cells : List (ℕ × CellValue)) (b : Bool) (number : Option ℕ) → IsSome (cond b (option_map (handle_in cells) number) None)
    → b ≡ true
made_some cells true number h = refl
made_some cells false number h = cc

module _ (cells : List (ℕ × CellValue)) (hand : Hand) (u : Update) (can : CanReady cells hand u) where
  abbrev by_call : List InodePlan
  by_call = planned_by cells hand u

  abbrev by_cell : List CellCommitValue
  by_cell = plans_by cells hand u

  placed_cells : ArePlaced cells by_cell
  placed_cells = placed_by cells hand u can

  abbrev ino : ℕ → ℕ
  ino j = ino_at cells (cell_place_of by_cell j)

  rises : (i j : ℕ) → i < j → j < length by_cell → ino i < ino j
  rises i j lt within = ino_rises cells by_cell can.lent placed_cells i j lt within

  one_place : (i j : ℕ) → i < length by_cell → j < length by_cell → ino i ≡ ino j → i ≡ j
  one_place i j li lj same = go (nat_lt i j) (nat_lt j i) refl refl where
    go : (a b : Bool) → nat_lt i j ≡ a → nat_lt j i ≡ b → i ≡ j
    go true b q r = absurd (omega (arith, rises i j (ltb-true i j q) lj, same))
    go false true q r = absurd (omega (arith, rises j i (ltb-true j i r) li, same))
    go false false q r = omega (arith, ltb-false i j q, ltb-false j i r)

  -- ---- an inode that is made

  two_plans : (p q : InodePlan) (rest : List InodePlan) → by_call ≡ p ∷ q ∷ rest → 0 < length p.items → 0 < length q.items → 2 ≤ length by_cell
  two_plans p q rest is some_p some_q = go (nat_lt 1 (length by_cell)) refl where
    apart : q.handle.ino ≢ p.handle.ino
    apart = (subst AreApart is (few_apart_by cells hand u can).apart).0.0

    own_p : items_for (p ∷ q ∷ rest) p.handle.ino ≡ p.items
    own_p = rw (eq-eqb p.handle.ino p.handle.ino refl) refl

    other : (b : Bool) → (p.handle.ino == q.handle.ino) ≡ b → cond b p.items (items_for (q ∷ rest) q.handle.ino) ≡ q.items
    other true e = absurd (apart (sym (eqb-true p.handle.ino q.handle.ino e)))
    other false e = rw (eq-eqb q.handle.ino q.handle.ino refl) refl

    own_q : items_for (p ∷ q ∷ rest) q.handle.ino ≡ q.items
    own_q = other (p.handle.ino == q.handle.ino) refl

    at_p : (j : ℕ) × (j < length by_cell) × (ino j ≡ p.handle.ino)
    at_p =
        found_for cells hand u can p.handle.ino
        (omega (arith, some_p, ap (λ (xs : List InodePlan). length (items_for xs p.handle.ino)) is, ap (λ (xs : List Item). length xs) own_p))

    at_q : (j : ℕ) × (j < length by_cell) × (ino j ≡ q.handle.ino)
    at_q =
        found_for cells hand u can q.handle.ino
        (omega (arith, some_q, ap (λ (xs : List InodePlan). length (items_for xs q.handle.ino)) is, ap (λ (xs : List Item). length xs) own_q))

    go : (b : Bool) → nat_lt 1 (length by_cell) ≡ b → 2 ≤ length by_cell
    go true e = omega (arith, ltb-true 1 (length by_cell) e)
    go false e =
        let same : at_p.0 ≡ at_q.0 = omega (arith, ltb-false 1 (length by_cell) e, at_p.1, at_q.1) in
        absurd (apart (sym at_q.2 ∙ ap ino (sym same) ∙ at_p.2))

  -- ---- blocks

  no_numbers : AllByRecursion (λ (p : InodePlan). numbers_in p.items ≡ []) by_call
      → AllByRecursion (λ (p : CellCommitValue). numbers_in p.items ≡ []) by_cell
  no_numbers none =
      plans_all (λ (n : ℕ) (items : List Item). numbers_in items ≡ []) by_call cells
      (λ k lt. items_all (λ (items : List Item). numbers_in items ≡ []) by_call (ino_at cells k) refl none)

  some_items : (j : ℕ) → j < length by_cell → 0 < length (items_for by_call (ino j))
  some_items j lt =
      let some = all_at (λ (p : CellCommitValue). 0 < length p.items) by_cell no_plan j (plans_have_items by_call 0 cells) lt in
      omega (arith, some, ap (λ (xs : List Item). length xs) (items_are by_call cells j lt))

  only_one : (p : InodePlan) → by_call ≡ p ∷ [] → length by_cell ≤ 1
  only_one p is = go (nat_lt 1 (length by_cell)) refl where
    own : (j : ℕ) → j < length by_cell → ino j ≡ p.handle.ino
    own j lt = by (p.handle.ino == ino j) refl (subst (λ (xs : List InodePlan). 0 < length (items_for xs (ino j))) is (some_items j lt)) where
      by : (b : Bool) → (p.handle.ino == ino j) ≡ b → 0 < length (cond b p.items []) → ino j ≡ p.handle.ino
      by true q h = sym (eqb-true p.handle.ino (ino j) q)
      by false q h = absurd (omega (arith, h))

    go : (b : Bool) → nat_lt 1 (length by_cell) ≡ b → length by_cell ≤ 1
    go true q =
        let second : 1 < length by_cell = ltb-true 1 (length by_cell) q in
        let first : 0 < length by_cell = omega (arith, second) in
        let less : 0 < 1 = omega arith in
        absurd (omega (arith, rises 0 1 less second, own 0 first, own 1 second))
    go false q = ltb-false 1 (length by_cell) q

  few_use_blocks : (length by_cell ≤ 1) ⊎ AllByRecursion (λ (p : CellCommitValue). numbers_in p.items ≡ []) by_cell
  few_use_blocks = go by_call refl where
    go : (plan : List InodePlan) → by_call ≡ plan
        → (length by_cell ≤ 1) ⊎ AllByRecursion (λ (p : CellCommitValue). numbers_in p.items ≡ []) by_cell
    go [] q =
        let none : plan_blocks by_call ≡ [] = ap plan_blocks q in
        inr (no_numbers (none_used by_call none))
    go (p ∷ []) q = inl (only_one p q)
    go (p ∷ r ∷ plan) q =
        let keeps = keeps_to_its (block_in cells) (nodes_in cells) (taken_by cells hand u) (blank_call u) in
        inr (no_numbers (none_used by_call (keeps.several (omega (arith, ap (λ (xs : List InodePlan). length xs) q)))))

  -- ---- an inode that goes

  one_gone : (i j : ℕ) → i < length by_cell → j < length by_cell → goes (plan_at by_cell i).items ≡ true
      → goes (plan_at by_cell j).items ≡ true
      → i ≡ j
  one_gone i j li lj gi gj =
      let one = one_goes (block_in cells) (nodes_in cells) (taken_by cells hand u) (blank_call u) in
      let first : ino i ≡ one.ino = goes_for by_call one.ino (ino i) one.only (sym (ap goes (items_are by_call cells i li)) ∙ gi) in
      let second : ino j ≡ one.ino = goes_for by_call one.ino (ino j) one.only (sym (ap goes (items_are by_call cells j lj)) ∙ gj) in
      one_place i j li lj (first ∙ sym second)

-- what makes an inode plans for its directory and for it
pair_planned : (cells : List (ℕ × CellValue)) (hand : Hand) (u : Update) → CanReady cells hand u → makes u ≡ true
    → 2 ≤ length (plans_by cells hand u)
pair_planned cells hand (update.Create dir name mode) can h =
    two_plans cells hand (update.Create dir name mode) can _ _ [] refl (omega arith) (omega arith)
pair_planned cells hand (update.Mkdir dir name mode) can h =
    two_plans cells hand (update.Mkdir dir name mode) can _ _ [] refl (omega arith) (omega arith)
pair_planned cells hand (update.Write file offset count) can h = cc
pair_planned cells hand (update.Size file size) can h = cc
pair_planned cells hand (update.Mode handle mode) can h = cc
pair_planned cells hand (update.Unlink dir name) can h = cc
pair_planned cells hand (update.Rmdir dir name) can h = cc
pair_planned cells hand (update.Rename from old to new) can h = cc

module _ (cells now : List (ℕ × CellValue)) (hand : Hand) (u : Update) (book : BookValue) (cpu : ℕ) (ready : ReadyValue)
    (can : CanReady cells hand u) (more : HaveNoLessRoom cells now) (is : IsReadyBy cells hand u now ready)
    (allows : AllowsCommit now book cpu ready) where
  abbrev plans : List CellCommitValue
  plans = ready.plans

  abbrev cell_of_plan : ℕ → CellValue
  cell_of_plan j = value_at now (cell_place_of plans j)

  same_plans : plans_by cells hand u ≡ plans
  same_plans = sym is.plans

  placed_now : ArePlaced now plans
  placed_now =
      subst (ArePlaced now) same_plans
      (places_stay cells now (plans_by cells hand u) (plans_by cells hand u) more.count (record { count = refl; places = λ j. refl })
      (placed_by cells hand u can))

  still : (j : ℕ) → j < length plans → IsStill (block_in cells) (cell_of_plan j).state
  still j lt =
      let within : cell_place_of plans j < length cells = omega (arith, placed_now.within j lt, more.count) in
      subst (IsStill (block_in cells)) (sym (more.states (cell_place_of plans j)))
      (all_at (λ (c : ℕ × CellValue). IsStill (block_in cells) c.1.state) cells no_cell (cell_place_of plans j) can.still within)

  takes : (j : ℕ) → j < length plans → TakesCommit (stamp_of book.state) (cell_of_plan j)
  takes j lt = all_at (λ (p : CellCommitValue). TakesCommit (stamp_of book.state) (value_at now p.at)) plans no_plan j allows.take lt

  have : (j : ℕ) → j < length plans → HaveBlocks (plan_at plans j).items (block_in cells) ready.hand.«data»
  have j lt = all_at (λ (p : CellCommitValue). HaveBlocks p.items (block_in cells) ready.hand.«data») plans no_plan j is.blocks lt

  each : (j : ℕ) → j < length plans → CanTakeItems (stamp_of book.state) ready.hand (plan_at plans j).items (cell_of_plan j)
  each j lt = record {
    ready = all_at (λ (p : CellCommitValue). IsReadyToAppend p.items (value_at now p.at)) plans no_plan j is.cells_ready lt;
    later = (takes j lt).later;
    within = (have j lt).within;
    block_size = (have j lt).size ∙ sym (still j lt).size;
    page_size = is.page_size ∙ sym (still j lt).size;
  }

  settled : (j : ℕ) → j < length plans → IsSettledFor (plan_at plans j).items (cell_of_plan j).state
  settled j lt = record {
    some = all_at (λ (p : CellCommitValue). 0 < length p.items) plans no_plan j
        (subst (AllByRecursion (λ (p : CellCommitValue). 0 < length p.items)) same_plans
        (plans_have_items (planned_by cells hand u) 0 cells)) lt;
    settled = (still j lt).settled;
    version = (takes j lt).version;
    generation = λ goes. (takes j lt).generation;
  }

  has_number : HasNumber ready
  has_number = record {
    number = ap (λ (h : Hand). h.ino) is.hand_same.same ∙ number_is cells (makes u) hand.ino can.number
        ∙ ap (option_map (λ (h : Handle). h.ino)) (sym is.made);
    linked = λ some.
        subst (λ (ps : List CellCommitValue). 2 ≤ length ps) same_plans
        (pair_planned cells hand u can (made_some cells (makes u) hand.ino (subst IsSome is.made some)));
  }

  pub can_commit : CanCommit now book cpu ready
  can_commit = record {
    cells_are = cells_stay cells now more.count more.inos can.lent;
    placed = placed_now;
    entered = allows.entered;
    append = record {
      each = each;
      blocks = joined plans (block_in cells) ready.hand.«data»
          (subst (λ (ps : List CellCommitValue). (length ps ≤ 1) ⊎ AllByRecursion
          (λ (p : CellCommitValue). numbers_in p.items ≡ []) ps) same_plans
          (few_use_blocks cells hand u can)) is.blocks;
      pages = is.pages;
      few = is.few;
    };
    settled = settled;
    records = omega (arith, is.need, allows.records);
    freed = omega (arith, is.need, is.room);
    chain = is.chain;
    number = has_number;
    one_goes = subst (λ (ps : List CellCommitValue). (i j : ℕ) → i < length ps → j < length ps → goes (plan_at ps i).items ≡ true
        → goes (plan_at ps j).items ≡ true → i ≡ j)
        same_plans (one_gone cells hand u can);
    cpu_is = allows.cpu_is;
    closed = allows.closed;
  }
