-- What is planned, cell by cell, is what the call plans.
use Rattle.std.proofs.Common.{◌≡◌, ◌≢◌, ℕ, zero, suc, ◌+◌, ◌<◌, ◌==◌, Bool, true, false, cond, List, [], ◌∷◌, Option, Some, None, length, arith, refl, ap, subst, sym, ◌∙◌}
use Rattle.std.specs.Prelude.{option_map, unwrap_or}
use Rattle.std.specs.List.{AllByRecursion}
use Rattle.std.specs.Option.{IsSome}
use Rattle.std.proofs.lemmas.Bool.{eqb-true}
use Rattle.nv_alloc.specs.declared.hand.Hand.{Hand}
use Rattle.nv_base.specs.declared.numbers.Handle.{Handle}
use Rattle.nv_entry.specs.declared.item.Item.{Item}
use Rattle.nv_cell.specs.Cell.{CellValue, log_of}
use Rattle.nv_calls.specs.AllCalls.{plan}
use Rattle.nv_calls.specs.Cells.{AreCells, ino_at}
use Rattle.nv_calls.specs.Committed.{cell_place_of}
use Rattle.nv_calls.specs.Locked.{handles_made_by as made_handles}
use Rattle.nv_calls.specs.Nodes.{block_in, cell_of, nodes_in, slot_by, slots_by}
use Rattle.nv_calls.specs.Plan.{AreApart, AreFewApart}
use Rattle.nv_calls.specs.Prepared.{CanReady, HasNumberFor, cell_plans, handle_in, if_items, handle_made_by, makes, no_handle, planned_by, plans_by, taken_by}
use Rattle.nv_calls.specs.PublishedSlots.{PublishAlike, planned_in}
use Rattle.nv_calls.specs.Ready.{ArePlaced, CellCommitValue, no_plan, plan_at}
use Rattle.nv_calls.specs.Slots.{InodeSlot, items_for, place_in}
use Rattle.nv_calls.specs.Updates.{blank_call}
use Rattle.nv_calls.specs.declared.plan.InodePlan.{InodePlan}
use Rattle.nv_calls.specs.declared.update.Update.{Update}
use Rattle.nv_calls.specs.declared.update.Update.TheVariants as update
use Rattle.nv_calls.proofs.Apart.{all_apart}
use Rattle.nv_calls.proofs.CellCommits.{all_at, all_by, if_some}
use Rattle.nv_calls.proofs.Passed.{IsThere}
use Rattle.nv_calls.proofs.Places.{placed}
use Rattle.nv_calls.proofs.PlannedHeld.{IsHeld, all_held, empty_apart, held_by, held_there, one_handle_in}
use Rattle.nv_calls.proofs.PlansByCell.{plans_all, plans_placed}
use Rattle.nv_calls.proofs.Published.{ino_rises, items_at, items_none}

pub all_map : {X : Type 0} (P Q : X → Type 0) → ((x : X) → P x → Q x) → (xs : List X) → AllByRecursion P xs → AllByRecursion Q xs
all_map P Q f [] all = tt
all_map P Q f (x ∷ xs) all = (f x all.0, all_map P Q f xs all.1)

-- ---- the inode that is made

-- a handle whose slot is one of the cells, and empty
pub record IsNew (cells : List (ℕ × CellValue)) (made : Handle) : Type 0 where
  pub cell : CellValue
  pub is : cell_of cells made.ino ≡ Some cell
  pub own : made.generation ≡ cell.state.generation
  pub empty : log_of cell.state ≡ []

pub new_by : (cells : List (ℕ × CellValue)) (number : Option ℕ) → HasNumberFor cells true number
    → IsNew cells (unwrap_or (option_map (handle_in cells) number) no_handle)
new_by cells None has = absurd has
new_by cells (Some ino) has = go (cell_of cells ino) refl has.lent where
  go : (o : Option CellValue) → cell_of cells ino ≡ o → IsSome o → IsNew cells (handle_in cells ino)
  go None q some = cc
  go (Some c) q some =
      let slot : slots_by cells ino ≡ slot_by (Some c) = ap slot_by q in
      record {
        cell = c;
        is = q;
        own = ap (λ (s : InodeSlot). s.generation) slot;
        empty = sym (ap (λ (s : InodeSlot). s.log) slot) ∙ has.empty;
      }

pub made_new : (cells : List (ℕ × CellValue)) (number : Option ℕ) (u : Update) → HasNumberFor cells (makes u) number
    → AllByRecursion (IsNew cells) (made_handles (unwrap_or (handle_made_by cells number u) no_handle) (blank_call u))
made_new cells number (update.Create dir name mode) has = (new_by cells number has, tt)
made_new cells number (update.Mkdir dir name mode) has = (new_by cells number has, tt)
made_new cells number (update.Write file offset count) has = tt
made_new cells number (update.Size file size) has = tt
made_new cells number (update.Mode handle mode) has = tt
made_new cells number (update.Unlink dir name) has = tt
made_new cells number (update.Rmdir dir name) has = tt
made_new cells number (update.Rename from old to new) has = tt

-- ---- the places of cells with items

pub place_found : (plan : List InodePlan) (at : ℕ) (cells : List (ℕ × CellValue)) (k : ℕ) → k < length cells
    → 0 < length (items_for plan (ino_at cells k))
    → (j : ℕ) × (j < length (cell_plans plan at cells)) × (cell_place_of (cell_plans plan at cells) j ≡ at + k)
place_found plan at [] k lt some = absurd (omega (arith, lt))
place_found plan at (c ∷ cells) zero lt some =
    let rest : List CellCommitValue = cell_plans plan (at + 1) cells in
    let here : at ≡ at + zero = omega arith in
    subst (λ (ps : List CellCommitValue). (j : ℕ) × (j < length ps) × (cell_place_of ps j ≡ at + zero))
    (sym (if_some at (items_for plan c.0) rest some))
    (0, omega arith, here)
place_found plan at (c ∷ cells) (suc k) lt some =
    go (items_for plan c.0) (place_found plan (at + 1) cells k (omega (arith, lt)) some)
  where
    rest : List CellCommitValue
    rest = cell_plans plan (at + 1) cells

    more : at + 1 + k ≡ at + suc k
    more = omega arith

    go : (items : List Item) → (j : ℕ) × (j < length rest) × (cell_place_of rest j ≡ at + 1 + k)
        → (j : ℕ) × (j < length (if_items at items rest)) × (cell_place_of (if_items at items rest) j ≡ at + suc k)
    go [] r = (r.0, r.1, r.2 ∙ more)
    go (item ∷ items) r = (suc r.0, omega (arith, r.1), r.2 ∙ more)

pub plans_have_items : (plan : List InodePlan) (at : ℕ) (cells : List (ℕ × CellValue))
    → AllByRecursion (λ (p : CellCommitValue). 0 < length p.items) (cell_plans plan at cells)
plans_have_items plan at [] = tt
plans_have_items plan at (c ∷ cells) = go (items_for plan c.0) (plans_have_items plan (at + 1) cells) where
  go : (items : List Item) → AllByRecursion (λ (p : CellCommitValue). 0 < length p.items) (cell_plans plan (at + 1) cells)
      → AllByRecursion (λ (p : CellCommitValue). 0 < length p.items) (if_items at items (cell_plans plan (at + 1) cells))
  go [] rest = rest
  go (item ∷ items) rest = (omega arith, rest)

pub items_are : (plan : List InodePlan) (cells : List (ℕ × CellValue)) (j : ℕ) → j < length (cell_plans plan 0 cells)
    → (plan_at (cell_plans plan 0 cells) j).items ≡ items_for plan (ino_at cells (cell_place_of (cell_plans plan 0 cells) j))
items_are plan cells j lt =
    all_at (λ (p : CellCommitValue). p.items ≡ items_for plan (ino_at cells p.at)) (cell_plans plan 0 cells) no_plan j
    (plans_all (λ (n : ℕ) (items : List Item). items ≡ items_for plan (ino_at cells n)) plan cells (λ k small. refl)) lt

-- an inode with items has a cell
held_for : (cells : List (ℕ × CellValue)) (plan : List InodePlan) (ino : ℕ) → AllByRecursion (λ (p : InodePlan). IsHeld cells p.handle) plan
    → 0 < length (items_for plan ino) → (k : ℕ) × (k < length cells) × (ino_at cells k ≡ ino)
held_for cells [] ino all some = absurd (omega (arith, some))
held_for cells (p ∷ plan) ino all some = go (p.handle.ino == ino) refl some (held_for cells plan ino all.1) where
  go : (b : Bool) → (p.handle.ino == ino) ≡ b → 0 < length (cond b p.items (items_for plan ino))
      → (0 < length (items_for plan ino) → (k : ℕ) × (k < length cells) × (ino_at cells k ≡ ino))
      → (k : ℕ) × (k < length cells) × (ino_at cells k ≡ ino)
  go true q h rest = (all.0.k, all.0.within, all.0.ino ∙ eqb-true p.handle.ino ino q)
  go false q h rest = rest h

-- ---- alike

same_places : (a b : List InodePlan) → AreApart a → AreApart b → ((ino : ℕ) → items_for a ino ≡ items_for b ino) → (ino : ℕ)
    → place_in a ino ≡ place_in b ino
same_places a b x y items zero = (placed a x).first ∙ sym (placed b y).first
same_places a b x y items (suc n) =
    let e : suc n ≡ n + 1 = omega arith in
    omega (
      arith,
      ap (place_in a) e,
      ap (place_in b) e,
      (placed a x).next n,
      (placed b y).next n,
      same_places a b x y items n,
      ap (λ (xs : List Item). length xs) (items n),
    )

tail_placed : (cells : List (ℕ × CellValue)) (p : CellCommitValue) (plans : List CellCommitValue) → ArePlaced cells (p ∷ plans)
    → ArePlaced cells plans
tail_placed cells p plans placed = record {
  within = λ j lt. let more : suc j < length (p ∷ plans) = omega (arith, lt) in placed.within (suc j) more;
  rising = λ i j d lt within.
      let less : suc i < suc j = omega (arith, lt) in
      let more : suc j < length (p ∷ plans) = omega (arith, within) in
      placed.rising (suc i) (suc j) d less more;
}

other_numbers : (cells : List (ℕ × CellValue)) (ino : ℕ) (plans : List CellCommitValue)
    → AllByRecursion (λ (p : CellCommitValue). ino_at cells p.at ≢ ino) plans
    → AllByRecursion (λ (p : InodePlan). p.handle.ino ≢ ino) (planned_in cells plans)
other_numbers cells ino [] all = tt
other_numbers cells ino (p ∷ plans) all = (all.0, other_numbers cells ino plans all.1)

planned_apart : (cells : List (ℕ × CellValue)) (plans : List CellCommitValue) → AreCells cells → ArePlaced cells plans
    → AreApart (planned_in cells plans)
planned_apart cells [] are placed = tt
planned_apart cells (p ∷ plans) are placed = (
  other_numbers cells (ino_at cells p.at) plans
      (all_by (λ (q : CellCommitValue). ino_at cells q.at ≢ ino_at cells p.at) plans no_plan (λ j lt same.
      let less : 0 < suc j = omega arith in
      let more : suc j < length (p ∷ plans) = omega (arith, lt) in
      omega (arith, same, ino_rises cells (p ∷ plans) are placed 0 (suc j) less more))),
  planned_apart cells plans are (tail_placed cells p plans placed),
)

module _ (cells : List (ℕ × CellValue)) (hand : Hand) (u : Update) (can : CanReady cells hand u) where
  abbrev by_call : List InodePlan
  by_call = planned_by cells hand u

  abbrev by_cell : List CellCommitValue
  by_cell = plans_by cells hand u

  pub held : AllByRecursion (λ (p : InodePlan). IsHeld cells p.handle) by_call
  held =
      all_held (block_in cells) (nodes_in cells) (taken_by cells hand u) (IsHeld cells) (held_there cells) (blank_call u) can.passed
      (all_map (IsNew cells) (IsHeld cells) (λ made new. held_by cells made new.cell new.is new.own) _
      (made_new cells hand.ino u can.number))

  pub few_apart_by : AreFewApart by_call
  few_apart_by =
      all_apart (block_in cells) (nodes_in cells) (taken_by cells hand u) (one_handle_in cells) (blank_call u) can.passed
      (all_map (IsNew cells) (λ (made : Handle). (other : Handle) → IsThere (nodes_in cells other) → made.ino ≢ other.ino)
      (λ made new other t. empty_apart cells new.cell made.ino other new.is new.empty t) _ (made_new cells hand.ino u can.number))

  pub placed_by : ArePlaced cells by_cell
  placed_by = plans_placed by_call cells

  -- the place of an inode with items
  pub found_for : (ino : ℕ) → 0 < length (items_for by_call ino)
      → (j : ℕ) × (j < length by_cell) × (ino_at cells (cell_place_of by_cell j) ≡ ino)
  found_for ino some =
      let h = held_for cells by_call ino held some in
      let r = place_found by_call 0 cells h.0 h.1 (omega (arith, some, ap (λ (n : ℕ). length (items_for by_call n)) h.2)) in
      let place : cell_place_of by_cell r.0 ≡ h.0 = omega (arith, r.2) in
      (r.0, r.1, ap (ino_at cells) place ∙ h.2)

  same_items : (ino : ℕ) → items_for (planned_in cells by_cell) ino ≡ items_for by_call ino
  same_items ino = go (items_for by_call ino) refl where
    go : (items : List Item) → items_for by_call ino ≡ items → items_for (planned_in cells by_cell) ino ≡ items_for by_call ino
    go [] q =
        items_none cells by_cell ino (λ i li same.
        let some = all_at (λ (p : CellCommitValue). 0 < length p.items) by_cell no_plan i (plans_have_items by_call 0 cells) li in
        let none : (plan_at by_cell i).items ≡ [] = items_are by_call cells i li ∙ ap (items_for by_call) same ∙ q in
        omega (arith, some, ap (λ (xs : List Item). length xs) none)) ∙ sym q
    go (item ∷ items) q =
        let f = found_for ino (omega (arith, ap (λ (xs : List Item). length xs) q)) in
        items_at cells by_cell ino f.0 f.1 (λ i li same. omega
        (arith, ino_rises cells by_cell can.lent placed_by i f.0 li f.1, same, f.2)) f.2
        ∙ items_are by_call cells f.0 f.1 ∙ ap (items_for by_call) f.2

  pub publish_alike : PublishAlike (planned_in cells by_cell) by_call
  publish_alike = record {
    items = same_items;
    places = same_places (planned_in cells by_cell) by_call (planned_apart cells by_cell can.lent placed_by) few_apart_by.apart same_items;
  }
