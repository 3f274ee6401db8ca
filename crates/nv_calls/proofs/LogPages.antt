-- How many log pages a plan needs, cell by cell.
use Rattle.std.proofs.Common.{◌≡◌, ℕ, zero, suc, ◌+◌, ◌<◌, ◌≤◌, Bool, true, false, cond, List, [], ◌∷◌, Option, Some, None, length, replicate, get_or, drop, not, arith, refl, ap, ap₂, subst, sym, ◌∙◌, ◌^◌}
use Rattle.std.specs.List.{AllByRecursion, sum_by}
use Rattle.std.specs.Prelude.{option_map, unwrap_or}
use Rattle.std.proofs.Math.Seq.{drop-cons}
use Rattle.std.proofs.lemmas.List.{length-map}
use Rattle.std.proofs.lemmas.List.Sums.{sum_by-cons}
use Rattle.nv_alloc.specs.Block.{BlockValue, number_of, numbers_of}
use Rattle.nv_alloc.specs.declared.hand.Hand.{Hand}
use Rattle.nv_base.specs.declared.numbers.Handle.{Handle}
use Rattle.nv_cell.specs.Cell.{CellState, CellValue}
use Rattle.nv_entry.specs.declared.item.Item.{Item}
use Rattle.nv_entry.specs.declared.node.NodeCopy.{NodeCopy}
use Rattle.nv_log.specs.Chain.{pages_for}
use Rattle.nv_calls.specs.AllCalls.{blocks_wanted, ends_in_page, refusal}
use Rattle.nv_calls.specs.Cells.{state_at}
use Rattle.nv_calls.specs.Committed.{page_count}
use Rattle.nv_calls.specs.Nodes.{block_in, has_page_in, nodes_in}
use Rattle.nv_calls.specs.PagesWanted.{goes_on, pages_needed, pages_wanted}
use Rattle.nv_calls.specs.Prepared.{CanReady, HasNumberFor, HaveNoLessRoom, IsReadyBy, cell_plans, handle_in, if_items, makes, no_handle, planned_by, plans_by, taken_by}
use Rattle.nv_calls.specs.Ready.{CellCommitValue, ReadyValue}
use Rattle.nv_calls.specs.Refusals.{bytes_of, passes}
use Rattle.nv_calls.specs.Slots.{items_for}
use Rattle.nv_calls.specs.Updates.{blank_call}
use Rattle.nv_calls.specs.declared.plan.InodePlan.{InodePlan}
use Rattle.nv_calls.specs.declared.update.Update.{Update}
use Rattle.nv_calls.specs.declared.update.Update.TheVariants as update
use Rattle.nv_calls.specs.calls.Size.{cuts_page}
use Rattle.nv_calls.specs.calls.Write.{text_refusal}
use Rattle.nv_calls.proofs.FillRuns.{runs_begun}
use Rattle.nv_calls.proofs.Passed.{file_passed}
use Rattle.nv_calls.proofs.Within.{count_passed}

-- ---- the pages that a commit counts

-- the plans of cells, the first of which has a place among all
counted : (plan : List InodePlan) (all : List (ℕ × CellValue)) (at : ℕ) (cells : List (ℕ × CellValue))
    → ((k : ℕ) → k < length cells → state_at all (at + k) ≡ state_at cells k)
    → sum_by (page_count all) (cell_plans plan at cells) ≡ sum_by (pages_needed plan) cells
counted plan all at [] same = refl
counted plan all at (c ∷ cells) same = go (items_for plan c.0) refl (counted plan all (at + 1) cells later) where
  rest : List CellCommitValue
  rest = cell_plans plan (at + 1) cells

  later : (k : ℕ) → k < length cells → state_at all (at + 1 + k) ≡ state_at cells k
  later k lt =
      let place : at + 1 + k ≡ at + suc k = omega arith in
      ap (state_at all) place ∙ same (suc k) (omega (arith, lt))

  here : state_at all at ≡ c.1.state
  here = let place : at ≡ at + 0 = omega arith in ap (state_at all) place ∙ same 0 (omega arith)

  go : (items : List Item) → items_for plan c.0 ≡ items → sum_by (page_count all) rest ≡ sum_by (pages_needed plan) cells
      → sum_by (page_count all) (if_items at items rest) ≡ sum_by (pages_needed plan) (c ∷ cells)
  go [] q more =
      let none : pages_needed plan c ≡ 0 = ap (λ (xs : List Item). pages_for c.1.state.chain (length xs)) q in
      omega (arith, more, none, sum_by-cons (pages_needed plan) c cells)
  go (item ∷ items) q more =
      let p : CellCommitValue = record { at = at; items = item ∷ items; killed = [] } in
      let own : page_count all p ≡ pages_needed plan c =
      ap (λ (s : CellState). pages_for s.chain (length (item ∷ items))) here
      ∙ sym (ap (λ (xs : List Item). pages_for c.1.state.chain (length xs)) q) in
      omega (arith, more, own, sum_by-cons (page_count all) p rest, sum_by-cons (pages_needed plan) c cells)

-- what a plan needs is what its items, cell by cell, are counted to need
pub pages_by_plans : (cells now : List (ℕ × CellValue)) (hand : Hand) (u : Update) (plans : List CellCommitValue) → HaveNoLessRoom cells now
    → plans ≡ plans_by cells hand u → sum_by (page_count now) plans ≡ pages_wanted cells (planned_by cells hand u)
pages_by_plans cells now hand u plans more are =
    ap (λ (ps : List CellCommitValue). sum_by (page_count now) ps) are
    ∙ counted (planned_by cells hand u) now 0 cells (λ k lt.
    let place : 0 + k ≡ k = omega arith in
    ap (state_at now) place ∙ more.states k)

-- and what the commit of a call that is ready counts
pub pages_counted : (cells now : List (ℕ × CellValue)) (hand : Hand) (u : Update) (ready : ReadyValue) → HaveNoLessRoom cells now
    → IsReadyBy cells hand u now ready → sum_by (page_count now) ready.plans ≡ pages_wanted cells (planned_by cells hand u)
pages_counted cells now hand u ready more is = pages_by_plans cells now hand u ready.plans more is.plans

-- ---- what bounds them

-- a call that passes takes few blocks
few_if : (b : Bool) → (cond b 1 0) ≤ 1024
few_if true = omega arith
few_if false = omega arith

pub few_blocks : (block : ℕ) (nodes : Handle → Option NodeCopy) (present : Bool) (u : Update) → refusal block nodes (blank_call u) ≡ passes
    → blocks_wanted block nodes present (blank_call u) ≤ 1024
few_blocks block nodes present (update.Write file offset zero) passed = omega arith
few_blocks block nodes present (update.Write file offset (suc m)) passed =
    let f = file_passed (nodes file) (text_refusal block offset (0 ∷ replicate m 0)) passed in
    (count_passed block offset (length (0 ∷ replicate m 0)) f.1).0
few_blocks block nodes present (update.Size file size) passed = few_if (cuts_page block size present (bytes_of (nodes file)))
few_blocks block nodes present (update.Create dir name mode) passed = omega arith
few_blocks block nodes present (update.Mkdir dir name mode) passed = omega arith
few_blocks block nodes present (update.Mode handle mode) passed = omega arith
few_blocks block nodes present (update.Unlink dir name) passed = omega arith
few_blocks block nodes present (update.Rmdir dir name) passed = omega arith
few_blocks block nodes present (update.Rename from old to new) passed = omega arith

-- ---- what a plan is made with

made_by_number : (cells : List (ℕ × CellValue)) (b : Bool) (number : Option ℕ) → HasNumberFor cells b number
    → (unwrap_or (cond b (option_map (handle_in cells) number) None) no_handle).ino ≡ unwrap_or number 0
made_by_number cells true (Some ino) has = refl
made_by_number cells true None has = refl
made_by_number cells false number has = sym (ap (λ (n : Option ℕ). unwrap_or n 0) has)

pub made_number : (cells : List (ℕ × CellValue)) (hand : Hand) (u : Update) → CanReady cells hand u
    → (taken_by cells hand u).made.ino ≡ unwrap_or hand.ino 0
made_number cells hand u can = made_by_number cells (makes u) hand.ino can.number

pub blocks_below : (cells : List (ℕ × CellValue)) (hand : Hand) (u : Update) → CanReady cells hand u
    → length hand.«data».blocks ≤ 1024
blocks_below cells hand u can =
    let present = ends_in_page (has_page_in cells) (block_in cells) (blank_call u) in
    omega (arith, can.count, few_blocks (block_in cells) (nodes_in cells) present u can.passed)

-- ---- one more block

pub count_step : (next : Option ℕ) (numbers : List ℕ) (i number runs more total : ℕ) → i < length numbers → number ≡ get_or numbers i number
    → more ≡ cond (not (goes_on next number)) 1 0 → runs + runs_begun next (drop i numbers) ≡ total
    → runs + more + runs_begun (Some (number + 1)) (drop (i + 1) numbers) ≡ total
count_step next numbers i number runs more total lt is m h =
    go (goes_on next number) m (ap (λ (xs : List ℕ). runs + runs_begun next xs) (sym at) ∙ h) where
      place : suc i ≡ i + 1
      place = omega arith

      at : drop i numbers ≡ number ∷ drop (i + 1) numbers
      at = drop-cons numbers i number lt
          ∙ ap₂ (λ (x : ℕ) (n : ℕ). x ∷ drop n numbers) (sym is) place

      go : (b : Bool) → more ≡ cond (not b) 1 0 → runs + (cond b 0 1 + runs_begun (Some (number + 1)) (drop (i + 1) numbers)) ≡ total
          → runs + more + runs_begun (Some (number + 1)) (drop (i + 1) numbers) ≡ total
      go true k sum = omega (arith, k, sum)
      go false k sum = omega (arith, k, sum)

pub number_at : (blocks : List BlockValue) (i : ℕ) (b : BlockValue) → i < length blocks → b ≡ get_or blocks i b
    → b.number ≡ get_or (numbers_of blocks) i b.number
number_at [] i b lt is = absurd (omega (arith, lt))
number_at (x ∷ blocks) zero b lt is = ap (λ (y : BlockValue). y.number) is
number_at (x ∷ blocks) (suc i) b lt is = number_at blocks i b (omega (arith, lt)) is

-- one more block, of a queue whose first ones are counted
pub block_step : (blocks : List BlockValue) (i : ℕ) (b : BlockValue) (next : Option ℕ) (runs more number : ℕ) → i < length blocks
    → b ≡ get_or blocks i b → number ≡ b.number → more ≡ cond (not (goes_on next number)) 1 0
    → runs + runs_begun next (drop i (numbers_of blocks)) ≡ runs_begun None (numbers_of blocks)
    → runs + more + runs_begun (Some (number + 1)) (drop (i + 1) (numbers_of blocks)) ≡ runs_begun None (numbers_of blocks)
block_step blocks i b next runs more number lt is n m h =
    count_step next (numbers_of blocks) i number runs more (runs_begun None (numbers_of blocks))
    (omega (arith, lt, length-map blocks number_of))
    (n ∙ number_at blocks i b lt is ∙ ap (get_or (numbers_of blocks) i) (sym n)) m h

pub block_small : (blocks : List BlockValue) (i : ℕ) (b : BlockValue) → i < length blocks → b ≡ get_or blocks i b
    → AllByRecursion (λ (x : BlockValue). x.number < 2 ^ 32) blocks → b.number < 2 ^ 32
block_small [] i b lt is all = absurd (omega (arith, lt))
block_small (x ∷ blocks) zero b lt is all = subst (λ (y : BlockValue). y.number < 2 ^ 32) (sym is) all.0
block_small (x ∷ blocks) (suc i) b lt is all = block_small blocks i b (omega (arith, lt)) is all.1

pub numbers_small : (blocks : List BlockValue) → AllByRecursion (λ (x : BlockValue). x.number < 2 ^ 32) blocks
    → AllByRecursion (λ (n : ℕ). n < 2 ^ 32) (numbers_of blocks)
numbers_small [] all = tt
numbers_small (x ∷ blocks) all = (all.0, numbers_small blocks all.1)
