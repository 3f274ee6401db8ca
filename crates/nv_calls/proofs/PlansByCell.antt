-- What holds of the plans of the cells.
use Rattle.std.proofs.Common.{◌≡◌, ℕ, zero, suc, ◌+◌, ◌*◌, ◌^◌, ◌<◌, ◌≤◌, ◌⊎◌, inl, inr, ◌==◌, Bool, true, false, cond, List, [], ◌∷◌, length, take, arith, ap, subst, sym, ◌∙◌}
use Rattle.std.specs.List.{AllByRecursion, AllPairs, sum_by}
use Rattle.std.proofs.lemmas.List.{length-map, take_all}
use Rattle.std.proofs.lemmas.List.Sums.{sum_by-cons}
use Rattle.nv_alloc.specs.Block.{numbers_of}
use Rattle.nv_alloc.specs.Queue.{QueueValue}
use Rattle.nv_entry.specs.declared.item.Item.{Item}
use Rattle.nv_cell.specs.Cell.{CellValue}
use Rattle.nv_calls.specs.Cells.{ino_at}
use Rattle.nv_calls.specs.Prepared.{cell_plans, if_items}
use Rattle.nv_calls.specs.Ready.{ArePlaced, CellCommitValue, no_plan}
use Rattle.nv_calls.specs.Slots.{items_for}
use Rattle.nv_calls.specs.Steps.{HaveBlocks, numbers_in}
use Rattle.nv_calls.specs.declared.plan.InodePlan.{InodePlan}
use Rattle.nv_calls.proofs.CellCommits.{all_at, plan_for}
use Rattle.nv_calls.proofs.Fitting.{AreFit}

-- ---- all plans

if_all : (P : ℕ → List Item → Type 0) (at : ℕ) (items : List Item) (plans : List CellCommitValue) → P at items
    → AllByRecursion (λ (p : CellCommitValue). P p.at p.items) plans
    → AllByRecursion (λ (p : CellCommitValue). P p.at p.items) (if_items at items plans)
if_all P at [] plans here rest = rest
if_all P at (item ∷ items) plans here rest = (here, rest)

plans_from : (P : ℕ → List Item → Type 0) (plan : List InodePlan) (at : ℕ) (cells : List (ℕ × CellValue))
    → ((k : ℕ) → k < length cells → P (at + k) (items_for plan (ino_at cells k)))
    → AllByRecursion (λ (p : CellCommitValue). P p.at p.items) (cell_plans plan at cells)
plans_from P plan at [] each = tt
plans_from P plan at (c ∷ cells) each =
    let here : at + 0 ≡ at = omega arith in
    if_all P at (items_for plan c.0) (cell_plans plan (at + 1) cells)
    (subst (λ (n : ℕ). P n (items_for plan c.0)) here (each 0 (omega arith)))
    (plans_from P plan (at + 1) cells (λ k lt.
    let next : at + suc k ≡ at + 1 + k = omega arith in
    subst (λ (n : ℕ). P n (items_for plan (ino_at cells k))) next (each (suc k) (omega (arith, lt)))))

-- what holds of each cell with its items holds of each plan
pub plans_all : (P : ℕ → List Item → Type 0) (plan : List InodePlan) (cells : List (ℕ × CellValue))
    → ((k : ℕ) → k < length cells → P k (items_for plan (ino_at cells k)))
    → AllByRecursion (λ (p : CellCommitValue). P p.at p.items) (cell_plans plan 0 cells)
plans_all P plan cells each =
    plans_from P plan 0 cells (λ k lt.
    let same : k ≡ 0 + k = omega arith in subst (λ (n : ℕ). P n (items_for plan (ino_at cells k))) same (each k lt))

pub items_all : (Q : List Item → Type 0) (plan : List InodePlan) (ino : ℕ) → Q [] → AllByRecursion (λ (p : InodePlan). Q p.items) plan
    → Q (items_for plan ino)
items_all Q [] ino none all = none
items_all Q (p ∷ plan) ino none all = go (p.handle.ino == ino) (items_all Q plan ino none all.1) where
  go : (b : Bool) → Q (items_for plan ino) → Q (cond b p.items (items_for plan ino))
  go true rest = all.0
  go false rest = rest

-- ---- by rising place

abbrev Rising : List CellCommitValue → Type 0
Rising plans = AllPairs (λ (a b : CellCommitValue). a.at < b.at) plans

if_rising : (at : ℕ) (items : List Item) (plans : List CellCommitValue) → AllByRecursion (λ (p : CellCommitValue). at < p.at) plans
    → Rising plans → Rising (if_items at items plans)
if_rising at [] plans above rising i j d lt within = rising i j d lt within
if_rising at (item ∷ items) plans above rising zero zero d lt within = absurd (omega (arith, lt))
if_rising at (item ∷ items) plans above rising zero (suc j) d lt within =
    all_at (λ (p : CellCommitValue). at < p.at) plans d j above (omega (arith, within))
if_rising at (item ∷ items) plans above rising (suc i) zero d lt within = absurd (omega (arith, lt))
if_rising at (item ∷ items) plans above rising (suc i) (suc j) d lt within = rising i j d (omega (arith, lt)) (omega (arith, within))

plans_rise : (plan : List InodePlan) (at : ℕ) (cells : List (ℕ × CellValue)) → Rising (cell_plans plan at cells)
plans_rise plan at [] i j d lt within = absurd (omega (arith, within))
plans_rise plan at (c ∷ cells) i j d lt within =
    if_rising at (items_for plan c.0) (cell_plans plan (at + 1) cells)
    (plans_from (λ (n : ℕ) (items : List Item). at < n) plan (at + 1) cells (λ k lt. omega arith))
    (plans_rise plan (at + 1) cells) i j d lt within

pub plans_placed : (plan : List InodePlan) (cells : List (ℕ × CellValue)) → ArePlaced cells (cell_plans plan 0 cells)
plans_placed plan cells =
    let plans : List CellCommitValue = cell_plans plan 0 cells in
    record {
      within = λ j lt. all_at (λ (p : CellCommitValue). p.at < length cells) plans no_plan j
          (plans_all (λ (n : ℕ) (items : List Item). n < length cells) plan cells (λ k small. small)) lt;
      rising = plans_rise plan 0 cells;
    }

-- ---- few entries

abbrev pub entry_count : List CellCommitValue → ℕ
entry_count plans = sum_by (λ (p : CellCommitValue). length p.items) plans

if_few : (at : ℕ) (items : List Item) (plans : List CellCommitValue)
    → entry_count (if_items at items plans) ≤ length items + entry_count plans
if_few at [] plans = omega arith
if_few at (item ∷ items) plans =
    omega (arith, sum_by-cons (λ (p : CellCommitValue). length p.items) (plan_for at (item ∷ items)) plans)

few_from : (plan : List InodePlan) (at most : ℕ) (cells : List (ℕ × CellValue)) → ((ino : ℕ) → length (items_for plan ino) ≤ most)
    → entry_count (cell_plans plan at cells) ≤ length cells * most
few_from plan at most [] each = omega arith
few_from plan at most (c ∷ cells) each =
    omega (arith, if_few at (items_for plan c.0) (cell_plans plan (at + 1) cells), each c.0, few_from plan (at + 1) most cells each)

pub few_entries : (plan : List InodePlan) (cells : List (ℕ × CellValue)) → length cells ≤ 4
    → ((ino : ℕ) → length (items_for plan ino) ≤ 1025) → entry_count (cell_plans plan 0 cells) < 2 ^ 32
few_entries plan cells few each =
    let all : entry_count (cell_plans plan 0 cells) ≤ length cells * 1025 = few_from plan 0 1025 cells each in
    omega (arith, all, few)

-- ---- blocks

-- items that fit the blocks of a queue have them in front
pub fit_have : (items : List Item) (block : ℕ) (queue : QueueValue) → queue.size ≡ block → AreFit (numbers_of queue.blocks) items
    → HaveBlocks items block queue
fit_have items block queue size fit = record { size = size; numbers = go fit.numbers; within = fit.within } where
  go : (numbers_in items ≡ numbers_of queue.blocks) ⊎ (numbers_in items ≡ [])
      → numbers_of (take (length (numbers_in items)) queue.blocks) ≡ numbers_in items
  go (inl e) =
      let count : length (numbers_in items) ≡ length queue.blocks = ap (λ (xs : List ℕ). length xs) e ∙ length-map queue.blocks _ in
      ap numbers_of (take_all (length (numbers_in items)) queue.blocks (omega (arith, count))) ∙ sym e
  go (inr e) = ap (λ (xs : List ℕ). numbers_of (take (length xs) queue.blocks)) e ∙ sym e
