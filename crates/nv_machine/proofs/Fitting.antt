-- The blocks of a plan are in the hand, for pages that a file can have.
use Rattle.std.proofs.Common.{◌≡◌, ◌⊎◌, ℕ, ◌+◌, ◌^◌, ◌<◌, ◌≤◌, ◌==◌, ◌/◌, ◌++◌, ◌∙◌, Bool, true, false, List, [], ◌∷◌, Option, Some, None, add-one, ap, arith, cond, if◌then◌else◌, inl, inr, length, length-append, nat_lt, refl, subst, sym, take}
use Rattle.std.proofs.lemmas.Bool.{eqb-true, ltb-false}
use Rattle.std.proofs.lemmas.List.{append-nil}
use Rattle.std.proofs.lemmas.List.Concat.{flat_map-append, length-flat_map}
use Rattle.std.proofs.lemmas.List.FromFn.{length-range_with_len}
use Rattle.std.proofs.lemmas.List.Sums.{sum_by-cons}
use Rattle.std.specs.List.{AllByRecursion, flat_map, range_with_len, sum_by}
use Rattle.std.specs.Prelude.{Ok, Err}
use Rattle.nv_alloc.specs.Numbers.{IsRising}
use Rattle.nv_base.specs.declared.limits.TheConstants.{FILE_PAGES}
use Rattle.nv_base.specs.declared.numbers.Handle.{Handle}
use Rattle.nv_calls.specs.AllCalls.{blocks_wanted, effect, plan, refusal}
use Rattle.nv_calls.specs.Locked.{KeepsToIts}
use Rattle.nv_calls.specs.Plain.{Change, same_handle}
use Rattle.nv_calls.specs.Plan.{plan_blocks, run_if, block_runs_of, stretches, with_number}
use Rattle.nv_calls.specs.Refusals.{Check as Tests, found, passes}
use Rattle.nv_calls.specs.Slots.{items_for}
use Rattle.nv_calls.specs.calls.Rename.{bound_plan, move_plan, own_place, replaced_plan}
use Rattle.nv_calls.specs.declared.call.Call.{Call}
use Rattle.nv_calls.specs.declared.call.Call.TheVariants as call
use Rattle.nv_calls.specs.declared.plan.InodePlan.{InodePlan}
use Rattle.nv_calls.specs.declared.allocation.Allocation.{Allocation}
use Rattle.nv_calls.proofs.Keeps.{keeps_to_its}
use Rattle.nv_calls.proofs.Within.{size_within, write_within}
use Rattle.nv_cell.specs.Append.{IsWithinFile}
use Rattle.nv_entry.specs.Blocks.{item_blocks}
use Rattle.nv_entry.specs.Sound.{blocks_of, write_items}
use Rattle.nv_entry.specs.declared.item.Item.{Item}
use Rattle.nv_entry.specs.declared.item.Item.TheVariants.{SetSize}
use Rattle.nv_entry.specs.declared.item.BlockRun.{BlockRun}
use Rattle.nv_entry.specs.declared.node.NodeCopy.{NodeCopy}
use Rattle.nv_machine.proofs.PlansOfBlocks.{leave_within, replaced_within}
use Rattle.nv_machine.specs.Hands.{FitsFile, planned_blocks}
use Rattle.nv_machine.specs.Kinds.{check_ending}

-- ---- runs have no more blocks than were taken

weight : List (ℕ × ℕ) → ℕ
weight [] = 0
weight (run ∷ runs) = run.1 + weight runs

one_more : (n : ℕ) (runs : List (ℕ × ℕ)) → weight (with_number n runs) ≡ weight runs + 1
unfolding weight
one_more n [] = refl
one_more n (run ∷ runs) = go (n + 1 == run.0) where
  go : (b : Bool) → weight (if b then (n, run.1 + 1) ∷ runs else (n, 1) ∷ run ∷ runs) ≡ run.1 + weight runs + 1
  go true = omega arith
  go false = omega arith

weight_is : (numbers : List ℕ) → weight (stretches numbers) ≡ length numbers
unfolding weight
weight_is [] = refl
weight_is (n ∷ numbers) = one_more n (stretches numbers) ∙ (let h = weight_is numbers in omega (arith, h))

abbrev made_run : (ℕ × ℕ) → List BlockRun
made_run run = run_if run.0 run.1 (nat_lt (run.0 + run.1) (2 ^ 64)) refl

one_run : (start len : ℕ) (b : Bool) (is : nat_lt (start + len) (2 ^ 64) ≡ b) → length (blocks_of (run_if start len b is)) ≤ len
one_run start len true is = omega (arith, length-append (range_with_len start len) [], length-range_with_len start len)
one_run start len false is = omega arith

runs_few : (runs : List (ℕ × ℕ)) → length (blocks_of (flat_map made_run runs)) ≤ weight runs
unfolding weight
runs_few [] = omega arith
runs_few (run ∷ runs) =
    let both = ap length (flat_map-append (λ (x : BlockRun). range_with_len x.start x.len) (made_run run) (flat_map made_run runs)) in
    omega (
      arith,
      both,
      length-append (blocks_of (made_run run)) (blocks_of (flat_map made_run runs)),
      runs_few runs,
      one_run run.0 run.1 (nat_lt (run.0 + run.1) (2 ^ 64)) refl,
    )

pub runs_short : (numbers : List ℕ) → length (blocks_of (block_runs_of numbers)) ≤ length numbers
runs_short numbers = omega (arith, runs_few (stretches numbers), weight_is numbers)

-- ---- where they fit, runs have just the blocks that were taken

expand : List (ℕ × ℕ) → List ℕ
expand [] = []
expand (run ∷ runs) = range_with_len run.0 run.1 ++ expand runs

expand_more : (n : ℕ) (runs : List (ℕ × ℕ)) → expand (with_number n runs) ≡ n ∷ expand runs
unfolding expand
expand_more n [] = refl
expand_more n (run ∷ runs) = go (n + 1 == run.0) refl where
  go : (b : Bool) → (n + 1 == run.0) ≡ b
      → expand (if b then (n, run.1 + 1) ∷ runs else (n, 1) ∷ run ∷ runs) ≡ n ∷ (range_with_len run.0 run.1 ++ expand runs)
  go true q =
      ap (λ (k : ℕ). range_with_len n k ++ expand runs) (add-one run.1)
      ∙ ap (λ (k : ℕ). n ∷ (range_with_len k run.1 ++ expand runs)) (eqb-true (n + 1) run.0 q)
  go false q = refl

expand_is : (numbers : List ℕ) → expand (stretches numbers) ≡ numbers
unfolding expand
expand_is [] = refl
expand_is (n ∷ numbers) = expand_more n (stretches numbers) ∙ ap (λ (l : List ℕ). n ∷ l) (expand_is numbers)

abbrev EndBelow : ℕ → List (ℕ × ℕ) → Type 0
EndBelow many runs = AllByRecursion (λ (run : ℕ × ℕ). run.0 + run.1 ≤ many) runs

end_more : (many n : ℕ) (runs : List (ℕ × ℕ)) → n < many → EndBelow many runs → EndBelow many (with_number n runs)
end_more many n [] lt h = (omega (arith, lt), tt)
end_more many n (run ∷ runs) lt h = go (n + 1 == run.0) refl where
  go : (b : Bool) → (n + 1 == run.0) ≡ b → EndBelow many (if b then (n, run.1 + 1) ∷ runs else (n, 1) ∷ run ∷ runs)
  go true q = let same = eqb-true (n + 1) run.0 q in (omega (arith, same, h.0), h.1)
  go false q = (omega (arith, lt), h)

ends_below : (many : ℕ) (numbers : List ℕ) → AllByRecursion (λ n. n < many) numbers → EndBelow many (stretches numbers)
ends_below many [] h = tt
ends_below many (n ∷ numbers) h = end_more many n (stretches numbers) h.0 (ends_below many numbers h.1)

one_fits : (start len : ℕ) (b : Bool) (is : nat_lt (start + len) (2 ^ 64) ≡ b) → start + len < 2 ^ 64
    → blocks_of (run_if start len b is) ≡ range_with_len start len
one_fits start len true is lt = append-nil (range_with_len start len)
one_fits start len false is lt = absurd (omega (arith, lt, ltb-false (start + len) (2 ^ 64) is))

runs_fit : (many : ℕ) (runs : List (ℕ × ℕ)) → many < 2 ^ 64 → EndBelow many runs → blocks_of (flat_map made_run runs) ≡ expand runs
unfolding expand
runs_fit many [] small h = refl
runs_fit many (run ∷ runs) small h =
    flat_map-append (λ (x : BlockRun). range_with_len x.start x.len) (made_run run) (flat_map made_run runs)
    ∙ ap (λ (l : List ℕ). l ++ blocks_of (flat_map made_run runs))
    (one_fits run.0 run.1 (nat_lt (run.0 + run.1) (2 ^ 64)) refl (omega (arith, small, h.0)))
    ∙ ap (λ (l : List ℕ). range_with_len run.0 run.1 ++ l) (runs_fit many runs small h.1)

runs_same : (many : ℕ) (numbers : List ℕ) → many < 2 ^ 64 → AllByRecursion (λ n. n < many) numbers → blocks_of (block_runs_of numbers) ≡ numbers
runs_same many numbers small h = runs_fit many (stretches numbers) small (ends_below many numbers h) ∙ expand_is numbers

-- ---- slots that rise have no more of a plan's blocks than the plan

abbrev cost : List InodePlan → ℕ → ℕ
cost plan ino = length (flat_map item_blocks (items_for plan ino))

abbrev own_cost : InodePlan → ℕ → ℕ
own_cost p ino = if p.handle.ino == ino then length (flat_map item_blocks p.items) else 0

none_above : (p : InodePlan) (slots : List ℕ) → AllByRecursion (λ m. p.handle.ino < m) slots → sum_by (own_cost p) slots ≡ 0
none_above p [] h = refl
none_above p (m ∷ slots) h =
    let more = none_above p slots h.1 in
    let cons = sum_by-cons (own_cost p) m slots in
    go (p.handle.ino == m) refl cons more where
      go : (b : Bool) → (p.handle.ino == m) ≡ b → sum_by (own_cost p) (m ∷ slots) ≡ own_cost p m + sum_by (own_cost p) slots
          → sum_by (own_cost p) slots ≡ 0 → sum_by (own_cost p) (m ∷ slots) ≡ 0
      go true e cons more = let is = eqb-true p.handle.ino m e in absurd (omega (arith, is, h.0))
      go false e cons more = let own : own_cost p m ≡ 0 = rw e refl in omega (arith, own, cons, more)

own_once : (p : InodePlan) (slots : List ℕ) → IsRising slots → sum_by (own_cost p) slots ≤ length (flat_map item_blocks p.items)
own_once p [] r = omega arith
own_once p (m ∷ slots) r =
    go (p.handle.ino == m) refl (sum_by-cons (own_cost p) m slots) (own_once p slots r.1) where
      go : (b : Bool) → (p.handle.ino == m) ≡ b → sum_by (own_cost p) (m ∷ slots) ≡ own_cost p m + sum_by (own_cost p) slots
          → sum_by (own_cost p) slots ≤ length (flat_map item_blocks p.items)
          → sum_by (own_cost p) (m ∷ slots) ≤ length (flat_map item_blocks p.items)
      go true e cons more =
          let own : own_cost p m ≡ length (flat_map item_blocks p.items) = rw e refl in
          let none = none_above p slots (subst (λ (n : ℕ). AllByRecursion (λ k. n < k) slots) (sym (eqb-true p.handle.ino m e)) r.0) in
          omega (arith, own, cons, none)
      go false e cons more = let own : own_cost p m ≡ 0 = rw e refl in omega (arith, own, cons, more)

cost_least : (p : InodePlan) (plan : List InodePlan) (ino : ℕ) → cost (p ∷ plan) ino ≤ own_cost p ino + cost plan ino
cost_least p plan ino = go (p.handle.ino == ino) where
  go : (b : Bool) → length (flat_map item_blocks (if b then p.items else items_for plan ino))
      ≤ (if b then length (flat_map item_blocks p.items) else 0) + cost plan ino
  go true = omega arith
  go false = omega arith

costs : (p : InodePlan) (plan : List InodePlan) (slots : List ℕ)
    → sum_by (cost (p ∷ plan)) slots ≤ sum_by (own_cost p) slots + sum_by (cost plan) slots
costs p plan [] = omega arith
costs p plan (m ∷ slots) = omega (
  arith,
  costs p plan slots,
  cost_least p plan m,
  sum_by-cons (cost (p ∷ plan)) m slots,
  sum_by-cons (own_cost p) m slots,
  sum_by-cons (cost plan) m slots,
)

no_costs : (slots : List ℕ) → sum_by (cost []) slots ≡ 0
no_costs [] = refl
no_costs (m ∷ slots) = omega (arith, sum_by-cons (cost []) m slots, no_costs slots)

costs_few : (plan : List InodePlan) (slots : List ℕ) → IsRising slots → sum_by (cost plan) slots ≤ length (plan_blocks plan)
costs_few [] slots r = omega (arith, no_costs slots)
costs_few (p ∷ plan) slots r =
    omega (
      arith,
      costs p plan slots,
      own_once p slots r,
      costs_few plan slots r,
      length-append (flat_map item_blocks p.items) (plan_blocks plan),
    )

pub planned_few : (plan : List InodePlan) (slots : List ℕ) → IsRising slots → length (planned_blocks plan slots) ≤ length (plan_blocks plan)
planned_few plan slots r =
    omega (arith, length-flat_map (λ ino. flat_map item_blocks (items_for plan ino)) slots, costs_few plan slots r)

pub plan_few : (block : ℕ) (nodes : Handle → Option NodeCopy) (taken : Allocation) (c : Call) (numbers : List ℕ)
    → taken.runs ≡ block_runs_of numbers → length (plan_blocks (plan block nodes taken c)) ≤ length numbers
plan_few block nodes taken c numbers is =
    let keeps : KeepsToIts nodes c taken (plan block nodes taken c) = keeps_to_its block nodes taken c in
    let short = runs_short numbers in
    elim keeps.blocks [
      | inl same ↦ omega (arith, short, ap length same, ap (λ (l : List BlockRun). length (blocks_of l)) is)
      | inr none ↦ omega (arith, ap length none)
    ]

-- ---- a plan's blocks are those that were taken, in order

none_for : (p : InodePlan) (slots : List ℕ) → AllByRecursion (λ m. p.handle.ino < m) slots → planned_blocks (p ∷ []) slots ≡ []
none_for p [] h = refl
none_for p (m ∷ slots) h = go (p.handle.ino == m) refl (none_for p slots h.1) where
  go : (b : Bool) → (p.handle.ino == m) ≡ b → planned_blocks (p ∷ []) slots ≡ []
      → flat_map item_blocks (if b then p.items else []) ++ planned_blocks (p ∷ []) slots ≡ []
  go true e more = let is = eqb-true p.handle.ino m e in absurd (omega (arith, is, h.0))
  go false e more = more

one_planned : (p : InodePlan) (slots : List ℕ) → IsRising slots
    → (planned_blocks (p ∷ []) slots ≡ []) ⊎ (planned_blocks (p ∷ []) slots ≡ flat_map item_blocks p.items)
one_planned p [] r = inl refl
one_planned p (m ∷ slots) r = go (p.handle.ino == m) refl (one_planned p slots r.1) where
  go : (b : Bool) → (p.handle.ino == m) ≡ b
      → (planned_blocks (p ∷ []) slots ≡ []) ⊎ (planned_blocks (p ∷ []) slots ≡ flat_map item_blocks p.items)
      → (flat_map item_blocks (if b then p.items else []) ++ planned_blocks (p ∷ []) slots ≡ [])
      ⊎ (flat_map item_blocks (if b then p.items else []) ++ planned_blocks (p ∷ []) slots ≡ flat_map item_blocks p.items)
  go true e more =
      let none = none_for p slots (subst (λ (n : ℕ). AllByRecursion (λ k. n < k) slots) (sym (eqb-true p.handle.ino m e)) r.0) in
      inr (ap (λ (l : List ℕ). flat_map item_blocks p.items ++ l) none ∙ append-nil (flat_map item_blocks p.items))
  go false e more = more

empty_by_length : (xs : List ℕ) → length xs ≤ 0 → xs ≡ []
empty_by_length [] h = refl
empty_by_length (x ∷ xs) h = absurd (omega (arith, h))

whole : (xs : List ℕ) → take (length xs) xs ≡ xs
whole [] = refl
whole (x ∷ xs) = ap (λ (l : List ℕ). x ∷ l) (whole xs)

is_first : (xs ns : List ℕ) → (xs ≡ []) ⊎ (xs ≡ ns) → take (length xs) ns ≡ xs
is_first xs ns (inl e) = subst (λ (l : List ℕ). take (length l) ns ≡ l) (sym e) refl
is_first xs ns (inr e) = subst (λ (l : List ℕ). take (length l) ns ≡ l) (sym e) (whole ns)

by_plan : (plan : List InodePlan) (slots numbers : List ℕ) → IsRising slots → (1 < length plan → plan_blocks plan ≡ [])
    → plan_blocks plan ≡ numbers → (planned_blocks plan slots ≡ []) ⊎ (planned_blocks plan slots ≡ numbers)
by_plan [] slots numbers r several same =
    inl (empty_by_length (planned_blocks [] slots) (planned_few [] slots r))
by_plan (p ∷ []) slots numbers r several same = elim (one_planned p slots r) [
  | inl none ↦ inl none
  | inr all ↦ inr (all ∙ sym (append-nil (flat_map item_blocks p.items)) ∙ same)
]
by_plan (p ∷ q ∷ plan) slots numbers r several same =
    let few = planned_few (p ∷ q ∷ plan) slots r in
    let none = ap length (several (omega arith)) in
    inl (empty_by_length (planned_blocks (p ∷ q ∷ plan) slots) (omega (arith, few, none)))

pub plan_first : (block many : ℕ) (nodes : Handle → Option NodeCopy) (taken : Allocation) (c : Call) (numbers slots : List ℕ)
    → taken.runs ≡ block_runs_of numbers → many < 2 ^ 64 → AllByRecursion (λ n. n < many) numbers → IsRising slots
    → take (length (planned_blocks (plan block nodes taken c) slots)) numbers ≡ planned_blocks (plan block nodes taken c) slots
plan_first block many nodes taken c numbers slots is small below r =
    let keeps : KeepsToIts nodes c taken (plan block nodes taken c) = keeps_to_its block nodes taken c in
    elim keeps.blocks [
      | inl same ↦ is_first (planned_blocks (plan block nodes taken c) slots) numbers
          (by_plan (plan block nodes taken c) slots numbers r keeps.several
          (same ∙ ap blocks_of is ∙ runs_same many numbers small below))
      | inr none ↦
          let few = planned_few (plan block nodes taken c) slots r in
          is_first (planned_blocks (plan block nodes taken c) slots) numbers
          (inl (empty_by_length (planned_blocks (plan block nodes taken c) slots) (omega (arith, few, ap length none))))
    ]

-- ---- pages that a file can have

abbrev AreWithin : List Item → Type 0
AreWithin items = AllByRecursion IsWithinFile items

abbrev AllWithin : List InodePlan → Type 0
AllWithin plan = AllByRecursion (λ (p : InodePlan). AreWithin p.items) plan

items_within : (plan : List InodePlan) (ino : ℕ) → AllWithin plan → AreWithin (items_for plan ino)
items_within [] ino h = tt
items_within (p ∷ plan) ino h = go (p.handle.ino == ino) (items_within plan ino h.1) where
  go : (b : Bool) → AreWithin (items_for plan ino) → AreWithin (if b then p.items else items_for plan ino)
  go true more = h.0
  go false more = more

run_count : (run : BlockRun) (runs : List BlockRun) → length (blocks_of (run ∷ runs)) ≡ run.len + length (blocks_of runs)
run_count run runs =
    length-append (range_with_len run.start run.len) (blocks_of runs)
    ∙ ap (λ (n : ℕ). n + length (blocks_of runs)) (length-range_with_len run.start run.len)

written_within : (first size : ℕ) (runs : List BlockRun) (rest : List Item) → first + length (blocks_of runs) ≤ FILE_PAGES → AreWithin rest
    → AreWithin (write_items first runs size ++ rest)
written_within first size [] rest few more = more
written_within first size (run ∷ runs) rest few more = (
  omega (arith, few, run_count run runs),
  written_within (first + run.len) size runs rest (omega (arith, few, run_count run runs)) more,
)

move_within : (same : Bool) (from : Handle) (old : List ℕ) (to : Handle) (new : List ℕ) (moved : Handle) (rest : List InodePlan)
    → AllWithin rest → AllWithin (move_plan same from old to new moved rest)
move_within true from old to new moved rest h = ((tt, (tt, tt)), h)
move_within false from old to new moved rest h = ((tt, tt), ((tt, tt), h))

bound_within : (own : Bool) (from : Handle) (old : List ℕ) (to : Handle) (new : List ℕ) (first second : Option Handle)
    → AllWithin (cond own [] (bound_plan from old to new first second))
bound_within true from old to new first second = tt
bound_within false from old to new None second = tt
bound_within false from old to new (Some moved) second =
    move_within (same_handle from to) from old to new moved (replaced_plan second) (replaced_within second)

all_within : (block count : ℕ) (nodes : Handle → Option NodeCopy) (taken : Allocation) (c : Call) → length (blocks_of taken.runs) ≤ count
    → FitsFile block c count → AllWithin (plan block nodes taken c)
all_within block count nodes taken (call.Create dir name mode) few fits = ((tt, tt), ((tt, tt), tt))
all_within block count nodes taken (call.Mkdir dir name mode) few fits = ((tt, tt), ((tt, tt), tt))
all_within block count nodes taken (call.Write file offset []) few fits = tt
all_within block count nodes taken (call.Write file offset (byte ∷ rest)) few fits =
    (subst AreWithin (append-nil _) (written_within (offset / block) _ taken.runs [] (omega (arith, few, fits)) tt), tt)
all_within block count nodes taken (call.Size file size) few fits =
    (written_within (size / block) size taken.runs (SetSize size ∷ []) (omega (arith, few, fits)) (tt, tt), tt)
all_within block count nodes taken (call.Mode handle mode) few fits = ((tt, tt), tt)
all_within block count nodes taken (call.Unlink dir name) few fits = leave_within dir name (found nodes dir name)
all_within block count nodes taken (call.Rmdir dir name) few fits = leave_within dir name (found nodes dir name)
all_within block count nodes taken (call.Rename from old to new) few fits =
    bound_within (own_place from old to new) from old to new (found nodes from old) (found nodes to new)
all_within block count nodes taken (call.Read file offset many) few fits = tt
all_within block count nodes taken other few fits = tt

pub plan_within : (block : ℕ) (nodes : Handle → Option NodeCopy) (taken : Allocation) (c : Call) (numbers : List ℕ)
    → taken.runs ≡ block_runs_of numbers → FitsFile block c (length numbers) → (ino : ℕ)
    → AllByRecursion IsWithinFile (items_for (plan block nodes taken c) ino)
plan_within block nodes taken c numbers is fits ino =
    items_within (plan block nodes taken c) ino
    (all_within block (length numbers) nodes taken c
    (omega (arith, runs_short numbers, ap (λ (l : List BlockRun). length (blocks_of l)) is)) fits)

-- ---- a check that ends nothing

pub record IsChecked (same : Bool) (tests : Tests) (numbered : Bool) (changes : List Change) : Type 0 where
  pub looked : same ≡ true
  pub passed : tests ≡ passes
  pub number : numbered ≡ true
  pub some : 0 < length changes

pub checked : (early : Tests) (same : Bool) (tests : Tests) (numbered : Bool) (changes : List Change)
    → check_ending early same tests numbered changes ≡ None → IsChecked same tests numbered changes
checked (Err fault) same tests numbered changes h = cc
checked (Ok passed) false tests numbered changes h = cc
checked (Ok passed) true (Err fault) numbered changes h = cc
checked (Ok passed) true (Ok all) false changes h = cc
checked (Ok passed) true (Ok all) true [] h = cc
checked (Ok passed) true (Ok all) true (change ∷ changes) h =
    record { looked = refl; passed = refl; number = refl; some = omega arith }

pub wants_fitting : (block : ℕ) (nodes : Handle → Option NodeCopy) (made : Handle) (present : Bool) (c : Call) → 0 < block
    → refusal block nodes c ≡ passes → 0 < length (effect nodes made c) → FitsFile block c (blocks_wanted block nodes present c)
wants_fitting block nodes made present (call.Write file offset []) some passed any = absurd (omega (arith, any))
wants_fitting block nodes made present (call.Write file offset (byte ∷ rest)) some passed any =
    write_within block nodes some file offset (byte ∷ rest) present _ passed refl (omega arith)
wants_fitting block nodes made present (call.Size file size) some passed any =
    size_within block nodes some file size present _ passed refl
wants_fitting block nodes made present (call.Create dir name mode) some passed any = refl
wants_fitting block nodes made present other some passed any = refl
