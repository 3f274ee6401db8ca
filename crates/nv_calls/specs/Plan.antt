-- Plans: for each inode the items that a call appends to its log.
use Rattle.std.specs.Prelude.{◌≡◌, ◌≢◌, ℕ, ◌+◌, ◌^◌, ◌<◌, ◌≤◌, ◌==◌, if◌then◌else◌, nat_lt, Bool, true, false, List, [], ◌∷◌, length, Option}
use Rattle.std.proofs.Common.{refl}
use Rattle.std.proofs.lemmas.Bool.{ltb-true}
use Rattle.std.specs.List.{AllByRecursion, flat_map}
use Rattle.nv_base.specs.declared.numbers.Handle.{Handle}
use Rattle.nv_entry.specs.declared.item.Item.{Item}
use Rattle.nv_entry.specs.declared.item.BlockRun.{BlockRun}
use Rattle.nv_entry.specs.declared.node.NodeCopy.{NodeCopy}
use Rattle.nv_entry.specs.Blocks.{item_blocks}
use Rattle.nv_entry.specs.Sound.{MakesAll}
use Rattle.nv_calls.specs.Plain.{Change}
use Rattle.nv_calls.specs.declared.plan.InodePlan.{InodePlan}

-- the plan of one inode: these items behind its log
abbrev pub planned : Handle → List Item → InodePlan
planned handle items = record { handle = handle; items = items }

-- what is planned for an inode does to its node what a change says
pub record Fits (bytes : ℕ → List ℕ) (block : ℕ) (nodes : Handle → Option NodeCopy) (p : InodePlan) (c : Change) : Type 0 where
  -- plan and change are of the same handle
  pub same : p.handle ≡ c.handle
  -- the items make of the node what the change makes of it
  pub makes : MakesAll bytes block p.items (nodes p.handle) (c.becomes (nodes p.handle))

-- a plan fits an effect: inode by inode, its items make of each node what the change makes of it
abbrev pub AllFit : (ℕ → List ℕ) → ℕ → (Handle → Option NodeCopy) → List InodePlan → List Change → Type 0
AllFit bytes block nodes [] [] = Unit {0}
AllFit bytes block nodes (p ∷ plan) (c ∷ effect) = Fits bytes block nodes p c × AllFit bytes block nodes plan effect
AllFit bytes block nodes [] (c ∷ effect) = ⊥
AllFit bytes block nodes (p ∷ plan) [] = ⊥

-- ---- inodes

-- no two of them are of one inode
abbrev pub AreApart : List InodePlan → Type 0
AreApart [] = Unit {0}
AreApart (p ∷ plan) = AllByRecursion (λ (other : InodePlan). other.handle.ino ≢ p.handle.ino) plan × AreApart plan

-- the inodes of a plan
pub record AreFewApart (plan : List InodePlan) : Type 0 where
  -- no two plans are of one inode
  pub apart : AreApart plan
  -- at most three inodes get items
  pub few : length plan ≤ 3

-- ---- blocks

-- the data blocks that planned items put pages in, in order
abbrev pub plan_blocks : List InodePlan → List ℕ
plan_blocks plan = flat_map (λ (p : InodePlan). flat_map item_blocks p.items) plan

-- the runs with one more number in front: it lengthens the first run, or makes a run of its own
abbrev pub with_number : ℕ → List (ℕ × ℕ) → List (ℕ × ℕ)
with_number n [] = (n, 1) ∷ []
with_number n (run ∷ runs) = if n + 1 == run.0 then (n, run.1 + 1) ∷ runs else (n, 1) ∷ run ∷ runs

-- the maximal runs of consecutive numbers, each by its first number and its length
abbrev pub stretches : List ℕ → List (ℕ × ℕ)
stretches [] = []
stretches (n ∷ numbers) = with_number n (stretches numbers)

-- a run of blocks, whose numbers are below 2 ^ 64
abbrev pub run_if : (start len : ℕ) (fits : Bool) → nat_lt (start + len) (2 ^ 64) ≡ fits → List BlockRun
run_if start len true is = record { start = start; len = len; in_range = ltb-true (start + len) (2 ^ 64) is } ∷ []
run_if start len false is = []

-- blocks in the order in which they were taken, as maximal runs.
-- Example: blocks 3, 4, 7, 8, 2 are the block runs 3 to 4, 7 to 8 and 2.
abbrev pub block_runs_of : List ℕ → List BlockRun
block_runs_of numbers = flat_map (λ (run : ℕ × ℕ). run_if run.0 run.1 (nat_lt (run.0 + run.1) (2 ^ 64)) refl) (stretches numbers)

-- each block run has a block, and none goes on where the one before it ends
abbrev pub AreMaximal : List BlockRun → Type 0
AreMaximal [] = Unit {0}
AreMaximal (run ∷ []) = 0 < run.len
AreMaximal (run ∷ next ∷ runs) = (0 < run.len) × (run.start + run.len ≡ next.start → ⊥) × AreMaximal (next ∷ runs)
