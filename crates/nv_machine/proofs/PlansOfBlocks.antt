-- The plan of a call fits the blocks that it has taken: runs have these blocks, and its pages are a file's.
use Rattle.std.proofs.Common.{Bool, List, None, Option, Some, [], add-one, ap, append-nil, arith, cond, false, flat_map, length, length-append, nat_lt, refl, subst, suc, sym, true, ℕ, ◌++◌, ◌+◌, ◌/◌, ◌<◌, ◌==◌, ◌^◌, ◌∙◌, ◌∷◌, ◌≡◌, ◌≤◌, ◌⊎◌}
use Rattle.std.specs.List.{AllByRecursion, range_with_len}
use Rattle.std.proofs.lemmas.Bool.{eqb-true, lt-ltb}
use Rattle.std.proofs.lemmas.List.FromFn.{length-range_with_len}
use Rattle.nv_alloc.specs.Block.{BlockValue, numbers_of}
use Rattle.nv_base.specs.declared.numbers.Handle.{Handle}
use Rattle.nv_calls.specs.AllCalls.{plan}
use Rattle.nv_calls.specs.Refusals.{found}
use Rattle.nv_calls.specs.calls.Rename.{bound_plan, own_place, replaced_plan}
use Rattle.nv_calls.specs.calls.Unlink.{leave_plan}
use Rattle.nv_calls.specs.Plain.{same_handle}
use Rattle.nv_calls.specs.Plan.{plan_blocks, run_if, block_runs_of, stretches, with_number}
use Rattle.nv_calls.specs.declared.call.Call.{Call}
use Rattle.nv_calls.specs.declared.plan.InodePlan.{InodePlan}
use Rattle.nv_calls.specs.declared.allocation.Allocation.{Allocation}
use Rattle.nv_calls.proofs.Keeps.{keeps_to_its}
use Rattle.nv_cell.specs.Append.{IsWithinFile}
use Rattle.nv_entry.specs.Sound.{blocks_of, write_items}
use Rattle.nv_entry.specs.declared.item.Item.{Item}
use Rattle.nv_entry.specs.declared.item.Item.TheVariants.{SetSize}
use Rattle.nv_entry.specs.declared.item.BlockRun.{BlockRun}
use Rattle.nv_entry.specs.declared.node.NodeCopy.{NodeCopy}
use Rattle.nv_machine.specs.Kept.{IsInFile, IsPlanFor}
use Rattle.nv_calls.specs.declared.call.Call.TheVariants as call

-- ---- runs of blocks

-- a stretch ends at a number or below it
abbrev Ends_ : ℕ → ℕ × ℕ → Type 0
Ends_ most run = run.0 + run.1 ≤ most

abbrev numbers_in : List (ℕ × ℕ) → List ℕ
numbers_in runs = flat_map (λ (run : ℕ × ℕ). range_with_len run.0 run.1) runs

more_numbers : (n : ℕ) (runs : List (ℕ × ℕ)) → numbers_in (with_number n runs) ≡ n ∷ numbers_in runs
more_numbers n [] = refl
more_numbers n (run ∷ runs) = go (n + 1 == run.0) refl where
  go : (b : Bool) → (n + 1 == run.0) ≡ b → numbers_in (cond b ((n, run.1 + 1) ∷ runs) ((n, 1) ∷ run ∷ runs)) ≡ n ∷ numbers_in (run ∷ runs)
  go true e = rw add-one (ap (λ (m : ℕ). n ∷ (range_with_len m run.1 ++ numbers_in runs)) (eqb-true (n + 1) run.0 e))
  go false e = refl

more_end : (most n : ℕ) (runs : List (ℕ × ℕ)) → n < most → AllByRecursion (Ends_ most) runs
    → AllByRecursion (Ends_ most) (with_number n runs)
more_end most n [] lt all = (omega (arith, lt), tt)
more_end most n (run ∷ runs) lt all = go (n + 1 == run.0) refl where
  go : (b : Bool) → (n + 1 == run.0) ≡ b → AllByRecursion (Ends_ most) (cond b ((n, run.1 + 1) ∷ runs) ((n, 1) ∷ run ∷ runs))
  go true e = (omega (arith, all.0, eqb-true (n + 1) run.0 e), all.1)
  go false e = (omega (arith, lt), all)

stretched : (numbers : List ℕ) → numbers_in (stretches numbers) ≡ numbers
stretched [] = refl
stretched (n ∷ numbers) = more_numbers n (stretches numbers) ∙ ap (λ (l : List ℕ). n ∷ l) (stretched numbers)

pub all_end : (most : ℕ) (numbers : List ℕ) → AllByRecursion (λ n. n < most) numbers → AllByRecursion (Ends_ most) (stretches numbers)
all_end most [] all = tt
all_end most (n ∷ numbers) all = more_end most n (stretches numbers) all.0 (all_end most numbers all.1)

one_run : (start len : ℕ) (rest : List BlockRun) (b : Bool) (is : nat_lt (start + len) (2 ^ 64) ≡ b) → b ≡ true
    → blocks_of (run_if start len b is ++ rest) ≡ range_with_len start len ++ blocks_of rest
one_run start len rest true is e = refl
one_run start len rest false is e = cc

runs_blocks : (runs : List (ℕ × ℕ)) → AllByRecursion (Ends_ (2 ^ 32)) runs
    → blocks_of (flat_map (λ (run : ℕ × ℕ). run_if run.0 run.1 (nat_lt (run.0 + run.1) (2 ^ 64)) refl) runs) ≡ numbers_in runs
runs_blocks [] all = refl
runs_blocks (run ∷ runs) all =
    one_run run.0 run.1 _ (nat_lt (run.0 + run.1) (2 ^ 64)) refl (lt-ltb (run.0 + run.1) (2 ^ 64) (omega (arith, all.0)))
    ∙ ap (λ (l : List ℕ). range_with_len run.0 run.1 ++ l) (runs_blocks runs all.1)

-- runs have the blocks that they are made of
pub runs_are : (numbers : List ℕ) → AllByRecursion (λ n. n < 2 ^ 32) numbers → blocks_of (block_runs_of numbers) ≡ numbers
runs_are numbers all = runs_blocks (stretches numbers) (all_end (2 ^ 32) numbers all) ∙ stretched numbers

pub small_numbers : (bs : List BlockValue) → AllByRecursion (λ (b : BlockValue). b.number < 2 ^ 32) bs
    → AllByRecursion (λ n. n < 2 ^ 32) (numbers_of bs)
small_numbers [] all = tt
small_numbers (b ∷ bs) all = (all.0, small_numbers bs all.1)

pub length_numbers : (bs : List BlockValue) → length (numbers_of bs) ≡ length bs
length_numbers [] = refl
length_numbers (b ∷ bs) = ap suc (length_numbers bs)

-- ---- pages of a file

abbrev AllWithin : List InodePlan → Type 0
AllWithin plan = AllByRecursion (λ (p : InodePlan). AllByRecursion IsWithinFile p.items) plan

writes_within : (first size : ℕ) (runs : List BlockRun) (tail : List Item) → first + length (blocks_of runs) ≤ 65536
    → AllByRecursion IsWithinFile tail → AllByRecursion IsWithinFile (write_items first runs size ++ tail)
writes_within first size [] tail le all = all
writes_within first size (run ∷ runs) tail le all =
    let long = length-append (range_with_len run.start run.len) (blocks_of runs) in
    let own = length-range_with_len run.start run.len in (
      omega (arith, le, long, own),
      writes_within (first + run.len) size runs tail (omega (arith, le, long, own)) all,
    )

pub leave_within : (dir : Handle) (name : List ℕ) (bound : Option Handle) → AllWithin (leave_plan dir name bound)
leave_within dir name None = tt
leave_within dir name (Some to) = ((tt, tt), ((tt, tt), tt))

pub replaced_within : (other : Option Handle) → AllWithin (replaced_plan other)
replaced_within None = tt
replaced_within (Some other) = ((tt, tt), tt)

bound_within : (own same : Bool) (from : Handle) (old : List ℕ) (to : Handle) (new : List ℕ) (bound other : Option Handle)
    → same_handle from to ≡ same → AllWithin (cond own [] (bound_plan from old to new bound other))
bound_within true same from old to new bound other e = tt
bound_within false same from old to new None other e = tt
bound_within false true from old to new (Some moved) other e = rw e ((tt, (tt, tt)), replaced_within other)
bound_within false false from old to new (Some moved) other e = rw e ((tt, tt), ((tt, tt), replaced_within other))

module _ (block : ℕ) (nodes : Handle → Option NodeCopy) (taken : Allocation) where
  pub all_within : (c : Call) → IsInFile block c (length (blocks_of taken.runs)) → AllWithin (plan block nodes taken c)
  all_within (call.Write file offset (byte ∷ rest)) h =
      (subst (AllByRecursion IsWithinFile) (append-nil _) (writes_within (offset / block) _ taken.runs [] (h (omega arith)) tt), tt)
  all_within (call.Size file size) h = (writes_within (size / block) size taken.runs (SetSize size ∷ []) h (tt, tt), tt)
  all_within (call.Create dir name mode) h = ((tt, tt), ((tt, tt), tt))
  all_within (call.Mkdir dir name mode) h = ((tt, tt), ((tt, tt), tt))
  all_within (call.Mode handle mode) h = ((tt, tt), tt)
  all_within (call.Unlink dir name) h = leave_within dir name (found nodes dir name)
  all_within (call.Rmdir dir name) h = leave_within dir name (found nodes dir name)
  all_within (call.Rename from old to new) h =
      bound_within (own_place from old to new) (same_handle from to) from old to new (found nodes from old) (found nodes to new) refl
  all_within other h = tt

  -- the plan of a call with these blocks
  pub plan_fits : (c : Call) (numbers : List ℕ) → blocks_of taken.runs ≡ numbers → IsInFile block c (length numbers)
      → IsPlanFor (plan block nodes taken c) numbers
  plan_fits c numbers e h =
      let k = keeps_to_its block nodes taken c in
      record {
        within = all_within c (subst (λ (n : ℕ). IsInFile block c n) (sym (ap length e)) h);
        blocks = subst (λ (l : List ℕ). (plan_blocks (plan block nodes taken c) ≡ l) ⊎
            (plan_blocks (plan block nodes taken c) ≡ [])) e k.blocks;
        several = k.several;
      }
