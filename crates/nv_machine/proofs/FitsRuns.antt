-- Blocks that were taken and filled are what a call needs: their runs are maximal.
use Rattle.std.proofs.Common.{◌≡◌, ℕ, ◌+◌, ◌^◌, ◌/◌, ◌<◌, ◌≤◌, ◌==◌, ◌++◌, ◌∙◌, Bool, true, false, cond, nat_lt, List, [], ◌∷◌, Option, ap, arith, flat_map, refl, subst, sym}
use Rattle.std.specs.List.{AllByRecursion}
use Rattle.std.proofs.lemmas.Bool.{eqb-false, eqb-true, lt-ltb}
use Rattle.nv_alloc.specs.Block.{BlockValue, numbers_of}
use Rattle.nv_base.specs.declared.numbers.Handle.{Handle}
use Rattle.nv_calls.specs.AllCalls.{IsReady, present_in}
use Rattle.nv_calls.specs.Locked.{Agree, handles}
use Rattle.nv_calls.specs.Plain.{PlainNode, node_in}
use Rattle.nv_calls.specs.Plan.{AreMaximal, run_if, block_runs_of, stretches, with_number}
use Rattle.nv_calls.specs.Slots.{IsFree, InodeSlot}
use Rattle.nv_calls.specs.declared.call.Call.{Call}
use Rattle.nv_calls.specs.declared.call.Call.TheVariants as call
use Rattle.nv_calls.specs.declared.looked.LookupResult.{LookupResult}
use Rattle.nv_calls.specs.declared.allocation.Allocation.{Allocation}
use Rattle.nv_entry.specs.declared.item.BlockRun.{BlockRun}
use Rattle.nv_entry.specs.declared.node.NodeCopy.{NodeCopy}
use Rattle.nv_machine.specs.Hands.{makes_inode}
use Rattle.nv_calls.specs.FillPages.{fresh_pages}
use Rattle.nv_calls.specs.Filled.{AreFilled, AreRead}
use Rattle.nv_calls.proofs.Filled.{HasSlot, is_ready as filled_is_ready}
use Rattle.nv_machine.specs.Sequence.{beginning}
use Rattle.nv_machine.proofs.PlansOfBlocks.{all_end, runs_are, small_numbers}

-- ---- runs are maximal

abbrev Maximal : List (ℕ × ℕ) → Type 0
Maximal [] = Unit {0}
Maximal (run ∷ []) = 0 < run.1
Maximal (run ∷ next ∷ runs) = (0 < run.1) × (run.0 + run.1 ≡ next.0 → ⊥) × Maximal (next ∷ runs)

one_more : (n : ℕ) (runs : List (ℕ × ℕ)) → Maximal runs → Maximal (with_number n runs)
one_more n [] h = omega arith
one_more n (run ∷ []) h = go (n + 1 == run.0) refl where
  go : (b : Bool) → (n + 1 == run.0) ≡ b → Maximal (cond b ((n, run.1 + 1) ∷ []) ((n, 1) ∷ run ∷ []))
  go true e = omega arith
  go false e = (omega arith, eqb-false (n + 1) run.0 e, h)
one_more n (run ∷ next ∷ runs) h = go (n + 1 == run.0) refl where
  go : (b : Bool) → (n + 1 == run.0) ≡ b → Maximal (cond b ((n, run.1 + 1) ∷ next ∷ runs) ((n, 1) ∷ run ∷ next ∷ runs))
  go true e = (omega arith, (λ same. h.1 (omega (arith, same, eqb-true (n + 1) run.0 e))), h.2)
  go false e = (omega arith, eqb-false (n + 1) run.0 e, h)

are_maximal : (numbers : List ℕ) → Maximal (stretches numbers)
are_maximal [] = tt
are_maximal (n ∷ numbers) = one_more n (stretches numbers) (are_maximal numbers)

abbrev Ends_ : ℕ × ℕ → Type 0
Ends_ run = run.0 + run.1 ≤ 2 ^ 32

abbrev made : List (ℕ × ℕ) → List BlockRun
made runs = flat_map (λ (run : ℕ × ℕ). run_if run.0 run.1 (nat_lt (run.0 + run.1) (2 ^ 64)) refl) runs

-- a run for a stretch
record IsRunOf (run : ℕ × ℕ) (runs rest : List BlockRun) : Type 0 where
  one : BlockRun
  start : one.start ≡ run.0
  len : one.len ≡ run.1
  is : runs ≡ one ∷ rest

run_is : (start len : ℕ) (b : Bool) (is : nat_lt (start + len) (2 ^ 64) ≡ b) (rest : List BlockRun) → b ≡ true
    → IsRunOf (start, len) (run_if start len b is ++ rest) rest
run_is start len true is rest e = record { one = _; start = refl; len = refl; is = refl }
run_is start len false is rest e = cc

first_run : (run : ℕ × ℕ) (runs : List (ℕ × ℕ)) → Ends_ run → IsRunOf run (made (run ∷ runs)) (made runs)
first_run run runs small =
    run_is run.0 run.1 (nat_lt (run.0 + run.1) (2 ^ 64)) refl (made runs) (lt-ltb (run.0 + run.1) (2 ^ 64) (omega (arith, small)))

made_maximal : (runs : List (ℕ × ℕ)) → AllByRecursion Ends_ runs → Maximal runs → AreMaximal (made runs)
made_maximal [] small h = tt
made_maximal (run ∷ []) small h =
    let f = first_run run [] small.0 in
    subst AreMaximal (sym f.is) (omega (arith, h, f.len))
made_maximal (run ∷ next ∷ runs) small h =
    let f = first_run run (next ∷ runs) small.0 in
    let g = first_run next runs small.1.0 in
    let more : AreMaximal (g.one ∷ made runs) = subst AreMaximal g.is (made_maximal (next ∷ runs) small.1 h.2) in
    subst AreMaximal (sym (f.is ∙ ap (λ (l : List BlockRun). f.one ∷ l) g.is))
    (omega (arith, h.0, f.len), (λ same. h.1 (omega (arith, same, f.start, f.len, g.start))), more)

pub runs_maximal : (numbers : List ℕ) → AllByRecursion (λ n. n < 2 ^ 32) numbers → AreMaximal (block_runs_of numbers)
runs_maximal numbers small = made_maximal (stretches numbers) (all_end (2 ^ 32) numbers small) (are_maximal numbers)

-- ---- what a call needs

abbrev pub taken_of : Handle → List BlockValue → Allocation
taken_of new fresh = record { made = new; runs = block_runs_of (numbers_of fresh) }

module _ (bytes : ℕ → List ℕ) (block : ℕ) (slots : ℕ → InodeSlot) (nodes : Handle → Option NodeCopy) (new : Handle) (fresh : List BlockValue)
    (read : AreRead bytes fresh) where
  abbrev taken : Allocation
  taken = taken_of new fresh

  has_slot : (c : Call) → (makes_inode (beginning c) ≡ true → IsFree slots new) → HasSlot slots taken c
  has_slot (call.Create dir name mode) free = free refl
  has_slot (call.Mkdir dir name mode) free = free refl
  has_slot other free = tt

  pub is_ready : (c : Call) → (makes_inode (beginning c) ≡ true → IsFree slots new)
      → AreFilled block nodes (present_in block slots c) c fresh → IsReady bytes block slots nodes taken c
  is_ready c free f =
      let small = small_numbers fresh f.small in
      filled_is_ready bytes block slots nodes taken fresh read (runs_maximal (numbers_of fresh) small)
      (runs_are (numbers_of fresh) small) c (has_slot c free) f

-- the pages that a call fills are the same in worlds that agree on the handles that it locks
pub fresh_same : (block : ℕ) (nodes other : Handle → Option PlainNode) (l : LookupResult) (c : Call) → Agree nodes other (handles l c)
    → fresh_pages block (node_in other) c ≡ fresh_pages block (node_in nodes) c
fresh_same block nodes other l (call.Write file offset text) h = rw h.0 refl
fresh_same block nodes other l (call.Size file size) h = rw h.0 refl
fresh_same block nodes other l c h = refl
