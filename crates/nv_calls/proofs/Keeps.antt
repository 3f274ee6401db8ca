-- A plan is of handles that its call locks, and uses the blocks taken alone.
use Rattle.std.proofs.Common.{◌≡◌, ℕ, suc, ◌+◌, inl, inr, Bool, true, false, cond, List, [], ◌∷◌, ◌++◌, Option, Some, None, arith, refl, ap, ◌∙◌}
use Rattle.std.specs.Prelude.{Contains}
use Rattle.std.specs.List.{AllByRecursion, flat_map, range_with_len}
use Rattle.std.proofs.lemmas.List.{append-nil}
use Rattle.nv_base.specs.declared.numbers.Handle.{Handle}
use Rattle.nv_entry.specs.declared.item.Item.TheVariants.{SetSize}
use Rattle.nv_entry.specs.declared.item.BlockRun.{BlockRun}
use Rattle.nv_entry.specs.declared.node.NodeCopy.{NodeCopy}
use Rattle.nv_entry.specs.Sound.{blocks_of, write_items}
use Rattle.nv_calls.specs.AllCalls.{looked, plan}
use Rattle.nv_calls.specs.declared.allocation.Allocation.{Allocation}
use Rattle.nv_calls.specs.declared.call.Call.{Call}
use Rattle.nv_calls.specs.declared.call.Call.TheVariants as call
use Rattle.nv_calls.specs.Locked.{KeepsToIts, if_any, locks}
use Rattle.nv_calls.specs.Plain.{same_handle}
use Rattle.nv_calls.specs.declared.plan.InodePlan.{InodePlan}
use Rattle.nv_entry.specs.Blocks.{item_blocks}
use Rattle.nv_calls.specs.Plan.{plan_blocks}
use Rattle.nv_calls.specs.Refusals.{found}
use Rattle.nv_calls.specs.calls.Rename.{bound_plan, move_plan, own_place, replaced_plan}
use Rattle.nv_calls.specs.calls.Unlink.{leave_plan}

-- ---- places in a list of handles

at_first : (x : Handle) (xs : List Handle) → Contains (x ∷ xs) x
at_first x xs = (0, omega arith, refl)

behind : (x y : Handle) (xs : List Handle) → Contains xs y → Contains (x ∷ xs) y
behind x y xs c = (suc c.0, omega (arith, c.1), c.2)

on_right : (xs ys : List Handle) (y : Handle) → Contains ys y → Contains (xs ++ ys) y
on_right [] ys y c = c
on_right (x ∷ xs) ys y c = behind x y (xs ++ ys) (on_right xs ys y c)

-- ---- blocks

pub write_blocks-are : (first : ℕ) (runs : List BlockRun) (size : ℕ) → flat_map item_blocks (write_items first runs size) ≡ blocks_of runs
write_blocks-are first [] size = refl
write_blocks-are first (run ∷ runs) size =
    ap (λ (xs : List ℕ). range_with_len run.start run.len ++ xs) (write_blocks-are (first + run.len) runs size)

pub cut_blocks-are : (first : ℕ) (runs : List BlockRun) (size : ℕ)
    → flat_map item_blocks (write_items first runs size ++ SetSize size ∷ []) ≡ blocks_of runs
cut_blocks-are first [] size = refl
cut_blocks-are first (run ∷ runs) size =
    ap (λ (xs : List ℕ). range_with_len run.start run.len ++ xs) (cut_blocks-are (first + run.len) runs size)

module _ (block : ℕ) (nodes : Handle → Option NodeCopy) (taken : Allocation) where
  abbrev Keeps : Call → List InodePlan → Type 0
  Keeps c plan = KeepsToIts nodes c taken plan

  nothing : (c : Call) → Keeps c []
  nothing c = record { handles = tt; blocks = inr refl; several = λ lt. refl }

  abbrev Among : List Handle → List InodePlan → Type 0
  Among list plan = AllByRecursion (λ (p : InodePlan). Contains list p.handle) plan

  -- ---- each call

  write_keeps : (file : Handle) (offset : ℕ) (text : List ℕ)
      → Keeps (call.Write file offset text) (plan block nodes taken (call.Write file offset text))
  write_keeps file offset [] = nothing (call.Write file offset [])
  write_keeps file offset (byte ∷ rest) = record {
    handles = (at_first file [], tt);
    blocks = inl (append-nil _ ∙ write_blocks-are _ taken.runs _);
    several = λ lt. absurd (omega (arith, lt));
  }

  made_among : (dir : Handle) → Contains (taken.made ∷ dir ∷ []) dir × Contains (taken.made ∷ dir ∷ []) taken.made × Unit {0}
  made_among dir = (behind taken.made dir (dir ∷ []) (at_first dir []), at_first taken.made (dir ∷ []), tt)

  leave_among : (dir : Handle) (name : List ℕ) (bound : Option Handle) → Among (dir ∷ if_any bound) (leave_plan dir name bound)
  leave_among dir name None = tt
  leave_among dir name (Some to) = (at_first dir (to ∷ []), (behind dir to (to ∷ []) (at_first to []), tt))

  pub leave_none : (dir : Handle) (name : List ℕ) (bound : Option Handle) → plan_blocks (leave_plan dir name bound) ≡ []
  leave_none dir name None = refl
  leave_none dir name (Some to) = refl

  replaced_among : (list : List Handle) (bound : Option Handle)
      → ((handle : Handle) → Contains (if_any bound) handle → Contains list handle)
      → Among list (replaced_plan bound)
  replaced_among list None each = tt
  replaced_among list (Some to) each = (each to (at_first to []), tt)

  replaced_none : (bound : Option Handle) → plan_blocks (replaced_plan bound) ≡ []
  replaced_none None = refl
  replaced_none (Some to) = refl

  module _ (from : Handle) (old : List ℕ) (to : Handle) (new : List ℕ) where
    abbrev both : Option Handle → Option Handle → List Handle
    both first second = from ∷ to ∷ if_any first ++ if_any second

    move_among : (same : Bool) (moved : Handle) (list : List Handle) (rest : List InodePlan) → Contains list from → Contains list to
        → Among list rest
        → Among list (move_plan same from old to new moved rest)
    move_among true moved list rest f t all = (f, all)
    move_among false moved list rest f t all = (f, (t, all))

    move_none : (same : Bool) (moved : Handle) (rest : List InodePlan) → plan_blocks rest ≡ []
        → plan_blocks (move_plan same from old to new moved rest) ≡ []
    move_none true moved rest h = h
    move_none false moved rest h = h

    bound_among : (own : Bool) (first second : Option Handle)
        → Among (both first second) (cond own [] (bound_plan from old to new first second))
    bound_among true first second = tt
    bound_among false None second = tt
    bound_among false (Some moved) second =
        let list : List Handle = both (Some moved) second in
        let tail : List Handle = to ∷ if_any (Some moved) ++ if_any second in
        move_among (same_handle from to) moved list (replaced_plan second) (at_first from tail)
        (behind from to tail (at_first to (moved ∷ if_any second)))
        (replaced_among list second (λ handle c. on_right (from ∷ to ∷ moved ∷ []) (if_any second) handle c))

    pub bound_none : (own : Bool) (first second : Option Handle) → plan_blocks (cond own [] (bound_plan from old to new first second)) ≡ []
    bound_none true first second = refl
    bound_none false None second = refl
    bound_none false (Some moved) second = move_none (same_handle from to) moved (replaced_plan second) (replaced_none second)

  -- a plan without blocks
  no_blocks : (c : Call) (plan : List InodePlan) → Among (locks (looked nodes c) taken.made c) plan → plan_blocks plan ≡ [] → Keeps c plan
  no_blocks c plan all none = record { handles = all; blocks = inr none; several = λ lt. none }

  pub keeps_to_its : (c : Call) → Keeps c (plan block nodes taken c)
  keeps_to_its (call.Create dir name mode) =
      let among = made_among dir in no_blocks (call.Create dir name mode) _ (among.0, (among.1, tt)) refl
  keeps_to_its (call.Mkdir dir name mode) =
      let among = made_among dir in no_blocks (call.Mkdir dir name mode) _ (among.0, (among.1, tt)) refl
  keeps_to_its (call.Write file offset text) = write_keeps file offset text
  keeps_to_its (call.Read file offset count) = nothing (call.Read file offset count)
  keeps_to_its (call.Size file size) = record {
    handles = (at_first file [], tt);
    blocks = inl (append-nil _ ∙ cut_blocks-are _ taken.runs size);
    several = λ lt. absurd (omega (arith, lt));
  }
  keeps_to_its (call.Mode handle mode) = no_blocks (call.Mode handle mode) _ (at_first handle [], tt) refl
  keeps_to_its (call.Stat handle) = nothing (call.Stat handle)
  keeps_to_its (call.List dir) = nothing (call.List dir)
  keeps_to_its (call.Lookup dir name) = nothing (call.Lookup dir name)
  keeps_to_its (call.SnapshotOrCleaner c) = nothing (call.SnapshotOrCleaner c)
  keeps_to_its (call.Unlink dir name) =
      let bound : Option Handle = found nodes dir name in
      no_blocks (call.Unlink dir name) _ (leave_among dir name bound) (leave_none dir name bound)
  keeps_to_its (call.Rmdir dir name) =
      let bound : Option Handle = found nodes dir name in
      no_blocks (call.Rmdir dir name) _ (leave_among dir name bound) (leave_none dir name bound)
  keeps_to_its (call.Rename from old to new) =
      let own : Bool = own_place from old to new in
      let first : Option Handle = found nodes from old in
      let second : Option Handle = found nodes to new in
      no_blocks (call.Rename from old to new) _ (bound_among from old to new own first second) (bound_none from old to new own first second)
