-- The items that a call plans fit the blocks taken, and are few; each inode's bind no more than one name.
use Rattle.std.proofs.Common.{◌≡◌, ℕ, ◌+◌, ◌/◌, ◌<◌, ◌≤◌, ◌⊎◌, inl, inr, ◌&&◌, Bool, true, false, cond, List, [], ◌∷◌, ◌++◌, length, Option, Some, None, arith, refl, subst}
use Rattle.std.specs.List.{AllByRecursion}
use Rattle.std.proofs.lemmas.List.{append-nil, length-append}
use Rattle.nv_base.specs.Names.{same_name}
use Rattle.nv_base.specs.declared.node.Kind.{Kind}
use Rattle.nv_base.specs.declared.node.Kind.TheVariants.{File, Dir}
use Rattle.nv_base.specs.declared.numbers.Handle.{Handle}
use Rattle.nv_entry.specs.declared.item.Item.{Item}
use Rattle.nv_entry.specs.declared.item.Item.TheVariants.{SetSize}
use Rattle.nv_entry.specs.declared.item.BlockRun.{BlockRun}
use Rattle.nv_entry.specs.declared.node.NodeCopy.{NodeCopy}
use Rattle.nv_entry.specs.Bytes.{written}
use Rattle.nv_entry.specs.Sound.{blocks_of, write_items}
use Rattle.nv_cell.specs.Append.{IsWithinFile}
use Rattle.nv_cell.specs.Effects.{BindOne}
use Rattle.nv_calls.specs.AllCalls.{blocks_wanted, plan, refusal}
use Rattle.nv_calls.specs.Plain.{same_handle}
use Rattle.nv_calls.specs.Plan.{AreMaximal}
use Rattle.nv_calls.specs.Refusals.{bytes_of, found, passes}
use Rattle.nv_calls.specs.Steps.{numbers_in}
use Rattle.nv_calls.specs.calls.Create.{begin_plan}
use Rattle.nv_calls.specs.calls.Rename.{bound_plan, move_plan, own_place, replaced_plan}
use Rattle.nv_calls.specs.calls.Size.{cuts_page}
use Rattle.nv_calls.specs.calls.Unlink.{leave_plan}
use Rattle.nv_calls.specs.calls.Write.{text_refusal}
use Rattle.nv_calls.specs.declared.call.Call.{Call}
use Rattle.nv_calls.specs.declared.call.Call.TheVariants as call
use Rattle.nv_calls.specs.declared.plan.InodePlan.{InodePlan}
use Rattle.nv_calls.specs.declared.allocation.Allocation.{Allocation}
use Rattle.nv_calls.proofs.Keeps.{cut_blocks-are, write_blocks-are}
use Rattle.nv_calls.proofs.Lawful.{count-cons, few_runs, have_blocks, one_item_a_run, writes_bind_none}
use Rattle.nv_calls.proofs.Passed.{file_passed}
use Rattle.nv_calls.proofs.Within.{count_passed, size_within, touched_within}

-- the items bind at most one name, are few, of pages that a file can have, and use all of these blocks or none
pub record AreFit (blocks : List ℕ) (items : List Item) : Type 0 where
  pub one : BindOne items
  pub few : length items ≤ 1025
  pub within : AllByRecursion IsWithinFile items
  pub numbers : (numbers_in items ≡ blocks) ⊎ (numbers_in items ≡ [])

pub none_fit : (blocks : List ℕ) → AreFit blocks []
none_fit blocks = record { one = tt; few = omega arith; within = tt; numbers = inr refl }

abbrev pub AllFit : List ℕ → List InodePlan → Type 0
AllFit blocks plan = AllByRecursion (λ (p : InodePlan). AreFit blocks p.items) plan

writes_within : (first size : ℕ) (runs : List BlockRun) (tail : List Item) → AllByRecursion IsWithinFile tail
    → first + length (blocks_of runs) ≤ 65536 → AllByRecursion IsWithinFile (write_items first runs size ++ tail)
writes_within first size [] tail last fits = last
writes_within first size (run ∷ runs) tail last fits = (
  omega (arith, count-cons run runs, fits),
  writes_within (first + run.len) size runs tail last (omega (arith, count-cons run runs, fits)),
)

-- how many blocks a call wants is few
pub few_wanted : (block : ℕ) (nodes : Handle → Option NodeCopy) (present : Bool) (c : Call) → refusal block nodes c ≡ passes
    → blocks_wanted block nodes present c ≤ 1024
few_wanted block nodes present (call.Write file offset []) h = omega arith
few_wanted block nodes present (call.Write file offset (byte ∷ rest)) h =
    (count_passed block offset (length (byte ∷ rest)) (file_passed (nodes file) (text_refusal block offset (byte ∷ rest)) h).1).0
few_wanted block nodes present (call.Size file size) h = go (cuts_page block size present (bytes_of (nodes file))) where
  go : (b : Bool) → cond b 1 0 ≤ 1024
  go true = omega arith
  go false = omega arith
few_wanted block nodes present (call.Create dir name mode) h = omega arith
few_wanted block nodes present (call.Mkdir dir name mode) h = omega arith
few_wanted block nodes present (call.Read file offset count) h = omega arith
few_wanted block nodes present (call.Mode handle mode) h = omega arith
few_wanted block nodes present (call.Stat handle) h = omega arith
few_wanted block nodes present (call.List dir) h = omega arith
few_wanted block nodes present (call.Lookup dir name) h = omega arith
few_wanted block nodes present (call.SnapshotOrCleaner c) h = omega arith
few_wanted block nodes present (call.Unlink dir name) h = omega arith
few_wanted block nodes present (call.Rmdir dir name) h = omega arith
few_wanted block nodes present (call.Rename from old to new) h = omega arith

module _ (block : ℕ) (nodes : Handle → Option NodeCopy) (taken : Allocation) (some : 0 < block) (maximal : AreMaximal taken.runs) where
  abbrev blocks : List ℕ
  blocks = blocks_of taken.runs

  -- items without blocks
  one_item : (item : Item) → IsWithinFile item → numbers_in (item ∷ []) ≡ [] → AreFit blocks (item ∷ [])
  one_item item within none = record { one = (tt, tt); few = omega arith; within = (within, tt); numbers = inr none }

  begin_fits : (kind : Kind) (dir : Handle) (name : List ℕ) (mode : ℕ) → AllFit blocks (begin_plan kind dir name mode taken.made)
  begin_fits kind dir name mode = (one_item _ tt refl, (one_item _ tt refl, tt))

  write_fits : (present : Bool) (file : Handle) (offset : ℕ) (text : List ℕ) → refusal block nodes (call.Write file offset text) ≡ passes
      → length blocks ≡ blocks_wanted block nodes present (call.Write file offset text)
      → AllFit blocks (plan block nodes taken (call.Write file offset text))
  write_fits present file offset [] h count = tt
  write_fits present file offset (byte ∷ rest) h count =
      let text : List ℕ = byte ∷ rest in
      let first : ℕ = offset / block in
      let size : ℕ = length (written offset text (bytes_of (nodes file))) in
      let items : List Item = write_items first taken.runs size in
      let passed = count_passed block offset (length text) (file_passed (nodes file) (text_refusal block offset text) h).1 in
      let fits : first + length blocks ≤ 65536 = omega (
        arith,
        count,
        touched_within block offset (length text) some
            (omega arith) passed.1,
      ) in (
        record {
          one = subst BindOne (append-nil items) (writes_bind_none first size taken.runs [] (λ item. tt) tt);
          few = omega (arith, one_item_a_run first size taken.runs, few_runs taken.runs (have_blocks taken.runs maximal), count, passed.0);
          within = subst (AllByRecursion IsWithinFile) (append-nil items) (writes_within first size taken.runs [] tt fits);
          numbers = inl (write_blocks-are first taken.runs size);
        },
        tt,
      )

  size_fits : (present : Bool) (file : Handle) (size : ℕ) → refusal block nodes (call.Size file size) ≡ passes
      → length blocks ≡ blocks_wanted block nodes present (call.Size file size)
      → AllFit blocks (plan block nodes taken (call.Size file size))
  size_fits present file size h count =
      let first : ℕ = size / block in
      let items : List Item = write_items first taken.runs size in
      let fits = size_within block nodes some file size present (length blocks) h count in
      let few = few_wanted block nodes present (call.Size file size) h in (
        record {
          one = writes_bind_none first size taken.runs (SetSize size ∷ []) (λ item. (tt, tt)) (tt, tt);
          few = omega (
            arith,
            length-append items (SetSize size ∷ []),
            one_item_a_run first size taken.runs,
            few_runs taken.runs (have_blocks taken.runs maximal),
            count,
            few,
          );
          within = writes_within first size taken.runs (SetSize size ∷ []) (tt, tt) fits;
          numbers = inl (cut_blocks-are first taken.runs size);
        },
        tt,
      )

  leave_fits : (dir : Handle) (name : List ℕ) (bound : Option Handle) → AllFit blocks (leave_plan dir name bound)
  leave_fits dir name None = tt
  leave_fits dir name (Some to) = (one_item _ tt refl, (one_item _ tt refl, tt))

  replaced_fits : (other : Option Handle) → AllFit blocks (replaced_plan other)
  replaced_fits None = tt
  replaced_fits (Some to) = (one_item _ tt refl, tt)

  module _ (from : Handle) (old : List ℕ) (to : Handle) (new : List ℕ) where
    move_fits : (same : Bool) (moved : Handle) (rest : List InodePlan) → (same && same_name old new) ≡ false → AllFit blocks rest
        → AllFit blocks (move_plan same from old to new moved rest)
    move_fits true moved rest differ all = (
      record { one = ((rw differ refl, tt), (tt, tt)); few = omega arith; within = (tt, (tt, tt)); numbers = inr refl },
      all,
    )
    move_fits false moved rest differ all = (one_item _ tt refl, (one_item _ tt refl, all))

    bound_fits : (own : Bool) (bound other : Option Handle) → own_place from old to new ≡ own
        → AllFit blocks (cond own [] (bound_plan from old to new bound other))
    bound_fits true bound other is = tt
    bound_fits false None other is = tt
    bound_fits false (Some moved) other is = move_fits (same_handle from to) moved (replaced_plan other) is (replaced_fits other)

  pub plan_fits : (present : Bool) (c : Call) → refusal block nodes c ≡ passes → length blocks ≡ blocks_wanted block nodes present c
      → AllFit blocks (plan block nodes taken c)
  plan_fits present (call.Create dir name mode) h count = begin_fits File dir name mode
  plan_fits present (call.Mkdir dir name mode) h count = begin_fits Dir dir name mode
  plan_fits present (call.Write file offset text) h count = write_fits present file offset text h count
  plan_fits present (call.Read file offset n) h count = tt
  plan_fits present (call.Size file size) h count = size_fits present file size h count
  plan_fits present (call.Mode handle mode) h count = (one_item _ tt refl, tt)
  plan_fits present (call.Stat handle) h count = tt
  plan_fits present (call.List dir) h count = tt
  plan_fits present (call.Lookup dir name) h count = tt
  plan_fits present (call.SnapshotOrCleaner c) h count = tt
  plan_fits present (call.Unlink dir name) h count = leave_fits dir name (found nodes dir name)
  plan_fits present (call.Rmdir dir name) h count = leave_fits dir name (found nodes dir name)
  plan_fits present (call.Rename from old to new) h count =
      bound_fits from old to new (own_place from old to new) (found nodes from old) (found nodes to new) refl
