-- A call that has something to commit gets entries for at least one inode.
use Rattle.std.proofs.Common.{Bool, List, None, Option, Some, [], ap, arith, cond, false, length, length-append, refl, subst, sym, true, ℕ, ◌+◌, ◌-◌, ◌/◌, ◌<◌, ◌∙◌, ◌∷◌, ◌≡◌}
use Rattle.std.proofs.Math.Nat.{div-mul-le_self}
use Rattle.std.proofs.lemmas.Nat.{le-div}
use Rattle.nv_alloc.specs.Numbers.{has}
use Rattle.nv_base.specs.declared.numbers.Handle.{Handle}
use Rattle.nv_entry.specs.Bytes.{pages_touched, written}
use Rattle.nv_entry.specs.Sound.{blocks_of, write_items}
use Rattle.nv_entry.specs.declared.item.Item.{Item}
use Rattle.nv_entry.specs.declared.item.Item.TheVariants.{SetSize}
use Rattle.nv_entry.specs.declared.item.BlockRun.{BlockRun}
use Rattle.nv_entry.specs.declared.node.NodeCopy.{NodeCopy}
use Rattle.nv_calls.specs.AllCalls.{blocks_wanted, is_nothing, plan, present_in, refusal}
use Rattle.nv_calls.specs.Plain.{node_in, same_handle}
use Rattle.nv_calls.specs.Refusals.{bytes_of, found, passes}
use Rattle.nv_calls.specs.Slots.{items_for}
use Rattle.nv_calls.specs.calls.Rename.{bound_plan, move_plan, own_place, replaced_plan}
use Rattle.nv_calls.specs.calls.Unlink.{leave_plan}
use Rattle.nv_calls.specs.declared.call.Call.{Call}
use Rattle.nv_calls.specs.declared.plan.InodePlan.{InodePlan}
use Rattle.nv_calls.specs.declared.allocation.Allocation.{Allocation}
use Rattle.nv_calls.proofs.Lawful.{one_item_a_run}
use Rattle.nv_calls.proofs.Nothing.{told_nothing}
use Rattle.nv_alloc.specs.Block.{BlockValue, numbers_of}
use Rattle.nv_base.specs.declared.geometry.GeometryNumbers.{GeometryNumbers}
use Rattle.nv_machine.specs.Effects.{settled_slots}
use Rattle.nv_machine.specs.FitsNow.{bytes_in}
use Rattle.nv_machine.specs.Reads.{written_slots}
use Rattle.nv_machine.specs.Settled.{settled_nodes}
use Rattle.nv_machine.specs.World.{Enter, HandState, Running, World}
use Rattle.nv_machine.proofs.FitsBytes.{written as are_written}
use Rattle.nv_machine.proofs.FitsEvents.{IsKnown, is_read}
use Rattle.nv_machine.proofs.FitsRuns.{taken_of}
use Rattle.nv_machine.proofs.FitsStages.{FitsAt}
use Rattle.nv_machine.proofs.Lists.{self}
use Rattle.nv_machine.proofs.PlansOfBlocks.{length_numbers, runs_are, small_numbers}
use Rattle.nv_calls.specs.declared.call.Call.TheVariants as call

-- a plan has items for some slot
pub record HasItems (plan : List InodePlan) : Type 0 where
  pub slot : ℕ
  pub some : 0 < length (items_for plan slot)

first_has : (p : InodePlan) (plan : List InodePlan) → 0 < length p.items → HasItems (p ∷ plan)
first_has p plan some = record { slot = p.handle.ino; some = rw (self p.handle.ino) some }

-- a text that is not empty touches a page
touches : (block offset count : ℕ) → 0 < block → 0 < count → 0 < pages_touched block offset count
touches block offset count some more =
    let below = le-div (offset / block) (offset + count - 1) block some (omega (arith, more, div-mul-le_self offset block)) in
    omega (arith, below)

has_runs : (runs : List BlockRun) → 0 < length (blocks_of runs) → 0 < length runs
has_runs [] some = some
has_runs (run ∷ runs) some = omega arith

leave_has : (dir : Handle) (name : List ℕ) (bound : Option Handle) → 0 < length (leave_plan dir name bound)
    → HasItems (leave_plan dir name bound)
leave_has dir name None some = absurd (omega (arith, some))
leave_has dir name (Some to) some = first_has _ _ (omega arith)

move_has : (same : Bool) (from : Handle) (old : List ℕ) (to : Handle) (new : List ℕ) (moved : Handle) (rest : List InodePlan)
    → HasItems (move_plan same from old to new moved rest)
move_has true from old to new moved rest = first_has _ _ (omega arith)
move_has false from old to new moved rest = first_has _ _ (omega arith)

rename_has : (own : Bool) (from : Handle) (old : List ℕ) (to : Handle) (new : List ℕ) (bound other : Option Handle)
    → 0 < length (cond own [] (bound_plan from old to new bound other)) → HasItems (cond own [] (bound_plan from old to new bound other))
rename_has true from old to new bound other some = absurd (omega (arith, some))
rename_has false from old to new None other some = absurd (omega (arith, some))
rename_has false from old to new (Some moved) other some = move_has (same_handle from to) from old to new moved (replaced_plan other)

module _ (block : ℕ) (nodes : Handle → Option NodeCopy) (taken : Allocation) (positive : 0 < block) where
  pub plan_has : (present : Bool) (c : Call) → refusal block nodes c ≡ passes → is_nothing c ≡ false
      → length (blocks_of taken.runs) ≡ blocks_wanted block nodes present c → HasItems (plan block nodes taken c)
  plan_has present (call.Create dir name mode) h some count = first_has _ _ (omega arith)
  plan_has present (call.Mkdir dir name mode) h some count = first_has _ _ (omega arith)
  plan_has present (call.Write file offset (byte ∷ rest)) h some count =
      let size = length (written offset (byte ∷ rest) (bytes_of (nodes file))) in
      let one = one_item_a_run (offset / block) size taken.runs in
      let runs = has_runs taken.runs (omega (arith, count, touches block offset (length (byte ∷ rest)) positive (omega arith))) in
      first_has _ _ (omega (arith, one, runs))
  plan_has present (call.Size file size) h some count =
      first_has _ _ (let n = length-append (write_items (size / block) taken.runs size) (SetSize size ∷ []) in omega (arith, n))
  plan_has present (call.Mode handle mode) h some count = first_has _ _ (omega arith)
  plan_has present (call.Unlink dir name) h some count =
      let t = told_nothing block nodes taken (call.Unlink dir name) h in leave_has dir name (found nodes dir name) (t.some_plan some)
  plan_has present (call.Rmdir dir name) h some count =
      let t = told_nothing block nodes taken (call.Rmdir dir name) h in leave_has dir name (found nodes dir name) (t.some_plan some)
  plan_has present (call.Rename from old to new) h some count =
      let t = told_nothing block nodes taken (call.Rename from old to new) h in
      rename_has (own_place from old to new) from old to new (found nodes from old) (found nodes to new) (t.some_plan some)
  plan_has present (call.Read file offset count) h some wanted = cc
  plan_has present other h some count = cc

-- so the slots that are written are not none
pub some_written : (slots : List ℕ) (plan : List InodePlan) → ((ino : ℕ) → has slots ino ≡ false → items_for plan ino ≡ [])
    → HasItems plan → 0 < length slots
some_written [] plan out some =
    let none = ap (λ (l : List Item). length l) (out some.slot refl) in absurd (let lt = some.some in omega (arith, lt, none))
some_written (slot ∷ slots) plan out some = omega arith

-- ---- at the enter

module _ (g : GeometryNumbers) (w : World) (known : IsKnown g w) (r : Running) (h : HandState) where
  abbrev block : ℕ
  block = w.numbers.block

  -- a call that enters with something to commit writes some inode
  pub enter_writes : FitsAt Enter block w.shared h r → is_nothing r.call ≡ false → 0 < length (written_slots r)
  enter_writes f some =
      let s = w.shared in
      let k = known.reached in
      let d = f.1 in
      let taken = taken_of r.made d.fresh in
      let runs = runs_are (numbers_of d.fresh) (small_numbers d.fresh d.drawn.filled.small) in
      some_written (written_slots r) r.plan
      (are_written (bytes_in s) block s (is_read g w known) known.fit.sound r k.kept.some f.0 (λ (fresh : List BlockValue). h.blocks ≡ fresh) d)
      (subst HasItems (sym d.drawn.plan) (plan_has block (node_in (settled_nodes s)) taken k.kept.some (present_in block (settled_slots s) r.call) r.call f.0.passes some
      (ap (λ (l : List ℕ). length l) runs ∙ length_numbers d.fresh ∙ d.drawn.filled.count)))
