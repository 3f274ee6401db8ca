-- A call that goes by its names wants no log page where each log has room for two entries.
use Rattle.std.proofs.Common.{◌≡◌, ℕ, zero, suc, ◌<◌, ◌≤◌, ◌==◌, Bool, true, false, cond, List, [], ◌∷◌, Option, Some, None, length, arith, refl, sum_by}
use Rattle.std.specs.List.{AllByRecursion}
use Rattle.std.proofs.lemmas.List.Sums.{sum_by-cons}
use Rattle.nv_alloc.specs.declared.hand.Hand.{Hand}
use Rattle.nv_base.specs.declared.numbers.Handle.{Handle}
use Rattle.nv_cell.specs.Cell.{CellValue}
use Rattle.nv_entry.specs.declared.node.NodeCopy.{NodeCopy}
use Rattle.nv_log.specs.Chain.{room_of}
use Rattle.nv_log.proofs.Growth.{none_more}
use Rattle.nv_calls.specs.AllCalls.{plan}
use Rattle.nv_calls.specs.ByNames.{goes_by_names}
use Rattle.nv_calls.specs.Cells.{state_at}
use Rattle.nv_calls.specs.Nodes.{block_in, nodes_in}
use Rattle.nv_calls.specs.PagesWanted.{pages_needed, pages_wanted}
use Rattle.nv_calls.specs.Plain.{same_handle}
use Rattle.nv_calls.specs.Prepared.{planned_by, taken_by}
use Rattle.nv_calls.specs.Refusals.{found}
use Rattle.nv_calls.specs.Slots.{items_for}
use Rattle.nv_calls.specs.Updates.{blank_call}
use Rattle.nv_calls.specs.calls.Rename.{bound_plan, move_plan, own_place, replaced_plan}
use Rattle.nv_calls.specs.calls.Unlink.{leave_plan}
use Rattle.nv_calls.specs.declared.allocation.Allocation.{Allocation}
use Rattle.nv_calls.specs.declared.plan.InodePlan.{InodePlan}
use Rattle.nv_calls.specs.declared.update.Update.{Update}
use Rattle.nv_calls.specs.declared.update.Update.TheVariants as update

-- each inode gets at most two items
abbrev AreShort : List InodePlan → Type 0
AreShort plan = AllByRecursion (λ (p : InodePlan). length p.items ≤ 2) plan

-- ---- a plan by names

leave_short : (dir : Handle) (name : List ℕ) (to : Option Handle) → AreShort (leave_plan dir name to)
leave_short dir name None = tt
leave_short dir name (Some to) = (omega arith, (omega arith, tt))

replaced_short : (other : Option Handle) → AreShort (replaced_plan other)
replaced_short None = tt
replaced_short (Some other) = (omega arith, tt)

move_short : (same : Bool) (from : Handle) (old : List ℕ) (to : Handle) (new : List ℕ) (moved : Handle) (rest : List InodePlan)
    → AreShort rest → AreShort (move_plan same from old to new moved rest)
move_short true from old to new moved rest short = (omega arith, short)
move_short false from old to new moved rest short = (omega arith, (omega arith, short))

rename_short : (own : Bool) (from : Handle) (old : List ℕ) (to : Handle) (new : List ℕ) (first second : Option Handle)
    → AreShort (cond own [] (bound_plan from old to new first second))
rename_short true from old to new first second = tt
rename_short false from old to new None second = tt
rename_short false from old to new (Some moved) second =
    move_short (same_handle from to) from old to new moved (replaced_plan second) (replaced_short second)

module _ (block : ℕ) (nodes : Handle → Option NodeCopy) (taken : Allocation) where
  short_by_names : (u : Update) → goes_by_names u ≡ true → AreShort (plan block nodes taken (blank_call u))
  short_by_names (update.Create dir name mode) by = cc
  short_by_names (update.Mkdir dir name mode) by = cc
  short_by_names (update.Write file offset count) by = cc
  short_by_names (update.Size file size) by = cc
  short_by_names (update.Mode handle mode) by = cc
  short_by_names (update.Unlink dir name) by = leave_short dir name (found nodes dir name)
  short_by_names (update.Rmdir dir name) by = leave_short dir name (found nodes dir name)
  short_by_names (update.Rename from old to new) by =
      rename_short (own_place from old to new) from old to new (found nodes from old) (found nodes to new)

-- ---- over cells

short_for : (plan : List InodePlan) (ino : ℕ) → AreShort plan → length (items_for plan ino) ≤ 2
short_for [] ino short = omega arith
short_for (p ∷ plan) ino short = go (p.handle.ino == ino) (short_for plan ino short.1) where
  go : (b : Bool) → length (items_for plan ino) ≤ 2 → length (cond b p.items (items_for plan ino)) ≤ 2
  go true rest = short.0
  go false rest = rest

none_needed : (cells : List (ℕ × CellValue)) (plan : List InodePlan) → AreShort plan
    → ((k : ℕ) → k < length cells → 2 ≤ room_of (state_at cells k).chain) → pages_wanted cells plan ≡ 0
none_needed [] plan short room = refl
none_needed (c ∷ cells) plan short room =
    let chain = c.1.state.chain in
    let own : pages_needed plan c ≡ 0 =
    none_more chain.page (length chain.blocks) (room_of chain) (length (items_for plan c.0))
    (omega (arith, room 0 (omega arith), short_for plan c.0 short)) in
    omega (arith, own, none_needed cells plan short (λ k lt. room (suc k) (omega (arith, lt))), sum_by-cons (pages_needed plan) c cells)

pub none_by_names : (cells : List (ℕ × CellValue)) (hand : Hand) (u : Update) → goes_by_names u ≡ true
    → ((k : ℕ) → k < length cells → 2 ≤ room_of (state_at cells k).chain) → pages_wanted cells (planned_by cells hand u) ≡ 0
none_by_names cells hand u by room =
    none_needed cells (planned_by cells hand u) (short_by_names (block_in cells) (nodes_in cells) (taken_by cells hand u) u by) room
