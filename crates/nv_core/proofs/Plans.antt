-- A call looks up, plans and wants over the cells of its slots what it does in the machine.
use Rattle.std.proofs.Common.{◌≡◌, ℕ, suc, ◌<◌, ◌∙◌, true, List, [], ◌∷◌, length, map, replicate, Option, arith, refl, ap, ap₂, sym, subst}
use Rattle.std.specs.Prelude.{unwrap_or}
use Rattle.std.specs.List.{sum}
use Rattle.std.proofs.lemmas.List.Sums.{sum-map}
use Rattle.nv_alloc.specs.Block.{numbers_of}
use Rattle.nv_alloc.specs.declared.hand.Hand.{Hand}
use Rattle.nv_base.specs.declared.numbers.Handle.{Handle}
use Rattle.nv_calls.proofs.TextLengths.{same_plan}
use Rattle.nv_calls.specs.AllCalls.{early, looked, plan}
use Rattle.nv_calls.specs.Locked.{Agree, handles}
use Rattle.nv_calls.specs.Nodes.{block_in, has_page_in, nodes_in}
use Rattle.nv_calls.specs.PagesWanted as wanted
use Rattle.nv_calls.specs.Plain.{PlainNode, node_in}
use Rattle.nv_calls.specs.Plan.{block_runs_of}
use Rattle.nv_calls.specs.Prepared.{handle_made_by, makes, no_handle, planned_by, taken_by}
use Rattle.nv_calls.specs.SlotCells.{lent_cells}
use Rattle.nv_calls.specs.Slots.{items_for}
use Rattle.nv_calls.specs.Updates.{SamePlan, blank_call, call_of, text_len}
use Rattle.nv_calls.specs.calls.Create.{create_plan}
use Rattle.nv_calls.specs.calls.Mkdir.{mkdir_plan}
use Rattle.nv_calls.specs.calls.Size.{size_plan}
use Rattle.nv_calls.specs.calls.Write.{write_plan}
use Rattle.nv_entry.specs.declared.node.NodeCopy.{NodeCopy}
use Rattle.nv_calls.specs.declared.call.Call.{Call}
use Rattle.nv_calls.specs.declared.call.Call.TheVariants as call
use Rattle.nv_calls.specs.declared.plan.InodePlan.{InodePlan}
use Rattle.nv_calls.specs.declared.allocation.Allocation.{Allocation}
use Rattle.nv_calls.specs.declared.update.Update.{Update}
use Rattle.nv_calls.specs.declared.update.Update.TheVariants as update
use Rattle.nv_cell.specs.Cell.{CellState, CellValue}
use Rattle.nv_log.specs.Chain.{pages_for}
use Rattle.nv_machine.specs.Reads.{copies, pages_needed, pages_wanted}
use Rattle.nv_machine.specs.Sequence.{nothing_looked}
use Rattle.nv_core.proofs.Nodes.{cell_is, lent_call_same}
use Rattle.nv_core.specs.Nodes.{CanRead}
use Rattle.nv_core.specs.Parts.{AreSlots}
use Rattle.nv_core.specs.Shown.{shared_of}
use Rattle.nv_core.specs.declared.shared.Shared.{Shared}

-- ---- what is looked up

-- where the handles agree that a call names, its names lead to the same, and the tests before are the same
pub record LooksSame (one other : Handle → Option PlainNode) (c : Call) : Type 0 where
  pub found : looked (node_in other) c ≡ looked (node_in one) c
  pub early : early (node_in other) c ≡ early (node_in one) c

pub looks_same : (one other : Handle → Option PlainNode) (c : Call) → Agree one other (handles nothing_looked c) → LooksSame one other c
looks_same one other (call.Unlink dir name) h = let e = h.0 in record { found = rw e refl; early = rw e refl }
looks_same one other (call.Rmdir dir name) h = let e = h.0 in record { found = rw e refl; early = rw e refl }
looks_same one other (call.Rename from old to new) h =
    let e = h.0 in let f = h.1.0 in record { found = rw e (rw f refl); early = rw e (rw f refl) }
looks_same one other (call.Create dir name mode) h = record { found = refl; early = refl }
looks_same one other (call.Mkdir dir name mode) h = record { found = refl; early = refl }
looks_same one other (call.Write file offset text) h = record { found = refl; early = refl }
looks_same one other (call.Read file offset count) h = record { found = refl; early = refl }
looks_same one other (call.Size file size) h = record { found = refl; early = refl }
looks_same one other (call.Mode handle mode) h = record { found = refl; early = refl }
looks_same one other (call.Stat handle) h = record { found = refl; early = refl }
looks_same one other (call.List dir) h = record { found = refl; early = refl }
looks_same one other (call.Lookup dir name) h = record { found = refl; early = refl }
looks_same one other (call.SnapshotOrCleaner on) h = record { found = refl; early = refl }

-- ---- log pages

needs_same : (shared : Shared) (slots : List ℕ) (items : List InodePlan) → AreSlots shared slots
    → map (wanted.pages_needed items) (lent_cells slots shared.cells.items) ≡ map (pages_needed (shared_of shared) items) slots
needs_same shared [] items there = refl
needs_same shared (n ∷ slots) items there =
    ap₂ (λ (c : CellState) (rest : List ℕ). pages_for c.chain (length (items_for items n)) ∷ rest)
    (sym (cell_is shared n (there 0 (omega arith))))
    (needs_same shared slots items (λ k lt. there (suc k) (omega (arith, lt))))

-- the plan's entries need as many log pages
pub pages_same : (shared : Shared) (slots : List ℕ) (items : List InodePlan) → AreSlots shared slots
    → wanted.pages_wanted (lent_cells slots shared.cells.items) items ≡ pages_wanted (shared_of shared) slots items
pages_same shared slots items there =
    sym (sum-map (wanted.pages_needed items) (lent_cells slots shared.cells.items))
    ∙ ap sum (needs_same shared slots items there)
    ∙ sum-map (pages_needed (shared_of shared) items) slots

-- ---- plans

-- the cells have blocks of the device's size
pub block_same : (shared : Shared) (slots : List ℕ) (list : List Handle) → CanRead shared slots list → 0 < length slots
    → block_in (lent_cells slots shared.cells.items) ≡ shared.geometry.numbers.block
block_same shared [] list can some = absurd (omega (arith, some))
block_same shared (n ∷ slots) list can some = can.own.0.size

-- a plan depends on the new handle where one is made, and never on the page that a size ends in
plan_taken : (block : ℕ) (n : Handle → Option NodeCopy) (one other : Allocation) (u : Update) → one.runs ≡ other.runs
    → (makes u ≡ true → one.made ≡ other.made) → plan block n one (blank_call u) ≡ plan block n other (blank_call u)
plan_taken block n one other (update.Create dir name mode) runs made = ap (create_plan dir name mode) (made refl)
plan_taken block n one other (update.Mkdir dir name mode) runs made = ap (mkdir_plan dir name mode) (made refl)
plan_taken block n one other (update.Write file offset count) runs made = ap (write_plan block n file offset (replicate count 0)) runs
plan_taken block n one other (update.Size file size) runs made = ap (size_plan block file size) runs
plan_taken block n one other (update.Mode handle mode) runs made = refl
plan_taken block n one other (update.Unlink dir name) runs made = refl
plan_taken block n one other (update.Rmdir dir name) runs made = refl
plan_taken block n one other (update.Rename from old to new) runs made = refl

-- the plan of a call over the lent cells is the machine's, whatever its text
pub planned_same : (shared : Shared) (slots : List ℕ) (hand : Hand) (u : Update) (text : List ℕ) (made : Handle)
    → CanRead shared slots (handles (looked (copies (shared_of shared)) (call_of u text)) (call_of u text)) → 0 < length slots
    → text_len u ≡ length text
    → (makes u ≡ true → made ≡ unwrap_or (handle_made_by (lent_cells slots shared.cells.items) hand.ino u) no_handle)
    → plan shared.geometry.numbers.block (copies (shared_of shared))
    (record { made = made; runs = block_runs_of (numbers_of hand.«data».blocks) }) (call_of u text)
    ≡ planned_by (lent_cells slots shared.cells.items) hand u
planned_same shared slots hand u text made can some len is =
    with_blank.plan
    ∙ sym (lent_call_same block shared slots taken (blank_call u) (subst (CanRead shared slots) with_blank.handles can)).plan
    ∙ plan_taken block (nodes_in lent) taken (taken_by lent hand u) u refl is
    ∙ ap (λ (n : ℕ). plan n (nodes_in lent) (taken_by lent hand u) (blank_call u)) (sym (block_same shared slots _ can some)) where
      block : ℕ
      block = shared.geometry.numbers.block

      lent : List (ℕ × CellValue)
      lent = lent_cells slots shared.cells.items

      taken : Allocation
      taken = record { made = made; runs = block_runs_of (numbers_of hand.«data».blocks) }

      with_blank : SamePlan block (copies (shared_of shared)) (has_page_in lent) taken (blank_call u) (call_of u text)
      with_blank = same_plan block (copies (shared_of shared)) (has_page_in lent) taken u text (sym len)
