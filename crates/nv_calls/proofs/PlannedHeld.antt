-- The cells of a call hold all that it plans, and each inode of them has one handle.
use Rattle.std.proofs.Common.{◌≡◌, ◌≢◌, ℕ, suc, ◌<◌, ◌==◌, Bool, true, false, cond, List, [], ◌∷◌, Option, Some, None, length, arith, refl, ap, sym, ◌∙◌}
use Rattle.std.specs.Prelude.{option_and_then, option_map}
use Rattle.std.specs.List.{AllByRecursion}
use Rattle.std.proofs.lemmas.Bool.{eqb-true}
use Rattle.nv_base.specs.declared.node.Kind.{Kind}
use Rattle.nv_base.specs.declared.node.Kind.TheVariants.{File, Dir}
use Rattle.nv_base.specs.declared.numbers.Handle.{Handle}
use Rattle.nv_entry.specs.declared.item.Entry.{Entry}
use Rattle.nv_entry.specs.declared.node.NodeCopy.{NodeCopy}
use Rattle.nv_entry.specs.Node.{node_now}
use Rattle.nv_cell.specs.Cell.{CellValue, log_of}
use Rattle.nv_cell.specs.Pages.{own_bytes}
use Rattle.nv_calls.specs.AllCalls.{plan, refusal}
use Rattle.nv_calls.specs.Cells.{ino_at, state_at, value_at}
use Rattle.nv_calls.specs.Locked.{handles_made_by}
use Rattle.nv_calls.specs.Nodes.{cell_of, nodes_in, own_node, with_bytes}
use Rattle.nv_calls.specs.Plain.{PlainNode, same_handle, stamped}
use Rattle.nv_calls.specs.Refusals.{Check, found, kind_of, passes, want_bound}
use Rattle.nv_calls.specs.Slots.{last_commit}
use Rattle.nv_calls.specs.declared.call.Call.{Call}
use Rattle.nv_calls.specs.declared.call.Call.TheVariants as call
use Rattle.nv_calls.specs.declared.plan.InodePlan.{InodePlan}
use Rattle.nv_calls.specs.declared.allocation.Allocation.{Allocation}
use Rattle.nv_calls.specs.calls.Lookup.{lookup_refusal}
use Rattle.nv_calls.specs.calls.Rename.{bound_plan, move_plan, moved_refusal, own_place, pass_if, replaced_plan, replaced_refusal}
use Rattle.nv_calls.specs.calls.Unlink.{leave_plan}
use Rattle.nv_calls.proofs.Commits.{handle-same}
use Rattle.nv_calls.proofs.Passed.{HasKind, IsThere, both_passed, directory_passed, elsewhere, file_passed, look_passed, moved_passed, names_passed, node_passed, there}

-- ---- the nodes of cells

-- the cell of a node that is there
pub record HasCell (cells : List (ℕ × CellValue)) (handle : Handle) : Type 0 where
  pub cell : CellValue
  pub is : cell_of cells handle.ino ≡ Some cell
  pub own : handle.generation ≡ cell.state.generation
  pub some : log_of cell.state ≡ [] → ⊥

pub has_cell : (cells : List (ℕ × CellValue)) (handle : Handle) → IsThere (nodes_in cells handle) → HasCell cells handle
has_cell cells handle t = go (cell_of cells handle.ino) refl t.is where
  node_by : CellValue → List Entry → Option PlainNode
  node_by c log = stamped (last_commit log) (node_now (λ number. []) c.state.block log)

  none : (c : CellValue) → log_of c.state ≡ [] → option_map (λ (p : PlainNode). p.node)
      (option_map (with_bytes (own_bytes c.state)) (node_by c (log_of c.state))) ≡ None
  none c empty = ap (λ (log : List Entry). option_map (λ (p : PlainNode). p.node)
      (option_map (with_bytes (own_bytes c.state)) (node_by c log))) empty

  own_of : (c : CellValue) (b : Bool) → (handle.generation == c.state.generation) ≡ b
      → option_map (λ (p : PlainNode). p.node) (option_map (with_bytes (own_bytes c.state))
      (cond b (node_by c (log_of c.state)) None)) ≡ Some t.node
      → (handle.generation ≡ c.state.generation) × (log_of c.state ≡ [] → ⊥)
  own_of c true q h = (eqb-true handle.generation c.state.generation q, λ empty. let z : None ≡ Some t.node = sym (none c empty) ∙ h in cc)
  own_of c false q h = cc

  go : (o : Option CellValue) → cell_of cells handle.ino ≡ o
      → option_map (λ (p : PlainNode). p.node) (option_and_then (λ (c : CellValue). own_node c.state handle)
      (cell_of cells handle.ino)) ≡ Some t.node
      → HasCell cells handle
  go None q h =
      let z : None ≡ Some t.node = sym (ap (λ (o : Option CellValue). option_map (λ (p : PlainNode). p.node)
      (option_and_then (λ (c : CellValue). own_node c.state handle) o)) q) ∙ h in
      cc
  go (Some c) q h =
      let at : option_map (λ (p : PlainNode). p.node) (own_node c.state handle) ≡ Some t.node =
      sym (ap (λ (o : Option CellValue). option_map (λ (p : PlainNode). p.node)
      (option_and_then (λ (c : CellValue). own_node c.state handle) o)) q) ∙ h in
      let both = own_of c (handle.generation == c.state.generation) refl at in
      record { cell = c; is = q; own = both.0; some = both.1 }

-- one inode has one handle that leads to a node
pub one_handle_in : (cells : List (ℕ × CellValue)) (a b : Handle) → IsThere (nodes_in cells a) → IsThere (nodes_in cells b)
    → a.ino ≡ b.ino → a ≡ b
one_handle_in cells a b x y i =
    let f = has_cell cells a x in
    let g = has_cell cells b y in
    let both : Some f.cell ≡ Some g.cell = sym f.is ∙ ap (cell_of cells) i ∙ g.is in
    let same : f.cell ≡ g.cell = cc in
    handle-same a b i (f.own ∙ ap (λ (c : CellValue). c.state.generation) same ∙ sym g.own)

-- an empty slot has no node
pub empty_apart : (cells : List (ℕ × CellValue)) (c : CellValue) (ino : ℕ) (other : Handle) → cell_of cells ino ≡ Some c
    → log_of c.state ≡ []
    → IsThere (nodes_in cells other) → ino ≢ other.ino
empty_apart cells c ino other is empty t i =
    let f = has_cell cells other t in
    let both : Some c ≡ Some f.cell = sym is ∙ ap (cell_of cells) i ∙ f.is in
    let same : c ≡ f.cell = cc in
    f.some (ap (λ (v : CellValue). log_of v.state) (sym same) ∙ empty)

-- the place of a cell
pub record IsHeld (cells : List (ℕ × CellValue)) (handle : Handle) : Type 0 where
  pub k : ℕ
  pub within : k < length cells
  pub ino : ino_at cells k ≡ handle.ino
  pub generation : (state_at cells k).generation ≡ handle.generation

pub cell_place : (cells : List (ℕ × CellValue)) (ino : ℕ) (c : CellValue) → cell_of cells ino ≡ Some c
    → (k : ℕ) × (k < length cells) × (ino_at cells k ≡ ino) × (value_at cells k ≡ c)
cell_place [] ino c h = cc
cell_place (x ∷ cells) ino c h = go (x.0 == ino) refl h (cell_place cells ino c) where
  go : (b : Bool) → (x.0 == ino) ≡ b → cond b (Some x.1) (cell_of cells ino) ≡ Some c
      → (cell_of cells ino ≡ Some c → (k : ℕ) × (k < length cells) × (ino_at cells k ≡ ino) × (value_at cells k ≡ c))
      → (k : ℕ) × (k < length (x ∷ cells)) × (ino_at (x ∷ cells) k ≡ ino) × (value_at (x ∷ cells) k ≡ c)
  go true q e rest = let same : x.1 ≡ c = cc in (0, omega arith, eqb-true x.0 ino q, same)
  go false q e rest = let r = rest e in (suc r.0, omega (arith, r.1), r.2, r.3)

pub held_by : (cells : List (ℕ × CellValue)) (handle : Handle) (c : CellValue) → cell_of cells handle.ino ≡ Some c
    → handle.generation ≡ c.state.generation → IsHeld cells handle
held_by cells handle c is own =
    let p = cell_place cells handle.ino c is in
    record { k = p.0; within = p.1; ino = p.2; generation = ap (λ (v : CellValue). v.state.generation) p.3 ∙ sym own }

pub held_there : (cells : List (ℕ × CellValue)) (handle : Handle) → IsThere (nodes_in cells handle) → IsHeld cells handle
held_there cells handle t = let f = has_cell cells handle t in held_by cells handle f.cell f.is f.own

-- ---- what is planned is of nodes that are there, and of the one made

module _ (block : ℕ) (nodes : Handle → Option NodeCopy) (taken : Allocation) (Holds : Handle → Type 0)
    (there_holds : (handle : Handle) → IsThere (nodes handle) → Holds handle) where
  abbrev All : List InodePlan → Type 0
  All plan = AllByRecursion (λ (p : InodePlan). Holds p.handle) plan

  directory : (dir : Handle) → HasKind Dir (nodes dir) → Holds dir
  directory dir d = there_holds dir (there Dir (nodes dir) d)

  leave_all : (dir : Handle) (name : List ℕ) (bound : Option Handle) (next : Handle → Check) → Holds dir
      → ((to : Handle) → next to ≡ passes → IsThere (nodes to)) → want_bound bound next ≡ passes → All (leave_plan dir name bound)
  leave_all dir name None next d is_there h = tt
  leave_all dir name (Some to) next d is_there h = (d, (there_holds to (is_there to h), tt))

  module _ (from : Handle) (old : List ℕ) (to : Handle) (new : List ℕ) (f : Holds from) (t : Holds to) where
    replaced_all : (moved : Option Kind) (other : Option Handle) → replaced_refusal nodes moved other ≡ passes → All (replaced_plan other)
    replaced_all moved None h = tt
    replaced_all moved (Some other) h = (there_holds other (node_passed (nodes other) _ h).0, tt)

    moves_all : (same : Bool) (moved : Handle) (rest : List InodePlan) → All rest → All (move_plan same from old to new moved rest)
    moves_all true moved rest all = (f, all)
    moves_all false moved rest all = (f, (t, all))

    bound_all : (own : Bool) (bound other : Option Handle) → own_place from old to new ≡ own
        → want_bound bound (λ moved. pass_if (own_place from old to new) (moved_refusal nodes from to other moved)) ≡ passes
        → All (cond own [] (bound_plan from old to new bound other))
    bound_all true bound other is h = tt
    bound_all false None other is h = tt
    bound_all false (Some moved) other is h =
        let last = elsewhere (own_place from old to new) (moved_refusal nodes from to other moved) is h in
        let m = moved_passed block nodes from old to new moved other last in
        moves_all (same_handle from to) moved (replaced_plan other) (replaced_all (kind_of (nodes moved)) other m.1)

  pub all_held : (c : Call) → refusal block nodes c ≡ passes → AllByRecursion Holds (handles_made_by taken.made c) → All (plan block nodes taken c)
  all_held (call.Create dir name mode) h made = (directory dir (directory_passed (nodes dir) _ h).0, made)
  all_held (call.Mkdir dir name mode) h made = (directory dir (directory_passed (nodes dir) _ h).0, made)
  all_held (call.Write file offset []) h made = tt
  all_held (call.Write file offset (byte ∷ rest)) h made = (there_holds file (there File (nodes file) (file_passed (nodes file) _ h).0), tt)
  all_held (call.Read file offset count) h made = tt
  all_held (call.Size file size) h made = (there_holds file (there File (nodes file) (file_passed (nodes file) _ h).0), tt)
  all_held (call.Mode handle mode) h made = (there_holds handle (node_passed (nodes handle) _ h).0, tt)
  all_held (call.Stat handle) h made = tt
  all_held (call.List dir) h made = tt
  all_held (call.Lookup dir name) h made = tt
  all_held (call.SnapshotOrCleaner c) h made = tt
  all_held (call.Unlink dir name) h made =
      let both = both_passed (lookup_refusal nodes dir name) _ h in
      leave_all dir name (found nodes dir name) _ (directory dir (look_passed nodes dir name both.0).0)
      (λ to e. there File (nodes to) (file_passed (nodes to) passes e).0) both.1
  all_held (call.Rmdir dir name) h made =
      let both = both_passed (lookup_refusal nodes dir name) _ h in
      leave_all dir name (found nodes dir name) _ (directory dir (look_passed nodes dir name both.0).0)
      (λ to e. there Dir (nodes to) (directory_passed (nodes to) _ e).0) both.1
  all_held (call.Rename from old to new) h made =
      let names = names_passed block nodes from old to new h in
      bound_all from old to new (directory from names.0) (directory to names.1) (own_place from old to new) (found nodes from old)
      (found nodes to new) refl names.4
