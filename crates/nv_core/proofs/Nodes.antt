-- The nodes that a call reads over the cells of its slots are those of the machine.
use Rattle.std.proofs.Common.{◌≡◌, ℕ, ◌<◌, ◌≤◌, ◌==◌, ◌∙◌, Bool, true, false, cond, List, [], ◌∷◌, length, map, Option, Some, None, arith, refl, ap, sym, subst, nat_lt}
use Rattle.std.specs.Prelude.{is_some, option_and_then, slice_index_or, option_map, unwrap_or}
use Rattle.std.specs.List.{AllByRecursion, AllPairs}
use Rattle.std.proofs.lemmas.Bool.{eqb-true, eq-eqb, ltb-true, ltb-false}
use Rattle.std.proofs.lemmas.List.{get_or-map, get_or_past, length-map}
use Rattle.nv_alloc.specs.Numbers.{has}
use Rattle.nv_base.specs.declared.numbers.Handle.{Handle}
use Rattle.nv_calls.specs.Cells.{AreCells, no_cell}
use Rattle.nv_calls.specs.Locked.{Agree, SameCall, handles}
use Rattle.nv_calls.specs.Nodes.{alone, cell_of, has_page_in, own_node, plain_nodes, slots_by, with_bytes}
use Rattle.nv_calls.specs.Plain.{stamped}
use Rattle.nv_calls.specs.Slots.{last_commit, node_under}
use Rattle.nv_cell.specs.Pages.{own_bytes}
use Rattle.nv_entry.specs.Node.{block_now, node_now}
use Rattle.nv_calls.specs.SlotCells.{cell_in, lent_cells}
use Rattle.nv_calls.specs.declared.call.Call.{Call}
use Rattle.nv_calls.specs.AllCalls.{looked}
use Rattle.nv_calls.specs.declared.allocation.Allocation.{Allocation}
use Rattle.nv_calls.proofs.NodesHeld.{nodes_are}
use Rattle.nv_calls.proofs.Same.{call_same}
use Rattle.nv_cell.specs.Cell.{CellState, CellValue, log_of}
use Rattle.nv_machine.specs.Reads.{bytes_among, copies, node_of, nodes}
use Rattle.nv_machine.specs.World.{cell_at}
use Rattle.nv_machine.specs.World as machine
use Rattle.nv_core.specs.Nodes.{CanRead, HasOwn}
use Rattle.nv_core.specs.Shown.{shared_of}
use Rattle.nv_core.specs.declared.shared.Shared.{Shared}

-- ---- the cells of slots

pub lent_of : (slots : List ℕ) (all : List CellValue) (ino : ℕ) → has slots ino ≡ true
    → cell_of (lent_cells slots all) ino ≡ Some (cell_in all ino)
lent_of [] all ino h = cc
lent_of (n ∷ slots) all ino h = go (n == ino) refl h (lent_of slots all ino) where
  go : (b : Bool) → (n == ino) ≡ b → has (n ∷ slots) ino ≡ true
      → (has slots ino ≡ true → cell_of (lent_cells slots all) ino ≡ Some (cell_in all ino))
      → cond (n == ino) (Some (cell_in all n)) (cell_of (lent_cells slots all) ino) ≡ Some (cell_in all ino)
  go true q h rest = rw q (ap (λ (k : ℕ). Some (cell_in all k)) (eqb-true n ino q))
  go false q h rest = rw q (rest (rw q at h))

pub lent_none : (slots : List ℕ) (all : List CellValue) (ino : ℕ) → has slots ino ≡ false → cell_of (lent_cells slots all) ino ≡ None
lent_none [] all ino h = refl
lent_none (n ∷ slots) all ino h = go (n == ino) refl h (lent_none slots all ino) where
  go : (b : Bool) → (n == ino) ≡ b → has (n ∷ slots) ino ≡ false → (has slots ino ≡ false → cell_of (lent_cells slots all) ino ≡ None)
      → cond (n == ino) (Some (cell_in all n)) (cell_of (lent_cells slots all) ino) ≡ None
  go true q h rest = let h = rw q at h in cc
  go false q h rest = rw q (rest (rw q at h))

-- what holds of each cell that is lent holds of the cell of a slot
lent_each : (P : CellState → Type 0) (slots : List ℕ) (all : List CellValue) (ino : ℕ) → has slots ino ≡ true
    → AllByRecursion (λ (c : ℕ × CellValue). P c.1.state) (lent_cells slots all) → P (cell_in all ino).state
lent_each P [] all ino h each = cc
lent_each P (n ∷ slots) all ino h each = go (n == ino) refl h (lent_each P slots all ino) where
  go : (b : Bool) → (n == ino) ≡ b → has (n ∷ slots) ino ≡ true
      → (has slots ino ≡ true → AllByRecursion (λ (c : ℕ × CellValue). P c.1.state) (lent_cells slots all) → P (cell_in all ino).state)
      → P (cell_in all ino).state
  go true q h rest = subst (λ (k : ℕ). P (cell_in all k).state) (eqb-true n ino q) each.0
  go false q h rest = let h = rw q at h in rest h each.1

-- the cells of slots that rise are those of a call
pub lent_are : (slots : List ℕ) (all : List CellValue) → length slots ≤ 4 → AllPairs (λ (a b : ℕ). a < b) slots
    → AreCells (lent_cells slots all)
lent_are slots all few rising = record {
  few = omega (arith, few, length-map slots lend);
  rising = λ i j d before within.
      let inside : j < length slots = omega (arith, within, length-map slots lend) in
      let less : slice_index_or slots i 0 < slice_index_or slots j 0 = rising i j 0 before inside in
      subst (λ (c : ℕ × CellValue). c.0 < (slice_index_or (lent_cells slots all) j d).0)
      (sym (get_or-map lend slots i 0 d (omega (arith, before, inside))))
      (subst (λ (c : ℕ × CellValue). slice_index_or slots i 0 < c.0) (sym (get_or-map lend slots j 0 d inside)) less);
} where
  lend : ℕ → ℕ × CellValue
  lend ino = (ino, cell_in all ino)

-- a slot that is lent is one of them
pub lent_has : (slots : List ℕ) (all : List CellValue) (ino : ℕ) → is_some (cell_of (lent_cells slots all) ino) ≡ true
    → has slots ino ≡ true
lent_has slots all ino lent = go (has slots ino) refl where
  go : (b : Bool) → has slots ino ≡ b → b ≡ true
  go true h = refl
  go false h = let none : false ≡ true = subst (λ (c : Option CellValue). is_some c ≡ true) (lent_none slots all ino h) lent in cc

-- ---- nodes

-- a cell's own node is the machine's
own_is_node : (block : ℕ) (c : CellValue) (handle : Handle) → HasOwn block c.state
    → own_node c.state handle ≡ cond (handle.generation == c.state.generation) (node_of c.state) None
own_is_node block c handle own = alone_is (eq-eqb handle.ino handle.ino refl)
    (nodes_are bytes block (alone handle.ino c) handle (own, tt)) where
      bytes : ℕ → List ℕ
      bytes = bytes_among c.state.blocks

      alone_is : (handle.ino == handle.ino) ≡ true → plain_nodes (alone handle.ino c) handle ≡ node_under bytes block
          (slots_by (alone handle.ino c)) handle
          → own_node c.state handle ≡ cond (handle.generation == c.state.generation) (node_of c.state) None
      alone_is self one =
          (rw self at one)
          ∙ ap (λ (n : ℕ). cond (handle.generation == c.state.generation)
          (stamped (last_commit (log_of c.state)) (node_now bytes n (log_of c.state))) None)
          (sym own.size)

pub cell_is : (shared : Shared) (ino : ℕ) → ino < length shared.cells.items
    → cell_at (shared_of shared) ino ≡ (cell_in shared.cells.items ino).state
cell_is shared ino lt = get_or-map (λ (c : CellValue). c.state) shared.cells.items ino (no_cell.1) machine.no_cell lt

pub node_same : (shared : Shared) (slots : List ℕ) (handle : Handle) → CanRead shared slots (handle ∷ [])
    → plain_nodes (lent_cells slots shared.cells.items) handle ≡ nodes (shared_of shared) handle
node_same shared slots handle can = go (nat_lt handle.ino (length all)) refl where
  all : List CellValue
  all = shared.cells.items

  same : handle.ino < length all → plain_nodes (lent_cells slots all) handle ≡ nodes (shared_of shared) handle
  same lt =
      let held : has slots handle.ino ≡ true = can.held.0 lt in
      ap (option_and_then (λ (c : CellValue). own_node c.state handle)) (lent_of slots all handle.ino held)
      ∙ own_is_node shared.geometry.numbers.block (cell_in all handle.ino) handle
      (lent_each (HasOwn shared.geometry.numbers.block) slots all handle.ino held can.own)
      ∙ ap (λ (c : CellState). cond (handle.generation == c.generation) (node_of c) None) (sym (cell_is shared handle.ino lt))

  empty : (b : Bool) → cond b (node_of machine.no_cell) None ≡ None
  empty true = refl
  empty false = refl

  blank : (b : Bool) → option_map (with_bytes (own_bytes (no_cell.1).state))
      (cond b (stamped (last_commit []) (node_now (λ number. []) 1 [])) None) ≡ None
  blank true = refl
  blank false = refl

  past : cell_in all handle.ino ≡ no_cell.1 → cell_at (shared_of shared) handle.ino ≡ machine.no_cell → (b : Bool)
      → has slots handle.ino ≡ b
      → plain_nodes (lent_cells slots all) handle ≡ nodes (shared_of shared) handle
  past none gone true h =
      ap (option_and_then (λ (c : CellValue). own_node c.state handle)) (lent_of slots all handle.ino h ∙ ap Some none)
      ∙ blank (handle.generation == (no_cell.1).state.generation)
      ∙ sym (ap (λ (c : CellState). cond (handle.generation == c.generation) (node_of c) None) gone ∙ empty (handle.generation == 0))
  past none gone false h =
      ap (option_and_then (λ (c : CellValue). own_node c.state handle)) (lent_none slots all handle.ino h)
      ∙ sym (ap (λ (c : CellState). cond (handle.generation == c.generation) (node_of c) None) gone ∙ empty (handle.generation == 0))

  go : (b : Bool) → nat_lt handle.ino (length all) ≡ b → plain_nodes (lent_cells slots all) handle ≡ nodes (shared_of shared) handle
  go true q = same (ltb-true handle.ino (length all) q)
  go false q =
      past (get_or_past all handle.ino (no_cell.1) (ltb-false handle.ino (length all) q))
      (get_or_past (map (λ (c : CellValue). c.state) all) handle.ino machine.no_cell
      (omega (arith, length-map all (λ (c : CellValue). c.state), ltb-false handle.ino (length all) q)))
      (has slots handle.ino) refl

-- the nodes under handles that are held agree
pub nodes_agree : (shared : Shared) (slots : List ℕ) (list : List Handle) → CanRead shared slots list
    → Agree (nodes (shared_of shared)) (plain_nodes (lent_cells slots shared.cells.items)) list
nodes_agree shared slots [] can = tt
nodes_agree shared slots (handle ∷ list) can = (
  node_same shared slots handle (record { there = can.there; own = can.own; held = (can.held.0, tt) }),
  nodes_agree shared slots list (record { there = can.there; own = can.own; held = can.held.1 }),
)

-- the call is the same over the lent cells as in the machine
pub lent_call_same : (block : ℕ) (shared : Shared) (slots : List ℕ) (taken : Allocation) (c : Call)
    → CanRead shared slots (handles (looked (copies (shared_of shared)) c) c)
    → SameCall block (nodes (shared_of shared)) (plain_nodes (lent_cells slots shared.cells.items)) taken c
lent_call_same block shared slots taken c can =
    call_same block (nodes (shared_of shared)) (plain_nodes (lent_cells slots shared.cells.items)) taken c
    (nodes_agree shared slots (handles (looked (copies (shared_of shared)) c) c) can)

-- ---- pages

-- whether a file has a page
pub page_same : (shared : Shared) (slots : List ℕ) (file : Handle) (page : ℕ) → CanRead shared slots (file ∷ [])
    → has_page_in (lent_cells slots shared.cells.items) file page
    ≡ is_some (block_now shared.geometry.numbers.block (log_of (cell_at (shared_of shared) file.ino)) page)
page_same shared slots file page can = go (nat_lt file.ino (length all)) refl where
  all : List CellValue
  all = shared.cells.items

  now : ℕ → CellState → Bool
  now block cell = is_some (block_now block (log_of cell) page)

  block : ℕ
  block = shared.geometry.numbers.block

  of_cell : Option CellValue → Bool
  of_cell found = unwrap_or (option_map (λ (c : CellValue). now c.state.block c.state) found) false

  past : cell_in all file.ino ≡ no_cell.1 → cell_at (shared_of shared) file.ino ≡ machine.no_cell → (b : Bool) → has slots file.ino ≡ b
      → of_cell (cell_of (lent_cells slots all) file.ino) ≡ now block (cell_at (shared_of shared) file.ino)
  past none gone true h = ap of_cell (lent_of slots all file.ino h ∙ ap Some none) ∙ sym (ap (now block) gone)
  past none gone false h = ap of_cell (lent_none slots all file.ino h) ∙ sym (ap (now block) gone)

  go : (b : Bool) → nat_lt file.ino (length all) ≡ b
      → of_cell (cell_of (lent_cells slots all) file.ino) ≡ now block (cell_at (shared_of shared) file.ino)
  go true q =
      let lt : file.ino < length all = ltb-true file.ino (length all) q in
      let held : has slots file.ino ≡ true = can.held.0 lt in
      ap of_cell (lent_of slots all file.ino held)
      ∙ ap (λ (size : ℕ). now size (cell_in all file.ino).state) (lent_each (HasOwn block) slots all file.ino held can.own).size
      ∙ ap (now block) (sym (cell_is shared file.ino lt))
  go false q =
      past (get_or_past all file.ino (no_cell.1) (ltb-false file.ino (length all) q))
      (get_or_past (map (λ (c : CellValue). c.state) all) file.ino machine.no_cell
      (omega (arith, length-map all (λ (c : CellValue). c.state), ltb-false file.ino (length all) q)))
      (has slots file.ino) refl
