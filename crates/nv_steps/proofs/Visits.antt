-- The node under a handle by the cell of its slot alone is the machine's.
use Rattle.std.proofs.Common.{◌≡◌, ℕ, ◌==◌, ◌∙◌, if◌then◌else◌, Bool, true, false, Option, None, ap, refl, sym}
use Rattle.std.proofs.lemmas.Bool.{eq-eqb}
use Rattle.std.specs.Prelude.{Err}
use Rattle.nv_base.specs.declared.fault.Fault.TheVariants.{Stale}
use Rattle.nv_base.specs.declared.numbers.Handle.{Handle}
use Rattle.nv_calls.specs.AllCalls.{answer, refusal}
use Rattle.nv_calls.specs.Locked.{handles}
use Rattle.nv_calls.specs.Nodes.{alone, copies_by, nodes_by}
use Rattle.nv_calls.specs.Plain.{PlainNode, node_in}
use Rattle.nv_calls.specs.Views.{is_visit}
use Rattle.nv_calls.specs.declared.call.Call.{Call}
use Rattle.nv_calls.specs.declared.call.Call.TheVariants as call
use Rattle.nv_cell.specs.Cell.{CellState, CellValue}
use Rattle.nv_machine.specs.Reads.{bytes_among, copies, node_of, nodes}
use Rattle.nv_machine.specs.Sequence.{nothing_looked}
use Rattle.nv_machine.specs.Step.{handle_at}
use Rattle.nv_machine.specs.World.{Shared, cell_at, no_cell}

pub node_here : (s : Shared) (handle : Handle) (cell : CellValue) → cell_at s handle.ino ≡ cell.state
    → nodes_by (bytes_among cell.state.blocks) (alone handle.ino cell) handle ≡ nodes s handle
node_here s handle cell same =
    let own : (handle.ino == handle.ino) ≡ true = eq-eqb handle.ino handle.ino refl in
    rw own (ap (λ (c : CellState). if handle.generation == c.generation then node_of c else None) (sym same))

-- a slot that is not there has no node
pub no_node : (s : Shared) (handle : Handle) → cell_at s handle.ino ≡ no_cell → nodes s handle ≡ None
no_node s handle same =
    ap (λ (c : CellState). if handle.generation == c.generation then node_of c else None) same
    ∙ go (handle.generation == no_cell.generation)
  where
    go : (b : Bool) → (if b then node_of no_cell else None) ≡ None
    go true = refl
    go false = refl

-- ---- the machine's turn of a visit

-- one whose slot is not there is stale
pub visit_none : (s : Shared) (block : ℕ) (c : Call) → is_visit c ≡ true → cell_at s (handle_at (handles nothing_looked c) 0).ino ≡ no_cell
    → refusal block (copies s) c ≡ Err Stale
visit_none s block (call.Read file offset count) is none =
    ap (λ (n : Option PlainNode). refusal block (node_in (λ (h : Handle). n)) (call.Read file offset count)) (no_node s file none)
visit_none s block (call.Stat handle) is none =
    ap (λ (n : Option PlainNode). refusal block (node_in (λ (h : Handle). n)) (call.Stat handle)) (no_node s handle none)
visit_none s block (call.List dir) is none =
    ap (λ (n : Option PlainNode). refusal block (node_in (λ (h : Handle). n)) (call.List dir)) (no_node s dir none)
visit_none s block (call.Lookup dir name) is none =
    ap (λ (n : Option PlainNode). refusal block (node_in (λ (h : Handle). n)) (call.Lookup dir name)) (no_node s dir none)
visit_none s block other is none = cc

-- a visit reads the one node of its handle
pub visit_check : (s : Shared) (block : ℕ) (c : Call) (cell : CellValue) → is_visit c ≡ true
    → cell_at s (handle_at (handles nothing_looked c) 0).ino ≡ cell.state
    → refusal cell.state.block (copies_by (bytes_among cell.state.blocks) (alone (handle_at (handles nothing_looked c) 0).ino cell)) c
    ≡ refusal block (copies s) c
visit_check s block (call.Read file offset count) cell is same =
    ap (λ (n : Option PlainNode). refusal block (node_in (λ (h : Handle). n)) (call.Read file offset count)) (node_here s file cell same)
visit_check s block (call.Stat handle) cell is same =
    ap (λ (n : Option PlainNode). refusal block (node_in (λ (h : Handle). n)) (call.Stat handle)) (node_here s handle cell same)
visit_check s block (call.List dir) cell is same =
    ap (λ (n : Option PlainNode). refusal block (node_in (λ (h : Handle). n)) (call.List dir)) (node_here s dir cell same)
visit_check s block (call.Lookup dir name) cell is same =
    ap (λ (n : Option PlainNode). refusal block (node_in (λ (h : Handle). n)) (call.Lookup dir name)) (node_here s dir cell same)
visit_check s block other cell is same = cc

pub visit_answer : (s : Shared) (made : Handle) (c : Call) (cell : CellValue) → is_visit c ≡ true
    → cell_at s (handle_at (handles nothing_looked c) 0).ino ≡ cell.state
    → answer (nodes_by (bytes_among cell.state.blocks) (alone (handle_at (handles nothing_looked c) 0).ino cell)) made c
    ≡ answer (nodes s) made c
visit_answer s made (call.Read file offset count) cell is same =
    ap (λ (n : Option PlainNode). answer (λ (h : Handle). n) made (call.Read file offset count)) (node_here s file cell same)
visit_answer s made (call.Stat handle) cell is same =
    ap (λ (n : Option PlainNode). answer (λ (h : Handle). n) made (call.Stat handle)) (node_here s handle cell same)
visit_answer s made (call.List dir) cell is same =
    ap (λ (n : Option PlainNode). answer (λ (h : Handle). n) made (call.List dir)) (node_here s dir cell same)
visit_answer s made (call.Lookup dir name) cell is same =
    ap (λ (n : Option PlainNode). answer (λ (h : Handle). n) made (call.Lookup dir name)) (node_here s dir cell same)
visit_answer s made other cell is same = cc
