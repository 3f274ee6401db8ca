-- The plain nodes that the cells of a call hold.
use Rattle.std.proofs.Common.{◌≡◌, ℕ, zero, suc, ◌+◌, ◌*◌, ◌==◌, Bool, true, false, cond, is_some, List, [], ◌∷◌, length, Option, Some, None, arith, refl, ap, subst, sym, ◌∙◌, slice_index_or}
use Rattle.std.specs.Prelude.{option_and_then, option_map, unwrap_or}
use Rattle.std.specs.List.{flat_map, range_with_len}
use Rattle.std.proofs.lemmas.Grind.{div_ceil_times}
use Rattle.std.proofs.lemmas.List.{length-append, length-take, length-replicate}
use Rattle.nv_alloc.specs.Block.{BlockValue}
use Rattle.nv_base.specs.declared.numbers.Handle.{Handle}
use Rattle.nv_entry.specs.declared.key.Datum.{Datum}
use Rattle.nv_entry.specs.declared.key.Datum.TheVariants as datum
use Rattle.nv_entry.specs.declared.part_ref.PartRef.{PartRef}
use Rattle.nv_entry.specs.Index.{names_of}
use Rattle.nv_entry.specs.Keys.{KindKey, PageKey, pages_for}
use Rattle.nv_entry.specs.Log.{value_now}
use Rattle.nv_entry.specs.Node.{block_now, mode_now, node_now, node_of_kind, size_now}
use Rattle.nv_entry.specs.Refs.{scan_ref}
use Rattle.nv_cell.specs.Cell.{CellState, CellValue, IsCell, log_of}
use Rattle.nv_cell.specs.Numbers.{number}
use Rattle.nv_cell.specs.Pages.{AreBytesOf, own_bytes, own_page, slot_bytes}
use Rattle.nv_cell.proofs.PageBlocks.{file_is}
use Rattle.nv_calls.specs.Nodes.{HasBytes, HaveBytes, cell_has_page, cell_of, has_page_in, own_node, plain_nodes, slot_by, slots_by, with_bytes}
use Rattle.nv_calls.specs.Plain.{PlainNode, node_in, stamped}
use Rattle.nv_calls.specs.Refusals.{bytes_of, kind_of, passes, want_file}
use Rattle.nv_calls.specs.Slots.{InodeSlot, last_commit, node_under}
use Rattle.nv_calls.specs.Views.{copy_of, node_of}

-- ---- the size of a file

pages_len : (f : ℕ → List ℕ) (block a n : ℕ) → ((p : ℕ) → length (f p) ≡ block)
    → length (flat_map f (range_with_len a n)) ≡ n * block
pages_len f block a zero h = omega arith
pages_len f block a (suc n) h =
    omega (arith, length-append (f a) (flat_map f (range_with_len (a + 1) n)), h a, pages_len f block (a + 1) n h)

page_len : (cell : CellState) (page : ℕ) → IsCell cell → length (own_page cell page) ≡ cell.block
page_len cell page is = by_ref (scan_ref cell.block (log_of cell) (PageKey page)) where
  sized : (n : ℕ) (o : Option BlockValue) → slice_index_or cell.blocks n None ≡ o → length (slot_bytes cell.block o) ≡ cell.block
  sized n None h = length-replicate cell.block 0
  sized n (Some b) h = is.blocks.sized n b h

  by_ref : (o : Option PartRef)
      → length (slot_bytes cell.block (option_and_then (λ r. slice_index_or cell.blocks (number cell.chain.entries r) None) o)) ≡ cell.block
  by_ref None = length-replicate cell.block 0
  by_ref (Some r) = sized (number cell.chain.entries r) (slice_index_or cell.blocks (number cell.chain.entries r) None) refl

pub own_len : (cell : CellState) → IsCell cell → length (own_bytes cell) ≡ size_now cell.block (log_of cell)
own_len cell is =
    let size = size_now cell.block (log_of cell) in
    let pages = flat_map (own_page cell) (range_with_len 0 (pages_for cell.block size)) in
    omega (
      arith,
      length-take size pages,
      pages_len (own_page cell) cell.block 0 (pages_for cell.block size) (λ p. page_len cell p is),
      (div_ceil_times size cell.block is.some).0,
    )

-- where there is a node, the size of its cell tells how many bytes it has
pub size_is : (cell : CellState) (handle : Handle) → IsCell cell → is_some (copy_of (λ number. []) cell handle) ≡ true
    → size_now cell.block (log_of cell) ≡ length (bytes_of (node_in (own_node cell) handle))
size_is cell handle is h = go (node_of (λ number. []) cell handle) refl h where
  go : (o : Option PlainNode) → node_of (λ number. []) cell handle ≡ o → is_some (option_map (λ (p : PlainNode). p.node) o) ≡ true
      → size_now cell.block (log_of cell) ≡ length (bytes_of (node_in (own_node cell) handle))
  go None q k = cc
  go (Some p) q k =
      let own : bytes_of (node_in (own_node cell) handle) ≡ own_bytes cell =
      ap (λ (o : Option PlainNode). bytes_of (option_map (λ (x : PlainNode). x.node) (option_map (with_bytes (own_bytes cell)) o))) q in
      sym (own_len cell is) ∙ ap (λ (xs : List ℕ). length xs) (sym own)

-- ---- a file that is read

own_kind_is : (bytes : List ℕ) (found : Option PlainNode)
    → kind_of (option_map (λ (p : PlainNode). p.node) (option_map (with_bytes bytes) found)) ≡ kind_of
    (option_map (λ (p : PlainNode). p.node) found)
own_kind_is bytes None = refl
own_kind_is bytes (Some p) = refl

-- a cell's own node is of the kind that any bytes give
pub own_kind : (cell : CellState) (handle : Handle) → kind_of (node_in (own_node cell) handle) ≡ kind_of
    (copy_of (λ number. []) cell handle)
own_kind cell handle = own_kind_is (own_bytes cell) (node_of (λ number. []) cell handle)

-- and a file has the cell's own bytes
pub own_there : (cell : CellState) (handle : Handle) → want_file (kind_of (copy_of (λ number. []) cell handle)) passes ≡ passes
    → bytes_of (node_in (own_node cell) handle) ≡ own_bytes cell
own_there cell handle passed = go (node_of (λ number. []) cell handle) passed where
  go : (found : Option PlainNode) → want_file (kind_of (option_map (λ (p : PlainNode). p.node) found)) passes ≡ passes
      → bytes_of (option_map (λ (p : PlainNode). p.node) (option_map (with_bytes (own_bytes cell)) found)) ≡ own_bytes cell
  go None h = cc
  go (Some p) h = refl

-- ---- cells as slots

-- a cell's own node is the one that any bytes of its blocks give
own_is : (bytes : ℕ → List ℕ) (cell : CellState) (handle : Handle) → IsCell cell → AreBytesOf cell bytes
    → own_node cell handle ≡ node_of bytes cell handle
own_is bytes cell handle is are = go (handle.generation == cell.generation) (value_now cell.block (log_of cell) KindKey) where
  go : (b : Bool) (v : Option Datum)
      → option_map (with_bytes (own_bytes cell)) (cond b (stamped (last_commit (log_of cell))
      (node_of_kind v (λ number. []) cell.block (log_of cell))) None)
      ≡ cond b (stamped (last_commit (log_of cell)) (node_of_kind v bytes cell.block (log_of cell))) None
  go false v = refl
  go true None = refl
  go true (Some (datum.Kind kind)) =
      ap (λ (xs : List ℕ). let p : PlainNode = record {
        node = record {
          kind = kind;
          mode = mode_now cell.block (log_of cell);
          size = size_now cell.block
              (log_of cell);
          bytes = xs;
          names = names_of (log_of cell);
        };
        changed = last_commit (log_of cell);
      } in Some p)
      (file_is cell bytes is are)
  go true (Some (datum.Mode mode)) = refl
  go true (Some (datum.Size size)) = refl
  go true (Some (datum.Node to)) = refl
  go true (Some (datum.Block number)) = refl

pub found_has : (bytes : ℕ → List ℕ) (block : ℕ) (cells : List (ℕ × CellValue)) (ino : ℕ) (c : CellValue) → HaveBytes bytes block cells
    → cell_of cells ino ≡ Some c → HasBytes bytes block c.state
found_has bytes block [] ino c all h = cc
found_has bytes block (x ∷ cells) ino c all h = go (x.0 == ino) h (found_has bytes block cells ino c all.1) where
  go : (b : Bool) → cond b (Some x.1) (cell_of cells ino) ≡ Some c → (cell_of cells ino ≡ Some c → HasBytes bytes block c.state)
      → HasBytes bytes block c.state
  go true k rest =
      let same : x.1 ≡ c = cc in
      subst (λ (v : CellValue). HasBytes bytes block v.state) same all.0
  go false k rest = rest k

-- the nodes of cells are those of their slots
pub nodes_are : (bytes : ℕ → List ℕ) (block : ℕ) (cells : List (ℕ × CellValue)) (handle : Handle) → HaveBytes bytes block cells
    → plain_nodes cells handle ≡ node_under bytes block (slots_by cells) handle
nodes_are bytes block cells handle all = go (cell_of cells handle.ino) refl where
  none : (b : Bool) → None ≡ cond b (let o : Option PlainNode = None in o) None
  none true = refl
  none false = refl

  under : InodeSlot → Option PlainNode
  under slot = cond (handle.generation == slot.generation) (stamped (last_commit slot.log) (node_now bytes block slot.log)) None

  go : (o : Option CellValue) → cell_of cells handle.ino ≡ o
      → option_and_then (λ (c : CellValue). own_node c.state handle) (cell_of cells handle.ino) ≡ under (slot_by (cell_of cells handle.ino))
  go None q = rw q (none (handle.generation == 0))
  go (Some c) q =
      let has = found_has bytes block cells handle.ino c all q in
      rw q (own_is bytes c.state handle has.is has.are
      ∙ ap (λ (n : ℕ). cond (handle.generation == c.state.generation)
      (stamped (last_commit (log_of c.state)) (node_now bytes n (log_of c.state))) None) has.size)

-- and so are the pages that are present
pub pages_are : (bytes : ℕ → List ℕ) (block : ℕ) (cells : List (ℕ × CellValue)) (handle : Handle) (page : ℕ) → HaveBytes bytes block cells
    → has_page_in cells handle page ≡ is_some (block_now block (slots_by cells handle.ino).log page)
pages_are bytes block cells handle page all = go (cell_of cells handle.ino) refl where
  go : (o : Option CellValue) → cell_of cells handle.ino ≡ o
      → unwrap_or (option_map (λ (c : CellValue). cell_has_page page c.state) (cell_of cells handle.ino)) false
      ≡ is_some (block_now block (slot_by (cell_of cells handle.ino)).log page)
  go None q = rw q refl
  go (Some c) q =
      let has = found_has bytes block cells handle.ino c all q in
      rw q (ap (λ (n : ℕ). is_some (block_now n (log_of c.state) page)) has.size)
