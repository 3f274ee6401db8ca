-- The node under a handle by one cell, whose inode has a number: the cell's where the handle has that
-- number, and else none.
use Rattle.std.proofs.Common.{◌≡◌, ℕ, ◌==◌, Bool, true, false, cond, List, [], Option, Some, None, refl}
use Rattle.std.specs.Prelude.{Ok, option_and_then, option_map}
use Rattle.nv_base.specs.declared.numbers.Handle.{Handle}
use Rattle.nv_entry.specs.declared.node.NodeCopy.{NodeCopy}
use Rattle.nv_entry.specs.Index.{bound_to, names_of}
use Rattle.nv_entry.specs.Node.{file_bytes}
use Rattle.nv_entry.specs.Tree.{names_of_node}
use Rattle.nv_cell.specs.Cell.{CellValue, log_of}
use Rattle.nv_cell.specs.Pages.{own_bytes}
use Rattle.nv_calls.specs.Nodes.{alone, copies_by, own_node, plain_nodes}
use Rattle.nv_calls.specs.Plain.{PlainNode, node_in}
use Rattle.nv_calls.specs.Refusals.{and_find, bytes_of, kind_of, look, passes, want_directory, want_file, want_lawful}
use Rattle.nv_calls.specs.Views.{node_of}
use Rattle.nv_calls.proofs.CellNodes.{bytes_there, look_passes, names_there}
use Rattle.nv_calls.proofs.NodesHeld.{own_kind, own_there}

-- a copy of the node that a function gives of a cell, if the cell is the handle's
abbrev copy_if : (CellValue → Option PlainNode) → CellValue → Bool → Option NodeCopy
copy_if f cell b = option_map (λ (p : PlainNode). p.node) (option_and_then f (cond b (Some cell) None))

-- where a directory is under the handle, its names are those of the log
pub names_alone : (bytes : ℕ → List ℕ) (ino : ℕ) (cell : CellValue) (handle : Handle)
    → want_directory (kind_of (copies_by bytes (alone ino cell) handle)) passes ≡ passes
    → names_of_node (copies_by bytes (alone ino cell) handle) ≡ names_of (log_of cell.state)
names_alone bytes ino cell handle h = go (ino == handle.ino) h where
  f : CellValue → Option PlainNode
  f c = node_of bytes c.state handle

  go : (b : Bool) → want_directory (kind_of (copy_if f cell b)) passes ≡ passes
      → names_of_node (copy_if f cell b) ≡ names_of (log_of cell.state)
  go true passed = names_there bytes cell.state handle passed
  go false passed = cc

-- where a file is, its bytes are those of the log
pub bytes_alone : (bytes : ℕ → List ℕ) (ino : ℕ) (cell : CellValue) (handle : Handle)
    → want_file (kind_of (copies_by bytes (alone ino cell) handle)) passes ≡ passes
    → bytes_of (copies_by bytes (alone ino cell) handle) ≡ file_bytes bytes cell.state.block (log_of cell.state)
bytes_alone bytes ino cell handle h = go (ino == handle.ino) h where
  f : CellValue → Option PlainNode
  f c = node_of bytes c.state handle

  go : (b : Bool) → want_file (kind_of (copy_if f cell b)) passes ≡ passes
      → bytes_of (copy_if f cell b) ≡ file_bytes bytes cell.state.block (log_of cell.state)
  go true passed = bytes_there bytes cell.state handle passed
  go false passed = cc

-- and where it is read by the cell's own blocks, its bytes are the cell's own
abbrev nothing : ℕ → List ℕ
nothing number = []

pub kind_alone : (ino : ℕ) (cell : CellValue) (handle : Handle)
    → kind_of (node_in (plain_nodes (alone ino cell)) handle) ≡ kind_of (copies_by nothing (alone ino cell) handle)
kind_alone ino cell handle = go (ino == handle.ino) where
  go : (b : Bool) → kind_of (copy_if (λ c. own_node c.state handle) cell b) ≡ kind_of (copy_if (λ c. node_of nothing c.state handle) cell b)
  go true = own_kind cell.state handle
  go false = refl

pub own_alone : (ino : ℕ) (cell : CellValue) (handle : Handle)
    → want_file (kind_of (copies_by nothing (alone ino cell) handle)) passes ≡ passes
    → bytes_of (node_in (plain_nodes (alone ino cell)) handle) ≡ own_bytes cell.state
own_alone ino cell handle h = go (ino == handle.ino) h where
  go : (b : Bool) → want_file (kind_of (copy_if (λ c. node_of nothing c.state handle) cell b)) passes ≡ passes
      → bytes_of (copy_if (λ c. own_node c.state handle) cell b) ≡ own_bytes cell.state
  go true passed = own_there cell.state handle passed
  go false passed = cc

-- a look where its tests pass
pub look_alone : (bytes : ℕ → List ℕ) (ino : ℕ) (cell : CellValue) (dir : Handle) (name : List ℕ)
    → want_directory (kind_of (copies_by bytes (alone ino cell) dir)) (want_lawful name passes) ≡ passes
    → look (copies_by bytes (alone ino cell)) dir name ≡ Ok (bound_to name (names_of (log_of cell.state)))
look_alone bytes ino cell dir name h = go (ino == dir.ino) h where
  f : CellValue → Option PlainNode
  f c = node_of bytes c.state dir

  go : (b : Bool) → want_directory (kind_of (copy_if f cell b)) (want_lawful name passes) ≡ passes
      → and_find (want_directory (kind_of (copy_if f cell b)) (want_lawful name passes)) (bound_to name (names_of_node (copy_if f cell b)))
      ≡ Ok (bound_to name (names_of (log_of cell.state)))
  go true passed = look_passes bytes cell.state dir name passed
  go false passed = cc
