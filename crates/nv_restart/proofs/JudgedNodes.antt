-- The settled nodes and copies of a world at rest are those that its cells give their slots.
use Rattle.std.proofs.Common.{◌≡◌, zero, suc, ℕ, ◌==◌, if◌then◌else◌, Bool, true, false, List, [], ◌∷◌, Option, Some, None, refl, ap, sym, ◌∙◌, subst}
use Rattle.std.specs.Prelude.{option_and_then, slice_index_or}
use Rattle.std.specs.List.{Contains}
use Rattle.std.specs.Option.{option_map}
use Rattle.std.proofs.lemmas.Bool.{eq-eqb, eqb-false, eqb-true, ne_eqb}
use Rattle.std.proofs.lemmas.List.{get_or_default}
use Rattle.nv_audit.specs.Nodes.{AreTrees, named, node_by, node_when, slots_when}
use Rattle.nv_audit.specs.Tree.{IsTree, is_of, slot_at}
use Rattle.nv_audit.specs.declared.tree.NamedNode.{NamedNode}
use Rattle.nv_base.specs.declared.node.Kind.{Kind}
use Rattle.nv_base.specs.declared.numbers.Handle.{Handle}
use Rattle.nv_calls.specs.Plain.{PlainNode, node_in, stamped}
use Rattle.nv_calls.specs.Slots.{last_commit}
use Rattle.nv_cell.specs.Cell.{CellState, log_of}
use Rattle.nv_entry.proofs.NameLookup.{names_differ}
use Rattle.nv_entry.specs.Bindings.{NamesDiffer}
use Rattle.nv_entry.specs.Keys.{KindKey}
use Rattle.nv_entry.specs.Log.{seen, up_to, value_now}
use Rattle.nv_entry.specs.Node.{node_now, node_of_kind}
use Rattle.nv_entry.specs.Stored.{kind_in, stored}
use Rattle.nv_entry.specs.Tree.{names_of_node, names_under}
use Rattle.nv_entry.specs.declared.item.Entry.{Entry}
use Rattle.nv_entry.specs.declared.key.Datum.{Datum}
use Rattle.nv_entry.specs.declared.key.Datum.TheVariants as datum
use Rattle.nv_entry.specs.declared.node.NodeCopy.{NodeCopy}
use Rattle.nv_entry.specs.declared.value.When.{When}
use Rattle.nv_entry.specs.declared.value.When.TheVariants.{At, Now}
use Rattle.nv_epoch.specs.SnapList.{ids}
use Rattle.nv_machine.specs.Directories.{AreTree}
use Rattle.nv_machine.specs.Kept.{AreClosed}
use Rattle.nv_machine.specs.Reads.{bytes_among}
use Rattle.nv_machine.specs.Settled.{settled, settled_copies, settled_nodes}
use Rattle.nv_machine.specs.World.{Shared, cell_at, no_cell}
use Rattle.nv_restart.proofs.JudgedLogs.{settled_is}
use Rattle.nv_restart.proofs.JudgedTrees.{are_tree, shown, under}
use Rattle.nv_restart.proofs.TreeSlots.{slots_tree}

-- ---- the node of a log

node_shown : (bytes : ℕ → List ℕ) (block generation : ℕ) (log : List Entry)
    → option_map (shown generation) (node_now bytes block log)
    ≡ option_map (named generation log) (stored block log).kind
node_shown bytes block generation log = go (value_now block log KindKey) where
  go : (v : Option Datum) → option_map (shown generation) (node_of_kind v bytes block log)
      ≡ option_map (named generation log) (option_and_then kind_in v)
  go None = refl
  go (Some (datum.Kind kind)) = refl
  go (Some (datum.Mode x)) = refl
  go (Some (datum.Size x)) = refl
  go (Some (datum.Node x)) = refl
  go (Some (datum.Block x)) = refl

names_differ_in : (bytes : ℕ → List ℕ) (block : ℕ) (log : List Entry)
    → NamesDiffer (names_of_node (node_now bytes block log))
names_differ_in bytes block log = go (value_now block log KindKey) where
  go : (v : Option Datum) → NamesDiffer (names_of_node (node_of_kind v bytes block log))
  go None = tt
  go (Some (datum.Kind kind)) = names_differ log
  go (Some (datum.Mode x)) = tt
  go (Some (datum.Size x)) = tt
  go (Some (datum.Node x)) = tt
  go (Some (datum.Block x)) = tt

-- ---- the node of a cell

pub slot_is : (when : When) (cells : List CellState) (ino : ℕ)
    → slot_at (slots_when when cells) ino ≡ node_when when (slice_index_or cells ino no_cell)
slot_is Now [] ino = refl
slot_is (At epoch) [] ino = refl
slot_is when (cell ∷ cells) zero = refl
slot_is when (cell ∷ cells) (suc ino) = slot_is when cells ino

-- under a handle of its generation it is the node of the log, and under another none
at_own : (g h : ℕ) (log : List Entry) (kind : Option Kind) → g ≡ h
    → option_map (named g log) kind
    ≡ (if is_of g (option_map (named h log) kind) then option_map (named h log) kind else None)
at_own g h log None same = refl
at_own g h log (Some kind) same =
    subst (λ (n : ℕ). option_map (named g log) (Some kind)
    ≡ (if is_of g (option_map (named n log) (Some kind))
    then option_map (named n log) (Some kind)
    else None))
    same (rw (eq-eqb g g refl) refl)

at_other : (g h : ℕ) (log : List Entry) (kind : Option Kind) → (g == h) ≡ false
    → None
    ≡ (if is_of g (option_map (named h log) kind) then option_map (named h log) kind else None)
at_other g h log None other = refl
at_other g h log (Some kind) other = rw (ne_eqb h g (λ same. eqb-false g h other (sym same))) refl

abbrev pub copy_by : CellState → ℕ → List Entry → Option NodeCopy
copy_by cell generation log =
    if generation == cell.generation
    then node_now (bytes_among cell.blocks) cell.block log
    else None

pub shown_by : (cell : CellState) (generation : ℕ) (log : List Entry)
    → option_map (shown generation) (copy_by cell generation log)
    ≡ (if is_of generation (node_by cell log) then node_by cell log else None)
shown_by cell generation log = go (generation == cell.generation) refl where
  go : (b : Bool) → (generation == cell.generation) ≡ b
      → option_map (shown generation)
      (if b then node_now (bytes_among cell.blocks) cell.block log else None)
      ≡ (if is_of generation (node_by cell log) then node_by cell log else None)
  go true e =
      node_shown (bytes_among cell.blocks) cell.block generation log
      ∙ at_own generation cell.generation log (stored cell.block log).kind
      (eqb-true generation cell.generation e)
  go false e = at_other generation cell.generation log (stored cell.block log).kind e

differ_by : (cell : CellState) (generation : ℕ) (log : List Entry)
    → NamesDiffer (names_of_node (copy_by cell generation log))
differ_by cell generation log = go (generation == cell.generation) where
  go : (b : Bool)
      → NamesDiffer (names_of_node
      (if b then node_now (bytes_among cell.blocks) cell.block log else None))
  go true = names_differ_in (bytes_among cell.blocks) cell.block log
  go false = tt

-- ---- the nodes of a world

module _ (s : Shared) where
  abbrev copy_when : When → Handle → Option NodeCopy
  copy_when when handle =
      copy_by (cell_at s handle.ino) handle.generation (seen when (log_of (cell_at s handle.ino)))

  pub are_when : (when : When) (nodes : Handle → Option NodeCopy)
      → ((handle : Handle) → nodes handle ≡ copy_when when handle)
      → (handle : Handle) → option_map (shown handle.generation) (nodes handle)
      ≡ under (slots_when when s.cells) handle
  are_when when nodes is handle =
      ap (option_map (shown handle.generation)) (is handle)
      ∙ shown_by (cell_at s handle.ino) handle.generation
      (seen when (log_of (cell_at s handle.ino)))
      ∙ ap (λ (o : Option NamedNode). if is_of handle.generation o then o else None)
      (sym (slot_is when s.cells handle.ino))

  tree_when : (when : When) (nodes : Handle → Option NodeCopy)
      → ((handle : Handle) → nodes handle ≡ copy_when when handle)
      → IsTree (slots_when when s.cells) → AreTree nodes
  tree_when when nodes is tree =
      are_tree nodes (slots_when when s.cells) (are_when when nodes is) differ tree where
        differ : (handle : Handle) → NamesDiffer (names_under nodes handle)
        differ handle =
            subst (λ (o : Option NodeCopy). NamesDiffer (names_of_node o)) (sym (is handle))
            (differ_by (cell_at s handle.ino) handle.generation
            (seen when (log_of (cell_at s handle.ino))))

  pub plain : (b : Bool) (commit : ℕ) (copy : Option NodeCopy)
      → option_map (λ (p : PlainNode). p.node) (if b then stamped commit copy else None)
      ≡ (if b then copy else None)
  plain false commit copy = refl
  plain true commit None = refl
  plain true commit (Some copy) = refl

  -- where no journal is open, settled nodes and copies are those of the cells
  module _ (closed : AreClosed s.book.journals) where
    pub now_is : (handle : Handle) → node_in (settled_nodes s) handle ≡ copy_when Now handle
    now_is handle =
        let cell = cell_at s handle.ino in
        plain (handle.generation == cell.generation) (last_commit (settled s handle.ino))
        (node_now (bytes_among cell.blocks) cell.block (settled s handle.ino))
        ∙ ap (copy_by cell handle.generation) (settled_is s handle.ino closed)

    pub at_is : (snapshot : ℕ) (handle : Handle)
        → settled_copies s snapshot handle ≡ copy_when (At snapshot) handle
    at_is snapshot handle =
        ap (λ (log : List Entry).
        copy_by (cell_at s handle.ino) handle.generation (up_to snapshot log))
        (settled_is s handle.ino closed)

    pub tree_now : AreTrees (ids s.book.snaps) s.cells → AreTree (node_in (settled_nodes s))
    tree_now trees = tree_when Now (node_in (settled_nodes s)) now_is trees.now

    pub tree_at : AreTrees (ids s.book.snaps) s.cells → (snapshot : ℕ)
        → Contains (ids s.book.snaps) snapshot
        → AreTree (settled_copies s snapshot)
    tree_at trees snapshot (k, lt, at) =
        tree_when (At snapshot) (settled_copies s snapshot) (at_is snapshot)
        (subst (λ (n : ℕ). IsTree (slots_when (At n) s.cells)) at (trees.at k snapshot lt))

    -- and the other way round
    pub trees_stand : AreTree (node_in (settled_nodes s))
        → ((snapshot : ℕ) → Contains (ids s.book.snaps) snapshot
        → AreTree (settled_copies s snapshot))
        → AreTrees (ids s.book.snaps) s.cells
    trees_stand now copies = record {
      now =
          slots_tree (node_in (settled_nodes s)) (slots_when Now s.cells)
          (are_when Now (node_in (settled_nodes s)) now_is) now;
      at = λ k d lt.
          let snapshot = slice_index_or (ids s.book.snaps) k d in
          slots_tree (settled_copies s snapshot) (slots_when (At snapshot) s.cells)
          (are_when (At snapshot) (settled_copies s snapshot) (at_is snapshot))
          (copies snapshot (k, lt, get_or_default (ids s.book.snaps) k snapshot d lt));
    }
