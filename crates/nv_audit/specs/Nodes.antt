-- The nodes of all slots by their cells, now and at each living snapshot.
use Rattle.std.specs.Prelude.{◌≡◌, ℕ, All, List, [], map, Option}
use Rattle.std.specs.Option.{option_map}
use Rattle.nv_base.specs.declared.node.Kind.{Kind}
use Rattle.nv_cell.specs.Cell.{CellState, log_of}
use Rattle.nv_entry.specs.Index.{names_of}
use Rattle.nv_entry.specs.Log.{seen}
use Rattle.nv_entry.specs.Stored.{stored}
use Rattle.nv_entry.specs.declared.item.Entry.{Entry}
use Rattle.nv_entry.specs.declared.value.When.{When}
use Rattle.nv_entry.specs.declared.value.When.TheVariants.{At, Now}
use Rattle.nv_audit.specs.Tree.{IsTree, Slots}
use Rattle.nv_audit.specs.declared.tree.NamedNode.{NamedNode}

-- the node that a log gives a slot: none where it gives no kind
abbrev pub named : ℕ → List Entry → Kind → NamedNode
named generation log kind = record { generation = generation; kind = kind; names = names_of log }

-- the node of a cell by the first entries of its log
abbrev pub node_by : CellState → List Entry → Option NamedNode
node_by cell log = option_map (named cell.generation log) (stored cell.block log).kind

-- the node of a cell now or at an epoch
abbrev pub node_when : When → CellState → Option NamedNode
node_when when cell = node_by cell (seen when (log_of cell))

-- the nodes that the logs of all cells give, now or at an epoch
abbrev pub slots_when : When → List CellState → Slots
slots_when when cells = map (node_when when) cells

-- THE NODES OF CELLS FORM TREES
pub record AreTrees (snapshots : List ℕ) (cells : List CellState) : Type 0 where
  -- the nodes of now form a tree
  pub now : IsTree (slots_when Now cells)
  -- the nodes at each of these snapshots form a tree
  pub at : All (λ (snapshot : ℕ). IsTree (slots_when (At snapshot) cells)) snapshots

-- the logs of these cells have no entries
abbrev pub AreUnused : List CellState → Type 0
AreUnused cells = All (λ (c : CellState). log_of c ≡ []) cells
