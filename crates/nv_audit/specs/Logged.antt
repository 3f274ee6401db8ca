-- The logs of slots with what trees, histories and deaths ask beside them: what a cell and a slot of an image have alike.
use Rattle.std.specs.Prelude.{◌≡◌, ℕ, All, List, [], map, Option}
use Rattle.std.specs.Option.{option_map}
use Rattle.nv_cell.specs.Cell.{CellState, log_of}
use Rattle.nv_entry.specs.Log.{seen}
use Rattle.nv_entry.specs.Stored.{stored}
use Rattle.nv_entry.specs.declared.item.Entry.{Entry}
use Rattle.nv_entry.specs.declared.value.When.{When}
use Rattle.nv_entry.specs.declared.value.When.TheVariants.{At, Now}
use Rattle.nv_audit.specs.Nodes.{named}
use Rattle.nv_audit.specs.Tree.{IsTree, Slots}
use Rattle.nv_audit.specs.declared.tree.NamedNode.{NamedNode}

-- a log with what trees, histories and deaths ask beside it.
-- A cell has one, and so has a slot of an image.
pub record LoggedValue : Type 0 where
  -- the bytes of a block
  pub block : ℕ
  -- the generation of the inode
  pub generation : ℕ
  -- the entries of the log
  pub log : List Entry

-- the log of a cell
abbrev pub logged : CellState → LoggedValue
logged cell = record { block = cell.block; generation = cell.generation; log = log_of cell }

-- the node that a log gives, now or at an epoch
abbrev pub node_of : When → LoggedValue → Option NamedNode
node_of when l = option_map (named l.generation (seen when l.log)) (stored l.block (seen when l.log)).kind

-- the nodes that the logs of all slots give, now or at an epoch
abbrev pub slots_of : When → List LoggedValue → Slots
slots_of when logs = map (node_of when) logs

-- THE NODES OF LOGS FORM TREES
pub record AreLoggedTrees (snapshots : List ℕ) (logs : List LoggedValue) : Type 0 where
  -- the nodes of now form a tree
  pub now : IsTree (slots_of Now logs)
  -- the nodes at each of these snapshots form a tree
  pub at : All (λ (snapshot : ℕ). IsTree (slots_of (At snapshot) logs)) snapshots

-- these logs have no entries
abbrev pub AreEmpty : List LoggedValue → Type 0
AreEmpty logs = All (λ (l : LoggedValue). l.log ≡ []) logs
