-- The plain world of the file calls: nodes by handle, and what commits change of them.
use Rattle.std.specs.Prelude.{ℕ, ◌==◌, ◌&&◌, Bool, if◌then◌else◌, List, [], ◌∷◌, Option, Some, None, option_map}
use Rattle.nv_base.specs.declared.node.Kind.{Kind}
use Rattle.nv_base.specs.declared.numbers.Handle.{Handle}
use Rattle.nv_entry.specs.declared.names.BoundName.{BoundName}
use Rattle.nv_entry.specs.declared.node.NodeCopy.{NodeCopy}
use Rattle.nv_entry.specs.Sound.{empty_node}

-- a node of the plain world
pub record PlainNode : Type 0 where
  -- kind, mode, size, bytes and names
  pub node : NodeCopy
  -- the number of the commit that changed it last
  pub changed : ℕ

-- the two handles are one
abbrev pub same_handle : Handle → Handle → Bool
same_handle a b = a.ino == b.ino && a.generation == b.generation

-- the node under a handle, without the commit that changed it last
abbrev pub node_in : (Handle → Option PlainNode) → Handle → Option NodeCopy
node_in nodes handle = option_map (λ (p : PlainNode). p.node) (nodes handle)

-- a node as a commit changed it
abbrev pub stamped : ℕ → Option NodeCopy → Option PlainNode
stamped commit node = option_map (λ (n : NodeCopy). let p : PlainNode = record { node = n; changed = commit } in p) node

-- ---- what becomes of a node

-- a new node stands there, without bytes and names
abbrev pub begins : Kind → ℕ → Option NodeCopy → Option NodeCopy
begins kind mode before = Some (empty_node kind mode)

-- no node stands there any more
abbrev pub goes : Option NodeCopy → Option NodeCopy
goes before = None

-- the node with another mode
abbrev pub with_mode : ℕ → Option NodeCopy → Option NodeCopy
with_mode mode before = option_map (λ (n : NodeCopy). record n { mode = mode }) before

-- the node with other names
abbrev pub with_names : (List BoundName → List BoundName) → Option NodeCopy → Option NodeCopy
with_names f before = option_map (λ (n : NodeCopy). record n { names = f n.names }) before

-- ---- effects

-- what a commit does to one node
pub record Change : Type 0 where
  -- the handle of the node
  pub handle : Handle
  -- what becomes of the node that stood there; `None` stands for no node
  pub becomes : Option NodeCopy → Option NodeCopy

-- the change of the node under a handle
abbrev pub change : Handle → (Option NodeCopy → Option NodeCopy) → Change
change handle becomes = record { handle = handle; becomes = becomes }

-- the nodes after the changes of one commit, which are of different nodes
abbrev pub nodes_after : ℕ → List Change → (Handle → Option PlainNode) → Handle → Option PlainNode
nodes_after commit [] nodes handle = nodes handle
nodes_after commit (c ∷ effect) nodes handle =
    if same_handle c.handle handle then stamped commit (c.becomes (node_in nodes handle)) else nodes_after commit effect nodes handle
