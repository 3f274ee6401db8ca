-- Directories form a tree: every node other than the root is reached from it by exactly one name.
use Rattle.std.specs.Prelude.{◌≡◌, ◌≢◌, true, List, [], ◌∷◌, Option, IsSome}
use Rattle.std.specs.List.{AllPairs, Contains}
use Rattle.nv_base.specs.declared.numbers.Handle.{Handle}
use Rattle.nv_calls.specs.Refusals.{is_directory, kind_of}
use Rattle.nv_entry.specs.Tree.{names_under, root}
use Rattle.nv_entry.specs.declared.names.BoundName.{BoundName}
use Rattle.nv_entry.specs.declared.node.NodeCopy.{NodeCopy}

-- a directory has a name
abbrev pub HasName : (Handle → Option NodeCopy) → Handle → BoundName → Type 0
HasName nodes dir bound = Contains (names_under nodes dir) bound

-- a directory has a name that leads to a handle
abbrev pub LeadsTo : (Handle → Option NodeCopy) → Handle → Handle → Type 0
LeadsTo nodes dir handle = (bound : BoundName) × HasName nodes dir bound × (bound.to ≡ handle)

-- names lead from the root to a handle through these directories, the last one first
abbrev pub IsReachedBy : (Handle → Option NodeCopy) → List Handle → Handle → Type 0
IsReachedBy nodes [] handle = handle ≡ root
IsReachedBy nodes (dir ∷ above) handle = LeadsTo nodes dir handle × IsReachedBy nodes above dir

-- two bindings have neither the name nor the handle in common
abbrev pub AreApart : BoundName → BoundName → Type 0
AreApart one other = (one.name ≢ other.name) × (one.to ≢ other.to)

-- what the names of a tree are like
pub record HaveOneName (nodes : Handle → Option NodeCopy) : Type 0 where
  -- the root is a directory
  pub top : is_directory (kind_of (nodes root)) ≡ true
  -- no name leads to the root
  pub unnamed : (dir : Handle) → LeadsTo nodes dir root → ⊥
  -- each name stands in a directory
  pub named : (dir : Handle) (bound : BoundName) → HasName nodes dir bound → is_directory (kind_of (nodes dir)) ≡ true
  -- each name leads to a node
  pub leads : (dir : Handle) (bound : BoundName) → HasName nodes dir bound → IsSome (nodes bound.to)
  -- no two names of a directory are equal, or lead to one handle
  pub apart : (dir : Handle) → AllPairs AreApart (names_under nodes dir)
  -- no two directories have a name for one handle
  pub one : (dir other handle : Handle) → LeadsTo nodes dir handle → LeadsTo nodes other handle → dir ≡ other

-- DIRECTORIES FORM A TREE: every node other than the root is reached from it by exactly one name
pub record AreTree (nodes : Handle → Option NodeCopy) : Type 0 where
  -- each name leads from a directory to a node, and none to the root; no node has two
  pub one_name : HaveOneName nodes
  -- each node is reached from the root through names
  pub reached : (handle : Handle) → IsSome (nodes handle) → (above : List Handle) × IsReachedBy nodes above handle
