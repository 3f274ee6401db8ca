-- Nodes that form a tree of directories, by the slots of their inodes.
use Rattle.std.specs.Prelude.{◌≡◌, ℕ, ◌<◌, ◌≤◌, ◌==◌, Bool, true, false, All, List, [], ◌∷◌, ◌++◌, Option, None, Some, length, map, slice_index_or}
use Rattle.std.specs.List.{flat_map, range_with_len}
use Rattle.nv_base.specs.declared.node.Kind.{Kind}
use Rattle.nv_base.specs.declared.node.Kind.TheVariants.{Dir, File}
use Rattle.nv_base.specs.declared.numbers.Handle.{Handle}
use Rattle.nv_alloc.specs.Numbers.{times}
use Rattle.nv_entry.specs.Tree.{root}
use Rattle.nv_entry.specs.declared.names.BoundName.{BoundName}
use Rattle.nv_audit.specs.Lists.{mark_at}
use Rattle.nv_audit.specs.declared.tree.NamedNode.{NamedNode}

-- ---- slots and their nodes

-- a node for each inode slot, or none
abbrev pub Slots : Type 0
Slots = List (Option NamedNode)

-- the node of a slot, if there is one
abbrev pub slot_at : Slots → ℕ → Option NamedNode
slot_at slots n = slice_index_or slots n None

-- the slot has a node
abbrev pub is_used : Option NamedNode → Bool
is_used None = false
is_used (Some node) = true

-- the kind is a directory's
abbrev pub is_dir : Kind → Bool
is_dir Dir = true
is_dir File = false

-- the slot has a directory
abbrev pub is_directory : Option NamedNode → Bool
is_directory None = false
is_directory (Some node) = is_dir node.kind

-- the slot has a node of this generation
abbrev pub is_of : ℕ → Option NamedNode → Bool
is_of generation None = false
is_of generation (Some node) = node.generation == generation

-- there is a node under a handle
abbrev pub is_node : Slots → Handle → Bool
is_node slots handle = is_of handle.generation (slot_at slots handle.ino)

-- the names of a slot's node, none where it has none
abbrev pub names_of : Option NamedNode → List BoundName
names_of None = []
names_of (Some node) = node.names

-- the slots that names lead to
abbrev pub slots_named : List BoundName → List ℕ
slots_named names = map (λ (b : BoundName). b.to.ino) names

-- the slots to which the names of a slot's node lead
abbrev pub leads : Slots → ℕ → List ℕ
leads slots n = slots_named (names_of (slot_at slots n))

-- the slots to which all names lead
abbrev pub all_leads : Slots → List ℕ
all_leads slots = flat_map (leads slots) (range_with_len 0 (length slots))

-- ---- a tree

-- the root is a node, and a directory
abbrev pub HasRoot : Slots → Type 0
HasRoot slots = (is_node slots root ≡ true) × (is_directory (slot_at slots root.ino) ≡ true)

-- a slot's node that is no directory has no names
abbrev pub AreInDirectory : Slots → ℕ → Type 0
AreInDirectory slots n = is_directory (slot_at slots n) ≡ false → names_of (slot_at slots n) ≡ []

-- the names of a slot's node
pub record AreNames (slots : Slots) (n : ℕ) : Type 0 where
  -- a node that is no directory has no names
  pub placed : AreInDirectory slots n
  -- each name leads to a node
  pub lead : All (λ (b : BoundName). is_node slots b.to ≡ true) (names_of (slot_at slots n))

-- names lead from the root to a slot through these directories, the last one first
abbrev pub IsReachedBy : Slots → List ℕ → ℕ → Type 0
IsReachedBy slots [] n = n ≡ root.ino
IsReachedBy slots (dir ∷ above) n = (1 ≤ times n (leads slots dir)) × IsReachedBy slots above dir

-- the slot is reached from the root through some directories
abbrev pub IsReached : Slots → ℕ → Type 0
IsReached slots n = (above : List ℕ) × IsReachedBy slots above n

-- THE NODES FORM A TREE OF DIRECTORIES
pub record IsTree (slots : Slots) : Type 0 where
  -- the root is a node, and a directory
  pub top : HasRoot slots
  -- names stand in directories alone, and each leads to a node
  pub names : (n : ℕ) → AreNames slots n
  -- no name leads to the root
  pub unnamed : times root.ino (all_leads slots) ≡ 0
  -- no two names lead to one slot
  pub one : (n : ℕ) → times n (all_leads slots) ≤ 1
  -- names lead from the root to each node
  pub reached : (n : ℕ) → is_used (slot_at slots n) ≡ true → IsReached slots n

-- ---- what is found on the way

-- no number stands there twice
abbrev pub IsOnce : List ℕ → Type 0
IsOnce numbers = (n : ℕ) → times n numbers ≤ 1

-- the names of one more slot's node lead to nodes that are not among these, each to one of its own
abbrev pub AreNew : Slots → ℕ → List ℕ → Type 0
AreNew slots n reached = AreNames slots n × IsOnce (reached ++ leads slots n)

-- there is a node under a handle, whose slot is not marked
abbrev pub IsNew : Slots → List Bool → Handle → Type 0
IsNew slots marks to = (is_node slots to ≡ true) × (mark_at marks to.ino ≡ false)

-- each slot with a node is marked
abbrev pub AreAllMarked : Slots → List Bool → Type 0
AreAllMarked slots marks = (n : ℕ) → n < length slots → is_used (slot_at slots n) ≡ true → mark_at marks n ≡ true
