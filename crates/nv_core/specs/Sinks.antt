-- How nodes are handed to a sink, which says what becomes of it where it takes a node and where it fails at one.
use Rattle.std.specs.Prelude.{◌≡◌, ◌⊎◌, ℕ, ◌+◌, List, [], ◌∷◌, ◌++◌, MatchResult, Result}
use Rattle.nv_base.specs.declared.fault.Fault.{Fault}
use Rattle.nv_base.specs.declared.fault.Fault.TheVariants.{Write}
use Rattle.nv_base.specs.Memory.{out_of_memory}
use Rattle.nv_entry.specs.declared.tree.TreeNode.{TreeNode}

-- what becomes of a sink at a node, as a relation
abbrev pub AtNode : Type 0 → Type 1
AtNode S = S → TreeNode → S → Type 0

-- the sink takes the nodes one after another
abbrev pub TakesAll : {S : Type 0} → AtNode S → S → List TreeNode → S → Type 0
TakesAll Takes old [] new = new ≡ old
TakesAll {S} Takes old (node ∷ nodes) new = (mid : S) × Takes old node mid × TakesAll Takes mid nodes new

-- a sink takes a front of the nodes, where memory is refused on the way
pub record TakesFront {S : Type 0} (Takes : AtNode S) (old : S) (nodes : List TreeNode) (new : S)
    : Type 0 where
  -- the nodes that it takes
  pub front : List TreeNode
  -- the nodes that it is not handed
  pub rest : List TreeNode
  -- all nodes are these, one behind the other
  pub are : nodes ≡ front ++ rest
  -- it takes the nodes of the front, one after another
  pub takes : TakesAll Takes old front new

-- a sink takes a front of the nodes, and fails at the next one. Example: a sink that takes a node
-- by the line that it writes, and fails by a front of that line, has written the lines of the
-- first nodes and a front of the next one's.
pub record BreaksOff {S : Type 0} (Takes Fails : AtNode S) (old : S) (nodes : List TreeNode) (new : S)
    : Type 0 where
  -- the nodes that it takes
  pub front : List TreeNode
  -- the node at which it fails
  pub node : TreeNode
  -- the nodes that it is not handed
  pub rest : List TreeNode
  -- the sink before it fails
  pub mid : S
  -- all nodes are these, in this order
  pub are : nodes ≡ front ++ node ∷ rest
  -- it takes the nodes of the front, one after another
  pub takes : TakesAll Takes old front mid
  -- it fails at the next one
  pub fails : Fails mid node new

-- NODES ARE HANDED TO A SINK, which says by `Takes` and `Fails` what becomes of it at a node.
-- Where memory is refused it took a front of them, and where it fails that ends it.
abbrev pub Hands : {S : Type 0} → Result (Unit {0}) Fault → (S → ℕ) → (Takes Fails : AtNode S)
    → S → List TreeNode → S → Type 0
Hands result failed Takes Fails old nodes new = MatchResult result
    (λ _. TakesAll Takes old nodes new × (failed new ≡ failed old))
    (λ fault. ((fault ≡ out_of_memory) × TakesFront Takes old nodes new × (failed new ≡ failed old))
    ⊎ ((fault ≡ Write) × BreaksOff Takes Fails old nodes new × (failed new ≡ failed old + 1)))
