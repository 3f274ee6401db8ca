-- What stands in a tree under a path is the node to which the path leads.
use Rattle.std.proofs.Common.{◌≡◌, ◌∙◌, ◌<◌, ◌++◌, append_assoc, arith, ap, refl, subst, sym, ℕ, zero, suc, List, [], ◌∷◌, Option, Some, None}
use Rattle.std.proofs.lemmas.List.{append-nil}
use Rattle.std.specs.List.{AllByRecursion, AllPairs, Contains, flat_map}
use Rattle.nv_base.specs.declared.numbers.Handle.{Handle}
use Rattle.nv_calls.specs.Refusals.{lookup}
use Rattle.nv_entry.specs.Tree.{names_of_node, names_under, node_and_below, path_below, root, tree_from}
use Rattle.nv_entry.specs.declared.names.BoundName.{BoundName}
use Rattle.nv_entry.specs.declared.node.NodeCopy.{NodeCopy}
use Rattle.nv_entry.specs.declared.tree.TreeNode.{TreeNode}
use Rattle.nv_machine.specs.Directories.{AreApart, AreTree}
use Rattle.nv_machine.proofs.DirectoriesChanged.{found_in}
use Rattle.nv_machine.proofs.DirectoriesReached.{one_of_name}
use Rattle.nv_mount_laws.specs.Snapshots.{PathLeads}

-- one path leads to one node
pub one_end : (nodes : Handle → Option NodeCopy) (names : List (List ℕ)) (from to other : Handle)
    → PathLeads nodes from names to → PathLeads nodes from names other → to ≡ other
one_end nodes [] from to other first second = sym first ∙ second
one_end nodes (name ∷ names) from to other (next, at, leads) (last, there, ends) =
    let some : Some next ≡ Some last = sym at ∙ there in
    let same : next ≡ last = cc in
    one_end nodes names last to other
    (subst (λ (h : Handle). PathLeads nodes h names to) same leads) ends

-- all of one list, and then of another behind it
all_behind : {X : Type 0} (P : X → Type 0) (xs ys : List X) → AllByRecursion P xs
    → AllByRecursion P ys → AllByRecursion P (xs ++ ys)
all_behind P [] ys first second = second
all_behind P (x ∷ xs) ys first second = (first.0, all_behind P xs ys first.1 second)

all_weaker : {X : Type 0} (P Q : X → Type 0) → ((x : X) → P x → Q x) → (xs : List X)
    → AllByRecursion P xs → AllByRecursion Q xs
all_weaker P Q weaker [] all = tt
all_weaker P Q weaker (x ∷ xs) all = (weaker x all.0, all_weaker P Q weaker xs all.1)

-- what stands in a tree under a path is the node to which it leads
abbrev pub IsUnderPath : (Handle → Option NodeCopy) → TreeNode → Type 0
IsUnderPath nodes node =
    (handle : Handle) → PathLeads nodes root node.path handle → nodes handle ≡ Some node.node

module _ (nodes : Handle → Option NodeCopy) (tree : AreTree nodes) where
  -- a node of a tree stands below a directory's path, and what is left of its path leads to it
  pub record StandsBelow (path : List (List ℕ)) (dir : Handle) (node : TreeNode) : Type 0 where
    pub rest : List (List ℕ)
    pub below : node.path ≡ path ++ rest
    pub is : (handle : Handle) → PathLeads nodes dir rest handle → nodes handle ≡ Some node.node

  -- a name leads to what is bound to it
  leads_there : (dir next : Handle) (bound : BoundName) → Contains (names_under nodes dir) bound
      → lookup nodes dir bound.name ≡ Some next → next ≡ bound.to
  leads_there dir next bound has at =
      let found : BoundName = record { name = bound.name; to = next } in
      let same : found ≡ bound =
      one_of_name (names_under nodes dir) found bound (tree.one_name.apart dir)
      (found_in bound.name (names_under nodes dir) next at) has refl in
      ap (λ (b : BoundName). b.to) same

  one_below : (path : List (List ℕ)) (dir : Handle) (bound : BoundName)
      → Contains (names_under nodes dir) bound → (node : TreeNode)
      → StandsBelow (path_below path bound.name) bound.to node → StandsBelow path dir node
  one_below path dir bound has node stands = record {
    rest = bound.name ∷ stands.rest;
    below = stands.below ∙ append_assoc path (bound.name ∷ []) stands.rest;
    is = λ handle leads. stands.is handle
        (subst (λ (h : Handle). PathLeads nodes h stands.rest handle)
        (leads_there dir leads.0 bound has leads.1) leads.2);
  }

  all_below : (path : List (List ℕ)) (dir : Handle) (names : List BoundName)
      (below : BoundName → List TreeNode)
      → ((bound : BoundName) → Contains names bound → Contains (names_under nodes dir) bound)
      → ((bound : BoundName)
      → AllByRecursion (StandsBelow (path_below path bound.name) bound.to) (below bound))
      → AllByRecursion (StandsBelow path dir) (flat_map below names)
  all_below path dir [] below has each = tt
  all_below path dir (bound ∷ names) below has each =
      all_behind (StandsBelow path dir) (below bound) (flat_map below names)
      (all_weaker (StandsBelow (path_below path bound.name) bound.to) (StandsBelow path dir)
      (one_below path dir bound (has bound (0, omega arith, refl))) (below bound) (each bound))
      (all_below path dir names below
      (λ other there. has other (suc there.0, omega (arith, there.1), there.2)) each)

  one_level : (depth : ℕ) (path : List (List ℕ)) (dir : Handle)
      → ((bound : BoundName) → AllByRecursion (StandsBelow (path_below path bound.name) bound.to)
      (tree_from nodes depth (path_below path bound.name) bound.to))
      → AllByRecursion (StandsBelow path dir) (tree_from nodes (suc depth) path dir)
  one_level depth path dir each = go (nodes dir) refl where
    below : BoundName → List TreeNode
    below bound = tree_from nodes depth (path_below path bound.name) bound.to

    go : (node : Option NodeCopy) → nodes dir ≡ node
        → AllByRecursion (StandsBelow path dir) (node_and_below node path below)
    go None is = tt
    go (Some node) is = (
      record {
        rest = [];
        below = sym (append-nil path);
        is = λ handle at. ap nodes (sym at) ∙ is;
      },
      all_below path dir node.names below
          (λ bound has. subst (λ (n : Option NodeCopy). Contains (names_of_node n) bound) (sym is)
          has) each,
    )

  -- EACH NODE OF A TREE stands so
  pub tree_stands : (depth : ℕ) (path : List (List ℕ)) (dir : Handle)
      → AllByRecursion (StandsBelow path dir) (tree_from nodes depth path dir)
  tree_stands zero path dir = tt
  tree_stands (suc depth) path dir =
      one_level depth path dir (λ bound. tree_stands depth (path_below path bound.name) bound.to)

  from_root : (node : TreeNode) → StandsBelow [] root node → IsUnderPath nodes node
  from_root node stands handle leads =
      stands.is handle
      (subst (λ (names : List (List ℕ)). PathLeads nodes root names handle) stands.below leads)

  -- of the whole tree: what stands under a path is the node to which it leads
  pub tree_under : (depth : ℕ) → AllByRecursion (IsUnderPath nodes) (tree_from nodes depth [] root)
  tree_under depth =
      all_weaker (StandsBelow [] root) (IsUnderPath nodes) from_root (tree_from nodes depth [] root)
      (tree_stands depth [] root)
