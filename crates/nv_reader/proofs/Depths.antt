-- Depths that cut nothing of a tree.
use Rattle.std.proofs.Common.{◌≡◌, ℕ, zero, suc, List, [], ◌∷◌, ◌++◌, Option, Some, None, refl, ap, ap₂, sym, subst}
use Rattle.std.specs.List.{Contains, flat_map}
use Rattle.nv_base.specs.declared.numbers.Handle.{Handle}
use Rattle.nv_entry.specs.Tree.{CutsNothing, names_of_node, node_and_below, path_below, tree_from}
use Rattle.nv_entry.specs.declared.names.BoundName.{BoundName}
use Rattle.nv_entry.specs.declared.node.NodeCopy.{NodeCopy}
use Rattle.nv_entry.specs.declared.tree.TreeNode.{TreeNode}
use Rattle.nv_reader.proofs.Elements.{contains_first, contains_later, contains_none}

flat_map_same : (f g : BoundName → List TreeNode) (names : List BoundName)
    → ((bound : BoundName) → Contains names bound → f bound ≡ g bound)
    → flat_map f names ≡ flat_map g names
flat_map_same f g [] same = refl
flat_map_same f g (bound ∷ names) same =
    ap₂ (λ xs ys. xs ++ ys) (same bound (contains_first bound names))
    (flat_map_same f g names (λ b at. same b (contains_later b bound names at)))

same_below : (found : Option NodeCopy) (path : List (List ℕ)) (f g : BoundName → List TreeNode)
    → ((bound : BoundName) → Contains (names_of_node found) bound → f bound ≡ g bound)
    → node_and_below found path f ≡ node_and_below found path g
same_below None path f g same = refl
same_below (Some node) path f g same = ap (λ trees. record { path = path; node = node } ∷ trees) (flat_map_same f g node.names same)

nothing_there : (nodes : Handle → Option NodeCopy) (depth : ℕ) (path : List (List ℕ)) (handle : Handle) → nodes handle ≡ None
    → tree_from nodes depth path handle ≡ []
nothing_there nodes zero path handle none = refl
nothing_there nodes (suc depth) path handle none = rw none refl

pub depths_agree : (nodes : Handle → Option NodeCopy) (one other : ℕ) (path : List (List ℕ)) (handle : Handle)
    → CutsNothing nodes one handle → CutsNothing nodes other handle → tree_from nodes one path handle ≡ tree_from nodes other path handle
depths_agree nodes zero other path handle cuts cuts' = sym (nothing_there nodes other path handle cuts)
depths_agree nodes (suc one) zero path handle cuts cuts' = nothing_there nodes (suc one) path handle cuts'
depths_agree nodes (suc one) (suc other) path handle cuts cuts' =
    same_below (nodes handle) path (λ b. tree_from nodes one (path_below path b.name) b.to)
    (λ b. tree_from nodes other (path_below path b.name) b.to)
    (λ b at. depths_agree nodes one other (path_below path b.name) b.to (cuts b at) (cuts' b at))

-- where there is no node, no depth cuts anything
pub none_cut : (nodes : Handle → Option NodeCopy) (depth : ℕ) (handle : Handle) → nodes handle ≡ None → CutsNothing nodes depth handle
none_cut nodes zero handle none = none
none_cut nodes (suc depth) handle none = λ bound at.
    absurd (contains_none bound (subst (λ found. Contains (names_of_node found) bound) none at))
