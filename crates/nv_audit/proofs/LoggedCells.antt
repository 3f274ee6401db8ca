-- The trees of cells are those of their logs.
use Rattle.std.proofs.Common.{◌≡◌, ℕ, Bool, List, [], ◌∷◌, Option, get_or, map, refl, ap, sym, subst}
use Rattle.std.specs.Prelude.{◌↔◌, Err, IfOk, IsTrue, Ok, Result}
use Rattle.nv_base.specs.declared.fault.Fault.{Fault}
use Rattle.nv_cell.specs.Cell.{CellState}
use Rattle.nv_entry.specs.declared.value.When.{When}
use Rattle.nv_entry.specs.declared.value.When.TheVariants.{At, Now}
use Rattle.nv_audit.specs.Logged.{AreLoggedTrees, logged, node_of, slots_of}
use Rattle.nv_audit.specs.Nodes.{AreTrees, slots_when}
use Rattle.nv_audit.specs.Tree.{IsTree}
use Rattle.nv_audit.specs.declared.tree.NamedNode.{NamedNode}

pub same_slots : (when : When) (cells : List CellState) → slots_of when (map logged cells) ≡ slots_when when cells
same_slots when [] = refl
same_slots when (c ∷ cells) = ap (λ (ns : List (Option NamedNode)). node_of when (logged c) ∷ ns) (same_slots when cells)

pub same_trees : (snapshots : List ℕ) (cells : List CellState) → AreLoggedTrees snapshots (map logged cells) ↔ AreTrees snapshots cells
same_trees snapshots cells = (
  λ trees. record {
    now = subst IsTree (same_slots Now cells) trees.now;
    at = λ k d lt. subst IsTree (same_slots (At (get_or snapshots k d)) cells) (trees.at k d lt);
  },
  λ trees. record {
    now = subst IsTree (sym (same_slots Now cells)) trees.now;
    at = λ k d lt. subst IsTree (sym (same_slots (At (get_or snapshots k d)) cells)) (trees.at k d lt);
  },
)

pub told_of_cells : (cells : List CellState) (snapshots : List ℕ) (r : Result Bool Fault)
    → IfOk r (λ form. IsTrue form ↔ AreLoggedTrees snapshots (map logged cells))
    → IfOk r (λ form. IsTrue form ↔ AreTrees snapshots cells)
told_of_cells cells snapshots (Ok form) told =
    let both = same_trees snapshots cells in (λ t. both.0 (told.0 t), λ trees. told.1 (both.1 trees))
told_of_cells cells snapshots (Err fault) told = told
