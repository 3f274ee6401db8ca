-- The trees of the plain world and of its copies are those of the settled logs, now and at each living snapshot.
use Rattle.nv_book.specs.declared.record.Record.{Record}
use Rattle.nv_machine.specs.Starts.{IsStart}
use Rattle.nv_machine.specs.World.{World, Event, Shared}
use Rattle.std.proofs.Common.{◌≡◌, ◌∙◌, ℕ, zero, suc, ◌<◌, Bool, true, false, List, [], ◌∷◌, Option, Some, ap, arith, if◌then◌else◌, length, refl, slice_index_or, sym}
use Rattle.std.proofs.Math.Path.{fun_ext}
use Rattle.std.proofs.lemmas.Bool.{eq-eqb, eqb-true}
use Rattle.std.specs.List.{Contains}
use Rattle.nv_base.specs.declared.geometry.GeometryNumbers.{GeometryNumbers}
use Rattle.nv_base.specs.declared.numbers.Handle.{Handle}
use Rattle.nv_calls.specs.Plain.{PlainNode, node_in}
use Rattle.nv_entry.specs.Tree.{root, tree_from}
use Rattle.nv_entry.specs.declared.node.NodeCopy.{NodeCopy}
use Rattle.nv_entry.specs.declared.tree.TreeNode.{TreeNode}
use Rattle.nv_epoch.specs.SnapList.{ids, numbers}
use Rattle.nv_epoch.specs.declared.snapshot.Snapshot.{Snapshot}
use Rattle.nv_machine.proofs.CopiesAll.{all_copied}
use Rattle.nv_machine.proofs.FitsPlain.{plain_nodes}
use Rattle.nv_machine.specs.PlainRun.{Copy, is_of, plain_after, plain_of}
use Rattle.nv_machine.specs.Reading.{AreCopied, IsCopied, copied_tree, plain_tree}
use Rattle.nv_machine.specs.Settled.{settled_copies, snapshot_tree, tree_of}
use Rattle.nv_machine.specs.Step.{after}

pub trees_are_plain : (g : GeometryNumbers) (start : World) (records : List Record) (events : List Event)
    → IsStart g start records → tree_of (after start events)
    ≡ plain_tree (length (after start events).shared.cells) (plain_after start events (plain_of start))
trees_are_plain g start records events is_start =
    ap (λ (nodes : Handle → Option PlainNode). tree_from (node_in nodes) (length (after start events).shared.cells) [] root)
    (fun_ext (λ (handle : Handle). plain_nodes g start records events is_start handle))

module _ (s : Shared) (inodes n : ℕ) where
  abbrev tree : (Handle → Option NodeCopy) → List TreeNode
  tree nodes = tree_from nodes inodes [] root

  same_tree : (x : Snapshot) (copy : Copy) → IsCopied s x copy → copy.snapshot ≡ n → tree copy.nodes ≡ tree (settled_copies s n)
  same_tree x copy is named =
      sym (ap tree (fun_ext (λ (handle : Handle).
      ap (λ (k : ℕ). settled_copies s k handle) (sym named ∙ sym is.number) ∙ is.nodes handle)))

  copy_reads : (living : List Snapshot) (copies : List Copy) (k : ℕ) → AreCopied s living copies → k < length (numbers living)
      → slice_index_or (numbers living) k n ≡ n → copied_tree inodes copies n ≡ Some (tree (settled_copies s n))
  copy_reads [] copies k are lt is = absurd (omega (arith, lt))
  copy_reads (x ∷ living) [] k are lt is = absurd are
  copy_reads (x ∷ living) (copy ∷ copies) zero are lt is =
      let named : copy.snapshot ≡ n = sym are.0.number ∙ is in
      rw (eq-eqb copy.snapshot n named) (ap (λ (t : List TreeNode). Some t) (same_tree x copy are.0 named))
  copy_reads (x ∷ living) (copy ∷ copies) (suc k) are lt is =
      go (is_of n copy) refl (copy_reads living copies k are.1 (omega (arith, lt)) is) where
        go : (b : Bool) → is_of n copy ≡ b → copied_tree inodes copies n ≡ Some (tree (settled_copies s n))
            → (if b then Some (tree copy.nodes) else copied_tree inodes copies n) ≡ Some (tree (settled_copies s n))
        go true e rest = ap (λ (t : List TreeNode). Some t) (same_tree x copy are.0 (eqb-true copy.snapshot n e))
        go false e rest = rest

pub trees_are_copied : (g : GeometryNumbers) (start : World) (records : List Record) (events : List Event) (snapshot : ℕ)
    → IsStart g start records
    → Contains (ids (after start events).shared.book.snaps) snapshot
    → copied_tree (length (after start events).shared.cells)
    (plain_after start events (plain_of start)).copies snapshot
    ≡ Some (snapshot_tree (after start events) snapshot)
trees_are_copied g start records events snapshot is_start lives =
    let w = after start events in
    copy_reads w.shared (length w.shared.cells) snapshot w.shared.book.snaps.living
    (plain_after start events (plain_of start)).copies lives.0
    (all_copied g start records is_start events)
    lives.1 lives.2
