-- A tree of the nodes of slots is one by the slots' numbers: of the settled nodes, and of a snapshot's.
use Rattle.std.proofs.Common.{◌≡◌, ℕ, zero, suc, ◌<◌, ◌≤◌, ◌==◌, ◌∙◌, Bool, true, false, cond, List, [], ◌∷◌, Option, None, IsSome, ap, arith, inl, inr, length, refl, subst, sym, take}
use Rattle.std.specs.Prelude.{option_map}
use Rattle.std.proofs.lemmas.Bool.{cases_lt, eqb-true}
use Rattle.std.proofs.lemmas.List.{get_or_default, get_or_past}
use Rattle.nv_base.specs.declared.numbers.Handle.{Handle}
use Rattle.nv_calls.proofs.Commits.{handle-same}
use Rattle.nv_calls.specs.Plain.{PlainNode, node_in}
use Rattle.nv_cell.specs.Cell.{CellState}
use Rattle.nv_entry.specs.Node.{node_at}
use Rattle.nv_entry.specs.Tree.{FormTree, LeadsAt, names_under, root}
use Rattle.nv_entry.specs.declared.item.Entry.{Entry}
use Rattle.nv_entry.specs.declared.names.BoundName.{BoundName}
use Rattle.nv_entry.specs.declared.node.NodeCopy.{NodeCopy}
use Rattle.nv_journal.specs.Journal.{settled_tail}
use Rattle.nv_machine.proofs.DirectoriesChanged.{some_directory}
use Rattle.nv_machine.proofs.CommitEffects.{take_none}
use Rattle.nv_machine.specs.Directories.{AreTree}
use Rattle.nv_machine.specs.Reads.{bytes_among}
use Rattle.nv_machine.specs.Settled.{node_by, settled, settled_copies, settled_nodes}
use Rattle.nv_machine.specs.World.{Shared, cell_at, no_cell}

-- a node's handle has the generation of its slot, which is one of the world's
abbrev IsUnder : Shared → Handle → Type 0
IsUnder s handle = (handle.generation ≡ (cell_at s handle.ino).generation) × (handle.ino < length s.cells)

module _ (s : Shared) (nodes : Handle → Option NodeCopy) (under : (handle : Handle) → IsSome (nodes handle) → IsUnder s handle)
    (tree : AreTree nodes) where
  -- no two nodes have one number
  one_handle : (a b : Handle) → IsSome (nodes a) → IsSome (nodes b) → a.ino ≡ b.ino → a ≡ b
  one_handle a b one other same =
      handle-same a b same ((under a one).0 ∙ ap (λ ino. (cell_at s ino).generation) same ∙ sym (under b other).0)

  by_numbers : FormTree nodes (length s.cells)
  by_numbers = record { numbered = λ handle some. (under handle some).1; root_unnamed = root_unnamed; one_name = one_name } where
    top : IsSome (nodes root)
    top = some_directory (nodes root) tree.one_name.top

    root_unnamed : (dir : Handle) (place : ℕ) (bound : BoundName) → LeadsAt nodes dir place bound → root.ino < bound.to.ino
    root_unnamed dir place bound (lt, is, some) = go bound.to.ino refl where
      go : (n : ℕ) → bound.to.ino ≡ n → 0 < bound.to.ino
      go zero at = absurd (tree.one_name.unnamed dir (bound, (place, lt, is), one_handle bound.to root some top at))
      go (suc n) at = omega (arith, at)

    same_place : (dir : Handle) (j k : ℕ) (a b : BoundName) → LeadsAt nodes dir j a → LeadsAt nodes dir k b → a.to ≡ b.to → j ≡ k
    same_place dir j k a b (low, here, x) (lt, there, y) same = elim (cases_lt j k) [
      | inl below ↦ absurd ((tree.one_name.apart dir j k a below lt).1 (ap (λ (n : BoundName). n.to) here ∙ same
          ∙ sym (ap (λ (n : BoundName). n.to) (get_or_default (names_under nodes dir) k a b lt ∙ there))))
      | inr from ↦ elim (cases_lt k j) [
        | inl below ↦ absurd ((tree.one_name.apart dir k j b below low).1 (ap (λ (n : BoundName). n.to) there ∙ sym same
            ∙ sym (ap (λ (n : BoundName). n.to) (get_or_default (names_under nodes dir) j b a low ∙ here))))
        | inr to ↦ omega (arith, from, to)
      ]
    ]

    one_name : (one other : Handle) (j k : ℕ) (a b : BoundName) → LeadsAt nodes one j a → LeadsAt nodes other k b → a.to.ino ≡ b.to.ino
        → (one.ino ≡ other.ino) × (j ≡ k)
    one_name one other j k a b first second same =
        let to : a.to ≡ b.to = one_handle a.to b.to first.2 second.2 same in
        let dir : one ≡ other = tree.one_name.one one other b.to (a, (j, first.0, first.1), to) (b, (k, second.0, second.1), refl) in (
          ap (λ (h : Handle). h.ino) dir,
          same_place other j k a b (subst (λ h. LeadsAt nodes h j a) dir first) second to,
        )

-- ---- the nodes of slots

module _ (s : Shared) where
  none_past : (ino : ℕ) → length s.cells ≤ ino → settled s ino ≡ []
  none_past ino past =
      ap (λ (c : CellState). take (settled_tail s.book.journals ino c.chain.tail) c.chain.entries) (get_or_past s.cells ino no_cell past)
      ∙ take_none (settled_tail s.book.journals ino 0)

  -- where a node's log is not empty, its slot is one of the world's
  slot_there : (node : List Entry → Option NodeCopy) → node [] ≡ None → (ino : ℕ) → IsSome (node (settled s ino)) → ino < length s.cells
  slot_there node none ino some = elim (cases_lt ino (length s.cells)) [
    | inl lt ↦ lt
    | inr past ↦ absurd (let no : IsSome {T = NodeCopy} None = subst IsSome (ap node (none_past ino past) ∙ none) some in
        let z : false ≡ true = no in cc)
  ]

  under_if : (handle : Handle) (node : Bool → Option NodeCopy) → node false ≡ None
      → (IsSome (node true) → handle.ino < length s.cells)
      → IsSome (node (handle.generation == (cell_at s handle.ino).generation)) → IsUnder s handle
  under_if handle node none inside some = go (handle.generation == (cell_at s handle.ino).generation) refl some where
    go : (same : Bool) → (handle.generation == (cell_at s handle.ino).generation) ≡ same → IsSome (node same) → IsUnder s handle
    go true is some = (eqb-true handle.generation (cell_at s handle.ino).generation is, inside some)
    go false is some = absurd (let no : IsSome {T = NodeCopy} None = subst IsSome none some in let z : false ≡ true = no in cc)

  node_under : (handle : Handle) → IsSome (node_in (settled_nodes s) handle) → IsUnder s handle
  node_under handle some =
      let cell = cell_at s handle.ino in
      let node : List Entry → Option NodeCopy = λ log. option_map (λ (p : PlainNode). p.node) (node_by cell log) in
      under_if handle (λ same. option_map (λ (p : PlainNode). p.node) (cond same (node_by cell (settled s handle.ino)) None)) refl
      (λ there. slot_there node refl handle.ino there) some

  copy_under : (epoch : ℕ) (handle : Handle) → IsSome (settled_copies s epoch handle) → IsUnder s handle
  copy_under epoch handle some =
      let cell = cell_at s handle.ino in
      let node : List Entry → Option NodeCopy = node_at (bytes_among cell.blocks) cell.block epoch in
      under_if handle (λ same. cond same (node (settled s handle.ino)) None) refl (λ there. slot_there node refl handle.ino there) some

  pub settled_by_numbers : AreTree (node_in (settled_nodes s)) → FormTree (node_in (settled_nodes s)) (length s.cells)
  settled_by_numbers tree = by_numbers s (node_in (settled_nodes s)) node_under tree

  pub copies_by_numbers : (epoch : ℕ) → AreTree (settled_copies s epoch) → FormTree (settled_copies s epoch) (length s.cells)
  copies_by_numbers epoch tree = by_numbers s (settled_copies s epoch) (copy_under epoch) tree

  -- ---- the slot of a node

  -- it has an entry, and is of the generation of the node's handle
  pub node_there : (handle : Handle) → IsSome (node_in (settled_nodes s) handle)
      → ((cell_at s handle.ino).generation ≡ handle.generation) × (0 < length (settled s handle.ino))
  node_there handle some = go (settled s handle.ino) refl where
    cell : CellState
    cell = cell_at s handle.ino

    none : (same : Bool) → IsSome (option_map (λ (p : PlainNode). p.node) (cond same (node_by cell []) None)) → ⊥
    none true there = let z : false ≡ true = there in cc
    none false there = let z : false ≡ true = there in cc

    go : (log : List Entry) → settled s handle.ino ≡ log → (cell.generation ≡ handle.generation) × (0 < length (settled s handle.ino))
    go (e ∷ log) is = (sym (node_under handle some).0, omega (arith, ap (λ (l : List Entry). length l) is))
    go [] is = absurd (none (handle.generation == cell.generation) (subst (λ (log : List Entry).
        IsSome (option_map (λ (p : PlainNode). p.node) (cond (handle.generation == cell.generation) (node_by cell log) None))) is some))
