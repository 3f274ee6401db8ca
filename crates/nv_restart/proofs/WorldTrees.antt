-- The nodes of a world's image form a tree of directories, now and at each living snapshot.
use Rattle.std.proofs.Common.{◌≡◌, ℕ, ◌+◌, ◌<◌, ◌≤◌, ◌==◌, ◌∙◌, inl, inr, Bool, true, false, ap₂, if◌then◌else◌, not, List, [], length, Option, None, ap, arith, refl, subst, sym, take}
use Rattle.std.specs.Prelude.{slice_index_or}
use Rattle.std.specs.List.{Contains, list_any}
use Rattle.std.specs.Option.{option_map}
use Rattle.std.proofs.lemmas.Bool.{and_parts, cases_lt}
use Rattle.std.proofs.lemmas.List.{get_or_default, get_or_past}
use Rattle.nv_audit.specs.Image.{ImageValue, SlotImageValue, slot_of}
use Rattle.nv_audit.specs.Mounted.{cell_of, cell_with, cells_of, cut_log, is_over, tail_of}
use Rattle.nv_audit.specs.Nodes.{AreTrees, named, node_by, node_when, slots_when}
use Rattle.nv_audit.specs.Tree.{IsTree, is_of}
use Rattle.nv_audit.specs.declared.tree.NamedNode.{NamedNode}
use Rattle.nv_base.specs.declared.geometry.GeometryNumbers.{GeometryNumbers}
use Rattle.nv_base.specs.declared.numbers.Handle.{Handle}
use Rattle.nv_book.specs.declared.record.Record.{Record}
use Rattle.nv_calls.proofs.Effective.{gone_node}
use Rattle.nv_calls.specs.Plain.{node_in}
use Rattle.nv_calls.specs.Slots.{last_commit}
use Rattle.nv_cell.proofs.ValuesNow.{IsLog-take}
use Rattle.nv_cell.specs.Cell.{CellState, empty_cell, log_of}
use Rattle.nv_cell.specs.Readers.{is_gone}
use Rattle.nv_entry.specs.Held.{is_held}
use Rattle.nv_entry.specs.Log.{IsLog, pairs, seen}
use Rattle.nv_entry.specs.Node.{node_now}
use Rattle.nv_entry.specs.Stored.{stored}
use Rattle.nv_entry.specs.declared.item.Entry.{Entry}
use Rattle.nv_entry.specs.declared.node.NodeCopy.{NodeCopy}
use Rattle.nv_entry.specs.declared.value.When.{When}
use Rattle.nv_entry.specs.declared.value.When.TheVariants.{At, Now}
use Rattle.nv_epoch.specs.SnapList.{ids}
use Rattle.nv_journal.specs.Journal.{settled_tail}
use Rattle.nv_machine.proofs.CommitEffects.{take_none}
use Rattle.nv_machine.proofs.CopiesAll.{all_whole}
use Rattle.nv_machine.proofs.DirectoryLaws.{all_trees}
use Rattle.nv_machine.specs.Reads.{bytes_among}
use Rattle.nv_machine.specs.Settled.{settled, settled_copies, settled_nodes}
use Rattle.nv_machine.specs.Starts.{IsStart}
use Rattle.nv_machine.specs.Step.{after}
use Rattle.nv_machine.specs.World.{Event, Shared, World, cell_at, no_cell}
use Rattle.nv_restart.proofs.JudgedNodes.{copy_by, plain, shown_by}
use Rattle.nv_restart.proofs.JudgedNodes as judged
use Rattle.nv_restart.proofs.JudgedTrees.{shown, under}
use Rattle.nv_restart.proofs.Slots.{by_cell, cell_past, cell_there}
use Rattle.nv_restart.proofs.TreeSlots.{slots_tree}
use Rattle.nv_restart.proofs.Unheld.{no_node}
use Rattle.nv_restart.proofs.WorldCells as of_world
use Rattle.nv_restart.proofs.WorldSlots.{slot_is}
use Rattle.nv_restart.specs.Restarted.{image_of, restarted}

module _ (g : GeometryNumbers) (start : World) (records : List Record) (events : List Event)
    (is_start : IsStart g start records) where
  abbrev w : World
  w = after start events

  abbrev s : Shared
  s = w.shared

  abbrev image : ImageValue
  image = image_of w

  abbrev living : List ℕ
  living = ids s.book.snaps

  -- the node of a slot of the image, if it is of the generation
  abbrev own_node : ℕ → Option NamedNode → Option NamedNode
  own_node generation node = if is_of generation node then node else None

  -- what a cell gives by a log, told of the image's
  abbrev IsTold : When → ℕ → CellState → Type 0
  IsTold when ino cell =
      (generation : ℕ)
      → option_map (shown generation)
      (copy_by (cell_at s ino) generation (seen when (settled s ino)))
      ≡ own_node generation (node_when when cell)

  module _ (when : When) (ino : ℕ) (lt : ino < length s.cells) where
    abbrev cell : CellState
    cell = cell_at s ino

    cut : cut_log image ino ≡ settled s ino
    cut = of_world.cut g start records events is_start ino

    size : cell.block ≡ w.numbers.block
    size = of_world.size g start records events is_start ino lt

    -- a slot that is left has the node of the settled log
    left_told : IsTold when ino
        (cell_with w.numbers living (tail_of image ino) (slot_of image ino))
    left_told generation =
        let new = cell_with w.numbers living (tail_of image ino) (slot_of image ino) in
        let log : log_of new ≡ settled s ino =
        of_world.its_log g start records events is_start ino ∙ cut in
        let same : new.generation ≡ cell.generation =
        ap (λ (slot : SlotImageValue). slot.generation) (slot_is w ino) in
        shown_by cell generation (seen when (settled s ino))
        ∙ ap (own_node generation)
        (ap₂ (λ (n block : ℕ).
        option_map (named n (seen when (settled s ino)))
        (stored block (seen when (settled s ino))).kind)
        (sym same) size
        ∙ ap (λ (l : List Entry). node_by new (seen when l)) (sym log))

    -- one that is erased had none
    over_told : is_over living w.numbers.block (cut_log image ino) ≡ true
        → ((bytes : ℕ → List ℕ)
        → node_now bytes cell.block (seen when (settled s ino)) ≡ None)
        → IsTold when ino
        (empty_cell w.numbers.block w.numbers.page ((slot_of image ino).generation + 1) 0)
    over_told over none generation =
        nothing (generation == cell.generation) ∙ no_log when where
          nothing : (b : Bool)
              → option_map (shown generation)
              (if b
              then node_now (bytes_among cell.blocks) cell.block (seen when (settled s ino))
              else None)
              ≡ None
          nothing true = ap (option_map (shown generation)) (none (bytes_among cell.blocks))
          nothing false = refl

          nobody : Option NamedNode
          nobody = None

          no_log : (x : When)
              → nobody
              ≡ own_node generation
              (node_when x
              (empty_cell w.numbers.block w.numbers.page ((slot_of image ino).generation + 1) 0))
          no_log Now = refl
          no_log (At epoch) = refl

    slot_told : (is_over living w.numbers.block (cut_log image ino) ≡ true
        → (bytes : ℕ → List ℕ)
        → node_now bytes cell.block (seen when (settled s ino)) ≡ None)
        → IsTold when ino (cell_of image ino)
    slot_told none =
        by_cell (IsTold when ino) w.numbers living (tail_of image ino) (slot_of image ino)
        (λ over. over_told over (none over)) (λ left. left_told)

  past_told : (when : When) (ino : ℕ) → length s.cells ≤ ino → IsTold when ino no_cell
  past_told when ino past generation =
      ap (λ (c : CellState).
      option_map (shown generation)
      (copy_by c generation
      (seen when (take (settled_tail s.book.journals ino c.chain.tail) c.chain.entries))))
      (get_or_past s.cells ino no_cell past)
      ∙ ap (λ (l : List Entry).
      option_map (shown generation) (copy_by no_cell generation (seen when l)))
      (take_none (settled_tail s.book.journals ino 0))
      ∙ at when (generation == no_cell.generation)
    where
      at : (x : When) (b : Bool)
          → option_map (shown generation)
          (if b then node_now (bytes_among no_cell.blocks) no_cell.block (seen x []) else None)
          ≡ own_node generation (node_when x no_cell)
      at Now true = refl
      at Now false = refl
      at (At epoch) true = refl
      at (At epoch) false = refl

  -- ---- all slots

  -- a gone inode is erased of which no snapshot reads anything at that time
  abbrev IsBareWhen : When → Type 0
  IsBareWhen when =
      (ino : ℕ) → ino < length s.cells
      → is_over living w.numbers.block (cut_log image ino) ≡ true → (bytes : ℕ → List ℕ)
      → node_now bytes (cell_at s ino).block (seen when (settled s ino)) ≡ None

  told_at : (when : When) → IsBareWhen when → (ino : ℕ)
      → IsTold when ino (cell_at (restarted w).shared ino)
  told_at when bare ino = elim (cases_lt ino (length s.cells)) [
    | inl lt ↦
        let inside : ino < length image.slots =
        (let many = of_world.slots g start records events is_start in omega (arith, lt, many)) in
        subst (IsTold when ino) (sym (cell_there image ino inside))
        (slot_told when ino lt (bare ino lt))
    | inr past ↦
        let outside : length image.slots ≤ ino =
        (let many = of_world.slots g start records events is_start in omega (arith, past, many)) in
        subst (IsTold when ino) (sym (cell_past image ino outside)) (past_told when ino past)
  ]

  are : (when : When) → IsBareWhen when → (nodes : Handle → Option NodeCopy)
      → ((handle : Handle) → nodes handle
      ≡ copy_by (cell_at s handle.ino) handle.generation (seen when (settled s handle.ino)))
      → (handle : Handle) → option_map (shown handle.generation) (nodes handle)
      ≡ under (slots_when when (cells_of image)) handle
  are when bare nodes is handle =
      ap (option_map (shown handle.generation)) (is handle)
      ∙ told_at when bare handle.ino handle.generation
      ∙ ap (own_node handle.generation) (sym (judged.slot_is when (cells_of image) handle.ino))

  -- ---- now

  bare_now : IsBareWhen Now
  bare_now ino lt over bytes =
      gone_node bytes (cell_at s ino).block (settled s ino)
      (ap is_gone (sym (of_world.cut g start records events is_start ino))
      ∙ (and_parts (is_gone (cut_log image ino))
      (not (list_any (is_held living) (pairs w.numbers.block (cut_log image ino)))) over).0)

  now_is : (handle : Handle) → node_in (settled_nodes s) handle
      ≡ copy_by (cell_at s handle.ino) handle.generation (settled s handle.ino)
  now_is handle =
      let cell = cell_at s handle.ino in
      plain s (handle.generation == cell.generation) (last_commit (settled s handle.ino))
      (node_now (bytes_among cell.blocks) cell.block (settled s handle.ino))

  tree_now : IsTree (slots_when Now (cells_of image))
  tree_now =
      slots_tree (node_in (settled_nodes s)) (slots_when Now (cells_of image))
      (are Now bare_now (node_in (settled_nodes s)) now_is)
      (all_trees g start records events is_start)

  -- ---- at a living snapshot

  bare_at : (epoch : ℕ) → Contains living epoch → IsBareWhen (At epoch)
  bare_at epoch lives ino lt over bytes =
      no_node living epoch (cell_at s ino).block (settled s ino) rises lives unheld bytes where
        rises : IsLog (settled s ino)
        rises =
            IsLog-take (settled_tail s.book.journals ino (cell_at s ino).chain.tail)
            (cell_at s ino).chain.entries
            ((of_world.known g start records events is_start).order.logs ino).ordered

        turn : (b : Bool) → not b ≡ true → b ≡ false
        turn true e = sym e
        turn false e = refl

        unheld : list_any (is_held living) (pairs (cell_at s ino).block (settled s ino)) ≡ false
        unheld =
            ap₂ (λ (n : ℕ) (l : List Entry). list_any (is_held living) (pairs n l))
            (of_world.size g start records events is_start ino lt)
            (sym (of_world.cut g start records events is_start ino))
            ∙ turn (list_any (is_held living) (pairs w.numbers.block (cut_log image ino)))
            (and_parts (is_gone (cut_log image ino))
            (not (list_any (is_held living) (pairs w.numbers.block (cut_log image ino)))) over).1

  tree_at : (epoch : ℕ) → Contains living epoch → IsTree (slots_when (At epoch) (cells_of image))
  tree_at epoch lives =
      slots_tree (settled_copies s epoch) (slots_when (At epoch) (cells_of image))
      (are (At epoch) (bare_at epoch lives) (settled_copies s epoch) (λ handle. refl))
      (all_whole g start records is_start events epoch lives).one_tree

  -- THE NODES OF THE IMAGE form trees
  pub world_trees : AreTrees living (cells_of image)
  world_trees = record {
    now = tree_now;
    at = λ k d lt.
        let snapshot = slice_index_or living k d in
        tree_at snapshot (k, lt, get_or_default living k snapshot d lt);
  }
