-- A STOP LEAVES EVERY SETTLED NODE, with the commit that changed it last.
use Rattle.std.proofs.Common.{◌≡◌, ℕ, ◌+◌, ◌<◌, ◌≤◌, ◌==◌, ◌∙◌, inl, inr, Bool, true, false, ap₂, cond, not, List, [], length, Option, None, ap, arith, refl, sym, take}
use Rattle.std.specs.List.{list_any}
use Rattle.std.proofs.lemmas.Bool.{and_parts, cases_lt}
use Rattle.std.proofs.lemmas.List.{get_or_past}
use Rattle.nv_audit.specs.Image.{ImageValue, SlotImageValue, slot_of}
use Rattle.nv_audit.specs.Mounted.{cell_with, cut_log, is_over, tail_of}
use Rattle.nv_base.specs.declared.geometry.GeometryNumbers.{GeometryNumbers}
use Rattle.nv_base.specs.declared.numbers.Handle.{Handle}
use Rattle.nv_book.specs.declared.record.Record.{Record}
use Rattle.nv_calls.proofs.Effective.{gone_node}
use Rattle.nv_calls.specs.Plain.{PlainNode, stamped}
use Rattle.nv_calls.specs.Slots.{last_commit}
use Rattle.nv_cell.specs.Cell.{CellState, empty_cell, log_of}
use Rattle.nv_cell.specs.Readers.{is_gone}
use Rattle.nv_entry.specs.Held.{is_held}
use Rattle.nv_entry.specs.Log.{pairs}
use Rattle.nv_entry.specs.declared.item.Entry.{Entry}
use Rattle.nv_epoch.specs.SnapList.{ids}
use Rattle.nv_journal.specs.Journal.{settled_tail}
use Rattle.nv_machine.proofs.CellPages.{same_node}
use Rattle.nv_machine.proofs.CommitEffects.{take_none}
use Rattle.nv_machine.proofs.NewWorld.{none_closed}
use Rattle.nv_machine.specs.Reads.{bytes_among}
use Rattle.nv_machine.specs.Settled.{node_by, settled, settled_nodes}
use Rattle.nv_machine.specs.Starts.{IsStart}
use Rattle.nv_machine.specs.Step.{after}
use Rattle.nv_machine.specs.World.{Event, Shared, World, cell_at, no_cell}
use Rattle.nv_restart.proofs.JudgedLogs.{settled_is}
use Rattle.nv_restart.proofs.Slots.{by_cell, cell_past, cell_there}
use Rattle.nv_restart.proofs.WorldCells as of_world
use Rattle.nv_restart.proofs.WorldSlots.{slot_is}
use Rattle.nv_restart.specs.Restarted.{image_of, restarted}

module _ (g : GeometryNumbers) (start : World) (records : List Record) (events : List Event)
    (is_start : IsStart g start records) where
  abbrev w : World
  w = after start events

  abbrev s : Shared
  s = w.shared

  abbrev image : ImageValue
  image = image_of w

  abbrev living : List ℕ
  living = ids s.book.snaps

  abbrev t : Shared
  t = (restarted w).shared

  -- what a slot gives under a handle of a generation
  abbrev Under : ℕ → CellState → List Entry → Option PlainNode
  Under generation cell log = cond (generation == cell.generation) (node_by cell log) None

  new_log : (ino : ℕ) → settled t ino ≡ log_of (cell_at t ino)
  new_log ino = settled_is t ino (none_closed w.numbers.cpus)

  either_none : (b c : Bool) (x y : Option PlainNode) → x ≡ None → y ≡ None
      → cond b x None ≡ cond c y None
  either_none true true x y e f = e ∙ sym f
  either_none true false x y e f = e
  either_none false true x y e f = sym f
  either_none false false x y e f = refl

  module _ (ino : ℕ) (lt : ino < length s.cells) where
    abbrev cell : CellState
    cell = cell_at s ino

    abbrev new : CellState
    new = cell_with w.numbers living (tail_of image ino) (slot_of image ino)

    cut : cut_log image ino ≡ settled s ino
    cut = of_world.cut g start records events is_start ino

    left_node : (generation : ℕ)
        → Under generation new (log_of new) ≡ Under generation cell (settled s ino)
    left_node generation =
        let own : log_of new ≡ settled s ino =
        of_world.its_log g start records events is_start ino ∙ cut in
        let node : node_by new (settled s ino) ≡ node_by cell (settled s ino) =
        same_node cell new (settled_tail s.book.journals ino cell.chain.tail)
        (sym (of_world.size g start records events is_start ino lt))
        (of_world.same_bytes g start records events is_start ino lt) in
        let same : new.generation ≡ cell.generation =
        ap (λ (slot : SlotImageValue). slot.generation) (slot_is w ino) in
        ap (Under generation new) own
        ∙ ap₂ (λ (m : ℕ) (x : Option PlainNode). cond (generation == m) x None) same node

    -- a gone inode that is erased had none
    over_node : (generation : ℕ)
        → is_over living w.numbers.block (cut_log image ino) ≡ true
        → Under generation
        (empty_cell w.numbers.block w.numbers.page ((slot_of image ino).generation + 1) 0) []
        ≡ Under generation cell (settled s ino)
    over_node generation over =
        let gone : is_gone (settled s ino) ≡ true =
        ap is_gone (sym cut)
        ∙ (and_parts (is_gone (cut_log image ino))
        (not (list_any (is_held living) (pairs w.numbers.block (cut_log image ino)))) over).0 in
        either_none (generation == ((slot_of image ino).generation + 1))
        (generation == cell.generation)
        (node_by (empty_cell w.numbers.block w.numbers.page ((slot_of image ino).generation + 1) 0)
        [])
        (node_by cell (settled s ino)) refl
        (ap (stamped (last_commit (settled s ino)))
        (gone_node (bytes_among cell.blocks) cell.block (settled s ino) gone))

    slot_node : (generation : ℕ)
        → Under generation (cell_at t ino) (settled t ino)
        ≡ Under generation cell (settled s ino)
    slot_node generation =
        let inside : ino < length image.slots =
        (let many = of_world.slots g start records events is_start in omega (arith, lt, many)) in
        ap (Under generation (cell_at t ino)) (new_log ino)
        ∙ ap (λ (c : CellState). Under generation c (log_of c)) (cell_there image ino inside)
        ∙ by_cell (λ (c : CellState).
        Under generation c (log_of c) ≡ Under generation cell (settled s ino)) w.numbers living
        (tail_of image ino) (slot_of image ino) (over_node generation)
        (λ left. left_node generation)

  pub same_nodes : (handle : Handle) → settled_nodes t handle ≡ settled_nodes s handle
  same_nodes handle = elim (cases_lt handle.ino (length s.cells)) [
    | inl lt ↦ slot_node handle.ino lt handle.generation
    | inr past ↦
        let outside : length image.slots ≤ handle.ino =
        (let many = of_world.slots g start records events is_start in omega (arith, past, many)) in
        ap (Under handle.generation (cell_at t handle.ino)) (new_log handle.ino)
        ∙ ap (λ (c : CellState). Under handle.generation c (log_of c))
        (cell_past image handle.ino outside)
        ∙ sym (ap (λ (c : CellState).
        Under handle.generation c
        (take (settled_tail s.book.journals handle.ino c.chain.tail) c.chain.entries))
        (get_or_past s.cells handle.ino no_cell past)
        ∙ ap (Under handle.generation no_cell)
        (take_none (settled_tail s.book.journals handle.ino 0)))
  ]
