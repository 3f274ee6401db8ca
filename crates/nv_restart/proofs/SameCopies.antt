-- A STOP LEAVES THE COPY OF EACH LIVING SNAPSHOT.
use Rattle.std.proofs.Common.{◌≡◌, ℕ, ◌+◌, ◌<◌, ◌≤◌, ◌==◌, ◌∙◌, inl, inr, Bool, true, false, ap₂, cond, not, List, [], length, Option, Some, None, ap, arith, refl, subst, sym}
use Rattle.std.specs.List.{Contains, list_any}
use Rattle.std.proofs.lemmas.Bool.{and_parts, cases_lt}
use Rattle.std.proofs.lemmas.List.{get_or_past}
use Rattle.std.proofs.lemmas.List.FromFn.{length-map-range_with_len}
use Rattle.std.proofs.lemmas.Option.{same_Some}
use Rattle.nv_alloc.specs.Block.{block_by}
use Rattle.nv_audit.specs.Image.{ImageValue, SlotImageValue, slot_of}
use Rattle.nv_audit.specs.Mounted.{cell_of, cell_with, cut_log, is_over, records_anew, tail_of}
use Rattle.nv_base.specs.declared.geometry.GeometryNumbers.{GeometryNumbers}
use Rattle.nv_base.specs.declared.numbers.Handle.{Handle}
use Rattle.nv_book.specs.declared.record.Record.{Record}
use Rattle.nv_cell.proofs.ValuesNow.{IsLog-take}
use Rattle.nv_cell.specs.Cell.{CellState, HasBlocks, empty_cell, page_block}
use Rattle.nv_cell.specs.Readers.{is_gone}
use Rattle.nv_entry.specs.Covered.{part_total}
use Rattle.nv_entry.specs.Held.{is_held}
use Rattle.nv_entry.specs.Log.{IsLog, pairs, up_to}
use Rattle.nv_entry.specs.Node.{node_now}
use Rattle.nv_entry.specs.declared.item.Entry.{Entry}
use Rattle.nv_entry.specs.declared.node.NodeCopy.{NodeCopy}
use Rattle.nv_epoch.specs.SnapList.{ids}
use Rattle.nv_journal.specs.Journal.{settled_tail}
use Rattle.nv_machine.proofs.CellPages.{front_says}
use Rattle.nv_machine.proofs.CopyMarks.{all_have_marks}
use Rattle.nv_machine.proofs.CopyRuns.{earlier, settled_says}
use Rattle.nv_machine.proofs.EpochLogs.{HaveSameBlocks, IsHeldAt, copies_same, copy_at, log_at}
use Rattle.nv_machine.proofs.EveryWorld.{all_parts, reached}
use Rattle.nv_machine.proofs.SnapRuns.{in_step}
use Rattle.nv_machine.specs.Reached.{IsReached}
use Rattle.nv_machine.specs.Reads.{bytes_among}
use Rattle.nv_machine.specs.Settled.{settled, settled_copies}
use Rattle.nv_machine.specs.Starts.{IsStart}
use Rattle.nv_machine.specs.Step.{after}
use Rattle.nv_machine.specs.World.{Event, Shared, World, cell_at, no_cell}
use Rattle.nv_restart.proofs.BlocksAnew.{told}
use Rattle.nv_restart.proofs.Slots.{cell_past, cell_there, same_ids}
use Rattle.nv_restart.proofs.Start.{starts}
use Rattle.nv_restart.proofs.Unheld.{no_node}
use Rattle.nv_restart.proofs.WorldCells as of_world
use Rattle.nv_restart.proofs.WorldImages.{faultless}
use Rattle.nv_restart.proofs.WorldSlots.{slot_is}
use Rattle.nv_restart.specs.Restarted.{image_of, restarted}
use Rattle.nv_restart.specs.Stops.{MayStop}

module _ (g : GeometryNumbers) (start : World) (records : List Record) (events : List Event)
    (is_start : IsStart g start records) (first : MayStop g.block start.shared) where
  abbrev w : World
  w = after start events

  abbrev s : Shared
  s = w.shared

  abbrev image : ImageValue
  image = image_of w

  abbrev living : List ℕ
  living = ids s.book.snaps

  abbrev v : World
  v = restarted w

  abbrev t : Shared
  t = v.shared

  -- the world that goes on is a start, so that every law holds of it
  pub restarts : IsStart w.numbers v (records_anew image)
  restarts =
      starts image (of_world.limits g start records events is_start)
      (faultless g start records events is_start first)

  known : IsReached w
  known = reached g start records events is_start

  next : IsReached v
  next = reached w.numbers v (records_anew image) [] restarts

  module _ (epoch : ℕ) (lives : Contains living epoch) where
    past : epoch < s.book.snaps.epoch
    past = earlier w epoch (in_step g start records events is_start).before lives

    lives_next : Contains (ids t.book.snaps) epoch
    lives_next = subst (λ (l : List ℕ). Contains l epoch) (sym (same_ids living)) lives

    abbrev Then : ℕ → CellState → Option NodeCopy
    Then generation cell = cond (generation == cell.generation) (copy_at epoch cell) None

    copy_of : (x : World) → IsReached x → epoch < x.shared.book.snaps.epoch → (handle : Handle)
        → settled_copies x.shared epoch handle
        ≡ Then handle.generation (cell_at x.shared handle.ino)
    copy_of x reached lt handle =
        let cell = cell_at x.shared handle.ino in
        ap (λ (l : List Entry).
        cond (handle.generation == cell.generation)
        (node_now (bytes_among cell.blocks) cell.block l) None)
        (settled_says x reached epoch lt handle.ino)

    none_either : (b c : Bool) (x y : Option NodeCopy) → x ≡ None → y ≡ None
        → cond b x None ≡ cond c y None
    none_either true true x y e f = e ∙ sym f
    none_either true false x y e f = e
    none_either false true x y e f = sym f
    none_either false false x y e f = refl

    module _ (ino : ℕ) (lt : ino < length s.cells) where
      abbrev cell : CellState
      cell = cell_at s ino

      abbrev new : CellState
      new = cell_with w.numbers living (tail_of image ino) (slot_of image ino)

      abbrev cut_at : ℕ
      cut_at = settled_tail s.book.journals ino cell.chain.tail

      size : cell.block ≡ w.numbers.block
      size = of_world.size g start records events is_start ino lt

      cut : cut_log image ino ≡ settled s ino
      cut = of_world.cut g start records events is_start ino

      inside : ino < length image.slots
      inside = let many = of_world.slots g start records events is_start in omega (arith, lt, many)

      in_next : ino < length t.cells
      in_next =
          omega (arith, inside, length-map-range_with_len (cell_of image) 0 (length image.slots))

      module _ (left : is_over living w.numbers.block (cut_log image ino) ≡ false) where
        is_new : cell_at t ino ≡ new
        is_new =
            cell_there image ino inside
            ∙ ap (λ (b : Bool).
            cond b
            (empty_cell w.numbers.block w.numbers.page ((slot_of image ino).generation + 1) 0)
            new) left

        log_same : log_at epoch new ≡ log_at epoch cell
        log_same = ap (up_to epoch) cut ∙ settled_says w known epoch past ino

        -- a block that the new cell has is the old one's
        same_blocks : HaveSameBlocks cell new
        same_blocks n x y at_x at_y =
            let block = told w.numbers living (tail_of image ino) (slot_of image ino) n y at_y in
            let under : n < part_total (settled s ino) =
            subst (λ (l : List Entry). n < part_total l) cut block.low in
            let own : page_block cell.block cell.chain.entries n ≡ Some x.number =
            ap (λ (k : ℕ). page_block k cell.chain.entries n)
            (size
            ∙ ap (λ (m : GeometryNumbers). m.block)
            (of_world.numbers g start records events is_start))
            ∙ ((of_world.whole g start records events is_start).numbers.cells ino).told n x at_x in
            let says : page_block cell.block cell.chain.entries n ≡ Some y.number =
            front_says cell.block cell.chain.entries cut_at n under
            ∙ ap₂ (λ (k : ℕ) (l : List Entry). page_block k l n) size (sym cut) ∙ block.says in
            let number = same_Some x.number y.number (sym own ∙ says) in
            same_Some x y
            (sym (of_world.found_block g start records events is_start ino lt n x under at_x)
            ∙ ap (block_by (slot_of image ino).blocks) number ∙ block.found)

        left_copy : (generation : ℕ) → Then generation (cell_at t ino) ≡ Then generation cell
        left_copy generation =
            let facts = all_parts w.numbers v (records_anew image) [] restarts ino in_next in
            let copy : copy_at epoch new ≡ copy_at epoch cell =
            copies_same epoch cell new (known.order.logs ino).ordered
            (subst (λ (c : CellState). IsLog c.chain.entries) is_new (next.order.logs ino).ordered)
            (all_parts g start records events is_start ino lt).blocks
            (subst HasBlocks is_new facts.blocks) (known.apart.cells ino)
            (of_world.new_apart g start records events is_start ino lt) (sym size) log_same
            same_blocks
            ((all_have_marks g start records is_start events).held epoch ino lives)
            (subst (IsHeldAt epoch) is_new
            ((all_have_marks w.numbers v (records_anew image) restarts []).held epoch ino
            lives_next)) in
            let same : new.generation ≡ cell.generation =
            ap (λ (slot : SlotImageValue). slot.generation) (slot_is w ino) in
            ap (Then generation) is_new
            ∙ ap₂ (λ (m : ℕ) (x : Option NodeCopy). cond (generation == m) x None) same copy

      over_copy : (generation : ℕ) → is_over living w.numbers.block (cut_log image ino) ≡ true
          → Then generation
          (empty_cell w.numbers.block w.numbers.page ((slot_of image ino).generation + 1) 0)
          ≡ Then generation cell
      over_copy generation over =
          none_either (generation == ((slot_of image ino).generation + 1))
          (generation == cell.generation)
          (copy_at epoch
          (empty_cell w.numbers.block w.numbers.page ((slot_of image ino).generation + 1) 0))
          (copy_at epoch cell) refl none
        where
          turn : (b : Bool) → not b ≡ true → b ≡ false
          turn true e = sym e
          turn false e = refl

          rises : IsLog (settled s ino)
          rises =
              IsLog-take (settled_tail s.book.journals ino (cell_at s ino).chain.tail)
              (cell_at s ino).chain.entries (known.order.logs ino).ordered

          unheld : list_any (is_held living) (pairs cell.block (settled s ino)) ≡ false
          unheld =
              ap₂ (λ (n : ℕ) (l : List Entry). list_any (is_held living) (pairs n l)) size (sym cut)
              ∙ turn (list_any (is_held living) (pairs w.numbers.block (cut_log image ino)))
              (and_parts (is_gone (cut_log image ino))
              (not (list_any (is_held living) (pairs w.numbers.block (cut_log image ino)))) over).1

          none : copy_at epoch cell ≡ None
          none =
              ap (node_now (bytes_among cell.blocks) cell.block)
              (sym (settled_says w known epoch past ino))
              ∙ no_node living epoch cell.block (settled s ino) rises lives unheld
              (bytes_among cell.blocks)

      slot_copy : (generation : ℕ) → Then generation (cell_at t ino) ≡ Then generation cell
      slot_copy generation = go (is_over living w.numbers.block (cut_log image ino)) refl where
        go : (b : Bool) → is_over living w.numbers.block (cut_log image ino) ≡ b
            → Then generation (cell_at t ino) ≡ Then generation cell
        go false left = left_copy left generation
        go true over =
            ap (Then generation)
            (cell_there image ino inside
            ∙ ap (λ (b : Bool).
            cond b
            (empty_cell w.numbers.block w.numbers.page ((slot_of image ino).generation + 1) 0)
            new) over)
            ∙ over_copy generation over

    pub same_copies : (handle : Handle)
        → settled_copies t epoch handle ≡ settled_copies s epoch handle
    same_copies handle =
        copy_of v next past handle
        ∙ elim (cases_lt handle.ino (length s.cells)) [
          | inl lt ↦ slot_copy handle.ino lt handle.generation
          | inr over ↦
              let outside : length image.slots ≤ handle.ino =
              (let many = of_world.slots g start records events is_start in
              omega (arith, over, many)) in
              ap (Then handle.generation)
              (cell_past image handle.ino outside
              ∙ sym (get_or_past s.cells handle.ino no_cell over))
        ]
        ∙ sym (copy_of w known past handle)
