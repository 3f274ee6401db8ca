-- A release and a cleaning leave the cell and the hand together as many blocks as before.
use Rattle.std.proofs.Common.{◌≡◌, ◌+◌, ◌==◌, Bool, true, false, cond, [], None, length, length-append, take, arith, refl, ap, sym, ◌∙◌}
use Rattle.std.proofs.lemmas.List.{length-set}
use Rattle.nv_alloc.specs.Hand.{blocks_of}
use Rattle.nv_alloc.specs.declared.hand.Hand.{Hand}
use Rattle.nv_book.specs.declared.record.Record.{Record}
use Rattle.nv_entry.specs.Covered.{part_total}
use Rattle.nv_log.specs.Chain.{compacted, gone_of, with_pages_left}
use Rattle.nv_log.proofs.Flags.{length-left_of}
use Rattle.nv_cell.specs.Cell.{CellState, IsCell, block_total, log_of, number_in}
use Rattle.nv_cell.specs.Readers.{is_gone, keeps_nothing}
use Rattle.nv_cell.specs.Removal.{left_in, log_flags, part_flags}
use Rattle.nv_cell.specs.declared.mark.Mark.TheVariants.{Out}
use Rattle.nv_cell.proofs.Held.{count_out, held_left}
use Rattle.nv_cell.proofs.Outs.{cell_emptied, nothing_held, without_emptied}
use Rattle.nv_cell.proofs.PageFlags.{pages_left}
use Rattle.nv_cell.proofs.Publishing.{take_whole}
use Rattle.nv_cell.proofs.Removing.{AreTaken, compact_left, none_gone}
use Rattle.nv_calls.specs.Retired.{CanTakeGone}
use Rattle.nv_calls.specs.Retiring.{erased, hand_with, name_of, released, released_blocks, with_back}
use Rattle.nv_calls.proofs.BlockCounts.{back_count, both_true, erased_count, hand_len}
use Rattle.nv_clean.specs.Cleaned.{HasPages, with_chain, with_entries, with_gone, with_pages_unlinked}
use Rattle.nv_clean.specs.Plans.{entries_staying, pages_staying, unlinkable_of, wanted_of}
use Rattle.nv_clean.proofs.Cleanings.{entries_flagged, entries_may, pages_flagged, pages_may, pages_published}

pub release_count : (cell : CellState) (picked : Record) (hand : Hand) → IsCell cell → cell.chain.tail ≡ length cell.chain.entries
    → (is_gone (log_of cell) ≡ true → CanTakeGone hand cell)
    → block_total (erased (released picked cell))
    + length (blocks_of (hand_with picked.ino (released picked cell) (record hand {
      «data» = with_back (released_blocks picked cell) hand.«data»;
    })))
    ≡ block_total cell + length (blocks_of hand)
release_count cell picked hand is settled gone =
    let n = number_in cell (name_of picked) in
    let left = released picked cell in
    let both = both_true (is_gone (log_of left)) (keeps_nothing left) in
    let whole = ap (λ t. part_total (take t cell.chain.entries)) settled ∙ ap part_total (take_whole cell.chain.entries) in
    let lens : length left.marks ≡ length left.blocks =
    length-set cell.marks n Out ∙ is.marks.len ∙ whole ∙ sym is.blocks.len ∙ sym (length-set cell.blocks n None) in
    let given : Hand = record hand { «data» = with_back (released_blocks picked cell) hand.«data» } in
    omega (
      arith,
      count_out cell n,
      back_count (released_blocks picked cell) hand,
      erased_count picked.ino left given (λ e. (gone (both e).0).chain)
          (λ e. nothing_held left (without_emptied cell n (cell_emptied cell is)) lens (both e).1),
    )

pub fast_count : (cell : CellState) (hand : Hand) → IsCell cell
    → block_total (with_pages_unlinked (unlinkable_of cell) cell) + length (blocks_of (with_gone (unlinkable_of cell) cell hand))
    ≡ block_total cell + length (blocks_of hand)
fast_count cell hand is =
    let stays = pages_staying cell in
    let flags = log_flags stays cell.chain in
    let taken : AreTaken flags cell (with_pages_left stays cell.chain) = record {
      left = pages_left stays cell.chain is.chain (pages_flagged cell) (pages_published cell is);
      marks = is.marks;
      blocks = is.blocks;
      may = pages_may cell is;
    } in
    omega (
      arith,
      held_left (part_flags flags (log_of cell)) cell.blocks (none_gone taken),
      length-left_of stays cell.chain.blocks,
      hand_len (with_gone (unlinkable_of cell) cell hand),
      hand_len hand,
      length-append hand.pages.blocks (gone_of stays cell.chain.blocks),
    )

moved_count : (cell : CellState) (hand : Hand) → IsCell cell → HasPages (wanted_of cell) hand
    → (let wanted = wanted_of cell in
    let full : Hand = record hand { pages = record hand.pages { blocks = []; room = 0 }; chain = cell.chain.blocks } in
    block_total (left_in wanted.stays (compacted wanted.stays hand.pages.blocks cell.chain) cell) + length (blocks_of full)
    ≡ block_total cell + length (blocks_of hand))
moved_count cell hand is has =
    let stays = entries_staying cell in
    let full : Hand = record hand { pages = record hand.pages { blocks = []; room = 0 }; chain = cell.chain.blocks } in
    let taken : AreTaken stays cell (compacted stays hand.pages.blocks cell.chain) = record {
      left = compact_left stays hand.pages.blocks cell.chain (entries_flagged cell is) is.chain.within;
      marks = is.marks;
      blocks = is.blocks;
      may = entries_may cell is;
    } in
    omega (
      arith,
      held_left (part_flags stays (log_of cell)) cell.blocks (none_gone taken),
      hand_len full,
      hand_len hand,
      has.chain,
    )

pub thorough_count : (cell : CellState) (hand : Hand) → IsCell cell
    → (((wanted_of cell).dropped == 0) ≡ false → HasPages (wanted_of cell) hand)
    → block_total (with_entries (wanted_of cell) hand.pages.blocks cell) + length (blocks_of (with_chain (wanted_of cell) cell hand))
    ≡ block_total cell + length (blocks_of hand)
thorough_count cell hand is has = go ((wanted_of cell).dropped == 0) has where
  go : (b : Bool) → (b ≡ false → HasPages (wanted_of cell) hand)
      → (let wanted = wanted_of cell in
      let full : Hand = record hand { pages = record hand.pages { blocks = []; room = 0 }; chain = cell.chain.blocks } in
      block_total (cond b cell (left_in wanted.stays (compacted wanted.stays hand.pages.blocks cell.chain) cell))
      + length (blocks_of (cond b hand full))
      ≡ block_total cell + length (blocks_of hand))
  go true h = refl
  go false h = moved_count cell hand is (h refl)
