-- WHAT A STEP OF A CLEANER LEAVES OF THE CELL that it cleans, of each kind, and of its slot, told once for both.
use Rattle.std.proofs.Common.{◌≡◌, ◌∙◌, ℕ, Bool, List, [], ap, length, refl, subst, sym, None, ◌<◌, true}
use Rattle.nv_calls.specs.Refusals.{kind_of}
use Rattle.nv_cell.specs.Cell.{CellState, IsCell, log_of}
use Rattle.nv_cell.specs.Readers.{is_gone}
use Rattle.nv_cell.specs.Removal.{log_flags}
use Rattle.nv_cell.specs.Retained.{AreMarksOf, retention_by_marks}
use Rattle.nv_cell.proofs.Removing.{AreTaken, compact_left}
use Rattle.nv_cell.proofs.PageFlags.{pages_left}
use Rattle.nv_clean.proofs.Cleanings.{entries_flagged, entries_keep, entries_may, log_without, pages_flagged, pages_keep, pages_may, pages_published}
use Rattle.nv_clean.specs.Plans.{entries_staying, pages_staying, wanted_of}
use Rattle.nv_entry.specs.Held.{Retention}
use Rattle.nv_entry.specs.Laws.{KeepsReads}
use Rattle.nv_entry.specs.Shape.{items_of}
use Rattle.nv_entry.specs.declared.item.Entry.{Entry}
use Rattle.nv_log.specs.Chain.{IsChain, compacted, with_pages_left}
use Rattle.nv_log.proofs.Chains.{IsChain-compacted, has_pages_left}
use Rattle.nv_machine.specs.Cleaning.{compacted_cell, unlinked}
use Rattle.nv_cell.specs.Shape.{IsLeftShaped}
use Rattle.nv_machine.specs.World.{HandState, Compact, SnapshotOrCleaner, SnapshotOrCleanerStep, Next, Running, Shared, Unlink, cell_at}
use Rattle.nv_machine.proofs.CleanedCells.{Cleans, taken_cleans}
use Rattle.nv_machine.proofs.LeftKinds.{left_shaped}
use Rattle.nv_machine.proofs.Shapes.{kind_now, kinds_after}
use Rattle.std.proofs.lemmas.Bool.{false≢true}
use Rattle.nv_alloc.specs.Block.{AreSized, BlockValue}
use Rattle.nv_cell.proofs.MarksKeep.{are_marks}
use Rattle.nv_log.proofs.Flags.{all_left}
use Rattle.nv_machine.specs.Hands.{unpublished_at}
use Rattle.nv_machine.proofs.CellChanges.{clean_cell, clean_slot, is_clean}
use Rattle.nv_machine.proofs.Cleanable.{IsCleanable}
use Rattle.nv_machine.proofs.LogTails.{IsTailLast}

-- ---- entries are taken out by flags

module _ (cell : CellState) (is : IsCell cell) where
  compact_taken : (h : HandState)
      → AreTaken (entries_staying cell) cell (compacted (entries_staying cell) h.pages cell.chain)
  compact_taken h = record {
    left = compact_left (entries_staying cell) h.pages cell.chain (entries_flagged cell is) is.chain.within;
    marks = is.marks;
    blocks = is.blocks;
    may = entries_may cell is;
  }

  unlink_taken : AreTaken (log_flags (pages_staying cell) cell.chain) cell (with_pages_left (pages_staying cell) cell.chain)
  unlink_taken = record {
    left = pages_left (pages_staying cell) cell.chain is.chain (pages_flagged cell) (pages_published cell is);
    marks = is.marks;
    blocks = is.blocks;
    may = pages_may cell is;
  }

  -- the chain that is left
  pub compact_chain : (h : HandState) → length h.pages ≡ (wanted_of cell).pages → IsChain (compacted_cell h cell).chain
  compact_chain h count = IsChain-compacted (entries_staying cell) h.pages cell.chain is.chain count

  pub unlink_chain : IsChain (unlinked cell).chain
  unlink_chain = (has_pages_left (pages_staying cell) cell.chain _ _ is.chain refl refl).chain

-- ---- what is left of the cell

module _ (r : Retention) (cell : CellState) (is : IsCell cell) (last : cell.chain.tail ≡ length cell.chain.entries)
    (marks : AreMarksOf r cell) where
  -- the entries that stay move to as many pages as they fill
  pub compact_cleans : (h : HandState) → length h.pages ≡ (wanted_of cell).pages
      → Cleans r (entries_staying cell) cell (compacted_cell h cell)
  compact_cleans h count =
      taken_cleans (compact_taken cell is h) r is last marks.block (entries_keep cell is r marks) (compact_chain cell is h count) refl

  -- whole pages go
  pub unlink_cleans : Cleans r (log_flags (pages_staying cell) cell.chain) cell (unlinked cell)
  unlink_cleans =
      let stays = pages_staying cell in
      taken_cleans (unlink_taken cell is) r is last marks.block
      (subst (KeepsReads r (log_of cell)) (sym (log_without stays cell.chain is.chain (pages_flagged cell))
      ∙ (unlink_taken cell is).left.log_is)
      (pages_keep cell is r marks)) (unlink_chain cell is) refl

-- ---- its log is of the shape that it had

pub cleaned_shape : (r : Retention) (flags : List Bool) (old new : CellState) → Cleans r flags old new → (block : ℕ)
    → IsLeftShaped block (log_of old) → IsLeftShaped block (log_of new)
cleaned_shape r flags old new c block is =
    subst (IsLeftShaped block) (sym c.left) (left_shaped block flags (log_of old) is
    (subst (λ (log : List Entry). kinds_after (items_of log) None ≡ kinds_after (items_of (log_of old)) None) c.left kinds)
    (ap is_gone (sym c.left) ∙ c.last.gone)) where
      none : ℕ → List ℕ
      none number = []

      kinds : kinds_after (items_of (log_of new)) None ≡ kinds_after (items_of (log_of old)) None
      kinds = sym (kind_now none new.block (log_of new)) ∙ ap kind_of (c.nodes.now none) ∙ kind_now none old.block (log_of old)

-- ---- a step that cleans, told once for both

-- a flag for each entry of the log, whether it stays
abbrev stays_on : SnapshotOrCleanerStep → Shared → List Bool
stays_on (Unlink ino) s = log_flags (pages_staying (cell_at s ino)) (cell_at s ino).chain
stays_on (Compact ino) s = entries_staying (cell_at s ino)
stays_on other s = []

abbrev pub stays_at : Next → Shared → List Bool
stays_at (SnapshotOrCleaner step) s = stays_on step s
stays_at other s = []

-- by any retention that its marks are of
pub cleans_by : (k : Next) (block : ℕ) (s : Shared) (h : HandState) (r : Running) → is_clean k ≡ true
    → clean_slot k < length s.cells → IsTailLast (cell_at s (clean_slot k)) → IsCleanable k block s h r → (by : Retention)
    → AreMarksOf by (cell_at s (clean_slot k)) → Cleans by (stays_at k s) (cell_at s (clean_slot k)) (clean_cell k s h)
cleans_by (SnapshotOrCleaner (Unlink ino)) block s h r is low last ready by marks =
    unlink_cleans by (cell_at s ino) (ready.cells ino low) last marks
cleans_by (SnapshotOrCleaner (Compact ino)) block s h r is low last ready by marks =
    compact_cleans by (cell_at s ino) (ready.cells ino low) last marks h ready.pages
cleans_by other block s h r is low last ready by marks = absurd (false≢true is)

-- and so by what its marks keep
pub cleans_own : (k : Next) (block : ℕ) (s : Shared) (h : HandState) (r : Running) → is_clean k ≡ true
    → clean_slot k < length s.cells → IsTailLast (cell_at s (clean_slot k)) → IsCleanable k block s h r
    → Cleans (retention_by_marks (cell_at s (clean_slot k))) (stays_at k s) (cell_at s (clean_slot k)) (clean_cell k s h)
cleans_own k block s h r is low last ready =
    let cell = cell_at s (clean_slot k) in
    cleans_by k block s h r is low last ready (retention_by_marks cell) (are_marks cell (ready.cells (clean_slot k) low))

-- its log pages are of the chain or of the hand
pub clean_sized : (k : Next) (size : ℕ) (s : Shared) (h : HandState) → is_clean k ≡ true
    → AreSized size (cell_at s (clean_slot k)).chain.blocks → AreSized size h.pages → AreSized size (clean_cell k s h).chain.blocks
clean_sized (SnapshotOrCleaner (Unlink ino)) size s h is chain pages =
    let cell = cell_at s ino in
    all_left (λ (b : BlockValue). length b.bytes ≡ size) (pages_staying cell) cell.chain.blocks chain
clean_sized (SnapshotOrCleaner (Compact ino)) size s h is chain pages = pages
clean_sized other size s h is chain pages = absurd (false≢true is)

-- its call has nothing that is not published
pub cleans_published : (k : Next) (written : List ℕ) → is_clean k ≡ true → unpublished_at k written ≡ []
cleans_published (SnapshotOrCleaner step) written is = refl
cleans_published other written is = absurd (false≢true is)
