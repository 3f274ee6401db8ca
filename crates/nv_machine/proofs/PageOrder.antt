-- An append takes the first log pages of the hand, and the inodes of a commit rise.
use Rattle.std.proofs.Common.{◌≡◌, ℕ, ◌<◌, ◌++◌, ◌∙◌, Bool, List, [], ◌∷◌, Some, ap, append-nil, append_assoc, get_or-set_same, length, refl, sym, take}
use Rattle.nv_alloc.specs.Block.{BlockValue}
use Rattle.nv_alloc.specs.Numbers.{IsRising}
use Rattle.nv_cell.specs.Append.{appended, blocks_for}
use Rattle.nv_cell.specs.Cell.{CellState}
use Rattle.nv_entry.specs.declared.item.Entry.{Entry}
use Rattle.nv_log.specs.Chain.{with_page}
use Rattle.nv_machine.specs.Exact.{Leaves}
use Rattle.nv_machine.specs.Kinds.{entries_for, with_entries, with_log_pages}
use Rattle.nv_machine.specs.Locks.{AreLocks}
use Rattle.nv_machine.specs.Pages.{TakesPages}
use Rattle.nv_machine.specs.Reads.{is_written, pages_needed, slot_at, written_slots}
use Rattle.nv_machine.specs.Step.{kind_turn}
use Rattle.nv_machine.specs.World.{Append, HandState, Running, Shared, World, actor_at, cell_at, no_cell}
use Rattle.nv_machine.proofs.Lists.{rising_filter}
use Rattle.nv_machine.proofs.LocksOverEvents.{before}

more_pages : (pages : List BlockValue) (cell : CellState) → (with_log_pages pages cell).chain.blocks ≡ cell.chain.blocks ++ pages
more_pages [] cell = sym (append-nil cell.chain.blocks)
more_pages (b ∷ pages) cell =
    more_pages pages (record cell { chain = with_page b cell.chain }) ∙ append_assoc cell.chain.blocks (b ∷ []) pages

same_pages : (entries : List Entry) (bs : List BlockValue) (cell : CellState)
    → (with_entries entries bs cell).chain.blocks ≡ cell.chain.blocks
same_pages [] bs cell = refl
same_pages (e ∷ entries) bs cell = same_pages entries _ (appended e (blocks_for e.item bs) cell)

pub pages_go : (place block actor : ℕ) (granted : Bool) (s : Shared) (h : HandState) (r : Running)
    → slot_at (written_slots r) place < length s.cells
    → Leaves (TakesPages s (slot_at (written_slots r) place) (pages_needed s r.plan (slot_at (written_slots r) place)) h)
    (kind_turn (Append place) block actor granted s h r)
pages_go place block actor granted s h r low =
    let slot = slot_at (written_slots r) place in
    let pages = take (pages_needed s r.plan slot) h.pages in
    let new = with_entries (entries_for r slot) h.blocks (with_log_pages pages (cell_at s slot)) in
    record {
      chain =
          ap (λ (c : CellState). c.chain.blocks) (get_or-set_same s.cells slot new no_cell low)
          ∙ same_pages (entries_for r slot) h.blocks (with_log_pages pages (cell_at s slot)) ∙ more_pages pages (cell_at s slot);
      hand = refl;
    }

pub written_rise : (w : World) (actor : ℕ) (r : Running) → AreLocks w → (actor_at w actor).running ≡ Some r → IsRising (written_slots r)
written_rise w actor r locks is = rising_filter (is_written r.plan) r.slots (before w actor r locks is).are.rising
