-- The slots whose inodes are gone are those that a commit has published and not yet retired: every
-- kind of step keeps that.
use Rattle.std.proofs.Common.{◌≡◌, ◌≢◌, ℕ, ◌+◌, ◌<◌, ◌≤◌, ◌==◌, ◌∙◌, Bool, true, false, List, [], ap, drop, if◌then◌else◌, length, refl, subst, sym, take}
use Rattle.std.specs.Prelude.{◌||◌}
use Rattle.std.proofs.lemmas.Bool.{eqb-true, false≢true, true≢false}
use Rattle.nv_alloc.specs.Numbers.{has}
use Rattle.nv_calls.specs.Retiring.{erased}
use Rattle.nv_cell.specs.Cell.{CellState, published}
use Rattle.nv_machine.specs.Erasing.{emptied}
use Rattle.nv_machine.specs.Grown.{HasGrown}
use Rattle.nv_machine.specs.Held.{killed_slots}
use Rattle.nv_machine.specs.Kinds.{entries_for, first_killed, retired_book, retired_cell, with_entries, with_log_pages}
use Rattle.nv_machine.specs.Locks.{commits_at}
use Rattle.nv_machine.specs.Reads.{pages_needed, slot_at, written_slots}
use Rattle.nv_machine.specs.Step.{kind_turn}
use Rattle.nv_machine.specs.World.{Append, Close, Ends, HandState, Leave, Moves, Next, Open, Publish, Retire, Running, Shared, Turn, Waits, cell_at, with_book, with_cell}
use Rattle.nv_machine.proofs.FiledSteps.{appended_gone}
use Rattle.nv_machine.proofs.CellChanges.{cells_after, removal}
use Rattle.nv_machine.proofs.Cleanable.{IsCleanable}
use Rattle.nv_machine.proofs.CleanedLogs.{clean_erased}
use Rattle.nv_machine.proofs.StepWork.{work}
use Rattle.nv_machine.proofs.WorkKeeps.{AfterTurn, turn_keeps}
use Rattle.nv_machine.proofs.Lists.{has_drop, has_take, or_left, or_right, self}
use Rattle.nv_machine.proofs.LocksHeld.{Before}
use Rattle.nv_machine.proofs.LogsKept.{cell_set}
use Rattle.nv_machine.proofs.BlockNumbers.{lent_inside}
use Rattle.nv_cell.specs.Readers.{is_erased}
use Rattle.nv_machine.proofs.PartsFor.{publishing_slots, retiring_slots}

-- ---- what is gone

-- the inode of a slot is gone, and nothing is there of it any more
abbrev pub IsGoneAt : Shared → ℕ → Type 0
IsGoneAt s ino = is_erased (cell_at s ino) ≡ true

-- these slots alone have inodes that are gone
abbrev pub OnlyGone : List ℕ → Shared → Type 0
OnlyGone slots s = (ino : ℕ) → IsGoneAt s ino → has slots ino ≡ true

abbrev pub OnGone : Turn → Type 0
OnGone (Moves t h q) = OnlyGone (killed_slots q.next (written_slots q)) t
OnGone Waits = Unit {0}
OnGone (Ends result t h) = OnlyGone [] t

-- where none is, it says nothing of what comes next
from_none : (t : Turn) → AfterTurn (λ s h. OnlyGone [] s) t → OnGone t
from_none (Moves s h q) none = λ ino gone. absurd (false≢true (none ino gone))
from_none Waits none = tt
from_none (Ends result s h) none = none

-- what is erased is not gone
pub erased_not_gone : (cell : CellState) → is_erased (erased cell) ≡ false
erased_not_gone cell = go (is_erased cell) refl where
  go : (b : Bool) → is_erased cell ≡ b → is_erased (if b then emptied cell else cell) ≡ false
  go true e = refl
  go false e = e

-- ---- the kinds that change a cell

module _ (s : Shared) (h : HandState) (r : Running) (place : ℕ) (inside : place < length (written_slots r))
    (low : slot_at (written_slots r) place < length s.cells) where
  abbrev written : List ℕ
  written = written_slots r

  abbrev slot : ℕ
  slot = slot_at written place

  abbrev cell : CellState
  cell = cell_at s slot

  append_gone : cell.chain.tail ≤ length cell.chain.entries → OnlyGone [] s
      → OnlyGone [] (with_cell slot
      (with_entries (entries_for r slot) h.blocks (with_log_pages (take (pages_needed s r.plan slot) h.pages) cell)) s)
  append_gone within none ino =
      let pages = take (pages_needed s r.plan slot) h.pages in
      let more = with_entries (entries_for r slot) h.blocks (with_log_pages pages cell) in
      cell_set s slot more ino (λ (c : CellState). is_erased c ≡ true → false ≡ true) low
      (λ same gone. none slot (sym (appended_gone (entries_for r slot) h.blocks pages cell within) ∙ gone))
      (λ other gone. none ino gone)

  publish_gone : OnlyGone (take place written) s → OnlyGone (take (place + 1) written) (with_cell slot (published cell) s)
  publish_gone only ino =
      cell_set s slot (published cell) ino
      (λ (c : CellState). is_erased c ≡ true → has (take (place + 1) written) ino ≡ true) low
      (λ same gone. has_take place written ino inside ∙ or_right (has (take place written) ino) (slot == ino)
      (ap (λ (n : ℕ). slot == n) (sym same) ∙ self slot))
      (λ other gone. has_take place written ino inside ∙ or_left (has (take place written) ino) (slot == ino) (only ino gone))

  abbrev left : CellState
  left = retired_cell slot (first_killed h.killed) s r

  retire_gone : OnlyGone (drop place written) s
      → OnlyGone (drop (place + 1) written)
      (with_cell slot (erased left) (with_book (retired_book slot (first_killed h.killed) s r) s))
  retire_gone only ino =
      cell_set (with_book (retired_book slot (first_killed h.killed) s r) s) slot (erased left) ino
      (λ (c : CellState). is_erased c ≡ true → has (drop (place + 1) written) ino ≡ true) low
      (λ same gone. absurd (false≢true (sym (erased_not_gone left) ∙ gone)))
      (λ other gone. later (slot == ino) refl other (sym (has_drop place written ino inside) ∙ only ino gone)) where
        later : (b : Bool) → (slot == ino) ≡ b → slot ≢ ino → (b || has (drop (place + 1) written) ino) ≡ true
            → has (drop (place + 1) written) ino ≡ true
        later true q other e = absurd (other (eqb-true slot ino q))
        later false q other e = e

-- ---- every kind of a commit

pub gone_kept : (k : Next) (block a : ℕ) (granted : Bool) (s : Shared) (h : HandState) (r : Running)
    → commits_at k ≡ true → Before a s k r
    → ((ino : ℕ) → (cell_at s ino).chain.tail ≤ length (cell_at s ino).chain.entries)
    → OnlyGone (killed_slots k (written_slots r)) s → OnGone (kind_turn k block a granted s h r)
gone_kept (Append place) block a granted s h r c b within only =
    let slot = slot_at (written_slots r) place in
    from_none (kind_turn (Append place) block a granted s h r)
    (append_gone s h r place b.inside (lent_inside (Append place) a s r b slot refl) (within slot) only)
gone_kept Open block a granted s h r c b within only = from_none (kind_turn Open block a granted s h r) only
gone_kept (Publish place) block a granted s h r c b within only =
    let written = written_slots r in
    let slot = slot_at written place in
    subst (λ (slots : List ℕ). OnlyGone slots (work (Publish place) block a s h r).shared) (sym (publishing_slots (place + 1) written))
    (publish_gone s h r place b.inside (lent_inside (Publish place) a s r b slot refl) only)
gone_kept Close block a granted s h r c b within only =
    subst (λ (slots : List ℕ). OnlyGone slots (work Close block a s h r).shared) (sym (retiring_slots 0 (written_slots r))) only
gone_kept (Retire place) block a granted s h r c b within only =
    let written = written_slots r in
    let slot = slot_at written place in
    subst (λ (slots : List ℕ). OnlyGone slots (work (Retire place) block a s h r).shared) (sym (retiring_slots (place + 1) written))
    (retire_gone s h r place b.inside (lent_inside (Retire place) a s r b slot refl) only)
gone_kept Leave block a granted s h r c b within only =
    from_none (kind_turn Leave block a granted s h r)
    (turn_keeps (λ (t : Shared) (h : HandState). OnlyGone [] t) Leave block a granted s h r only only)
gone_kept other block a granted s h r c b within only = absurd (true≢false (sym c))

-- ---- every other kind

-- what is gone after it was gone before
abbrev pub WasGone : Shared → Shared → Type 0
WasGone s t = (ino : ℕ) → IsGoneAt t ino → IsGoneAt s ino

module _ (block a : ℕ) (s : Shared) (h : HandState) (r : Running) where
  work_was : (k : Next) → commits_at k ≡ false → Before a s k r → HasGrown k s a r → IsCleanable k block s h r
      → WasGone s (work k block a s h r).shared
  work_was k c b grown ready =
      cells_after (λ (ino : ℕ) (cell : CellState). is_erased cell ≡ true → IsGoneAt s ino) block a s h r (λ ino gone. gone) k b
      (record {
        appends = λ place is inside low. absurd (true≢false (sym (ap commits_at is) ∙ c));
        publishes = λ place is inside low. absurd (true≢false (sym (ap commits_at is) ∙ c));
        removes = λ is low left gone. absurd (false≢true (sym (erased_not_gone (removal k s h r).cell) ∙ gone));
        cleans = λ is low gone. clean_erased k block a s h r is b grown ready gone;
      })

  pub turn_was : (k : Next) (granted : Bool) → commits_at k ≡ false → Before a s k r → HasGrown k s a r
      → IsCleanable k block s h r
      → AfterTurn (λ (t : Shared) (g : HandState). WasGone s t) (kind_turn k block a granted s h r)
  turn_was k granted c b grown ready =
      turn_keeps (λ (t : Shared) (g : HandState). WasGone s t) k block a granted s h r (λ ino gone. gone)
      (work_was k c b grown ready)
