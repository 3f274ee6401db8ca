-- WHAT A STEP MAKES OF THE CELL THAT IT IS LENT, told once for all laws: entries come to it, it is published, or parts go
-- out of it. Every other cell stays.
use Rattle.std.proofs.Common.{◌≡◌, ◌∙◌, ℕ, ◌+◌, ◌<◌, ◌++◌, Bool, true, false, List, [], ◌∷◌, Option, Some, None, ap, arith, drop, inl, inr, length, refl, subst, sym, take, take_all}
use Rattle.std.specs.List.{flat_map}
use Rattle.std.proofs.lemmas.Bool.{cases_lt, false≢true, true≢false}
use Rattle.std.proofs.lemmas.List.{get_or_past}
use Rattle.std.proofs.lemmas.Option.{none-some}
use Rattle.nv_alloc.specs.Block.{AreSized, BlockValue, numbers_of}
use Rattle.nv_alloc.specs.Numbers.{times}
use Rattle.nv_alloc.proofs.GivingLemmas.{times-blocks}
use Rattle.nv_alloc.proofs.Lists.{times-append}
use Rattle.nv_book.specs.Book.{BookState}
use Rattle.nv_calls.specs.Retiring.{erased, freed, freed_by, freed_one, keeper_of, name_of, released, released_blocks, retired, retired_one, settled}
use Rattle.nv_calls.proofs.Next.{Keeps, keeps}
use Rattle.nv_cell.specs.Cell.{CellState, number_in, of_part, published, stored_in}
use Rattle.nv_cell.specs.declared.killed.KilledPart.{KilledPart}
use Rattle.nv_epoch.specs.SnapList.{ids}
use Rattle.nv_machine.specs.Frame.{lent}
use Rattle.nv_machine.specs.Hands.{IsParted, unpublished_at}
use Rattle.nv_machine.specs.Kinds.{entries_for, first_killed, retired_book, retired_cell, with_entries, with_erased, with_log_pages}
use Rattle.nv_machine.specs.Reads.{pages_needed, slot_at, written_slots}
use Rattle.nv_machine.specs.World.{Append, ReturnNumber, Close, Enter, HandState, Leave, Make, Next, Number, Open, Publish, Release, Retire, Running, Shared, SnapshotOrCleanerStep, SnapshotOrCleaner, cell_at, no_cell, owner_at, with_book, with_cell, Compact, Fresh, Unlink}
use Rattle.nv_machine.proofs.Occurrences.{set_times}
use Rattle.nv_machine.proofs.StepWork.{Both, both, work, snapshot_or_cleaner_work, by_number, by_back}
use Rattle.nv_machine.proofs.StepFrames.{work_framed}
use Rattle.nv_machine.proofs.LocksHeld.{Before, lent_cell}
use Rattle.nv_machine.proofs.LogsKept.{cell_set}
use Rattle.nv_machine.proofs.PartPlaces.{freed_by_sized, freed_sized, retired_parted, settled_parted}
use Rattle.nv_machine.specs.Cleaning.{compacted_cell, unlinked}
use Rattle.nv_machine.specs.Locks.{commits_at}
use Rattle.nv_machine.proofs.PagesLeft.{parts_left}
use Rattle.nv_clean.specs.Plans.{unlinkable_of, wanted_of}
use Rattle.nv_log.specs.Chain.{left_of, joined, log, parts_from}
use Rattle.nv_entry.specs.declared.item.Entry.{Entry}

-- ---- the numbers of blocks in a cell that gives up parts

pub stored_times : (n : ℕ) (cell : CellState)
    → times n (stored_in cell) ≡ times n (numbers_of cell.chain.blocks) + times n (flat_map of_part cell.blocks)
stored_times n cell = times-append n (numbers_of cell.chain.blocks) (flat_map of_part cell.blocks)

pub settled_times : (n : ℕ) (keeper : Option ℕ) (k : ℕ) (cell : CellState)
    → times n (stored_in (settled keeper k cell)) + times n (numbers_of (freed keeper k cell)) ≡ times n (stored_in cell)
settled_times n (Some s) k cell = omega (arith, stored_times n cell, stored_times n (settled (Some s) k cell))
settled_times n None k cell =
    let e = set_times of_part n cell.blocks k None None (λ past. refl) in
    omega (arith, e, stored_times n cell, stored_times n (settled None k cell))

pub retired_times : (n : ℕ) (living : List ℕ) (ino epoch : ℕ) (parts : List KilledPart) (cell : CellState)
    → times n (stored_in (retired living ino epoch parts cell)) + times n (numbers_of (freed_by living ino epoch parts cell))
    ≡ times n (stored_in cell)
retired_times n living ino epoch [] cell = omega arith
retired_times n living ino epoch (killed ∷ later) cell =
    let next = retired_one living ino epoch killed cell in
    let more = retired_times n living ino epoch later next in
    let one = settled_times n (keeper_of living ino epoch killed) (number_in cell killed.part) cell in
    omega (arith, more, one, times-blocks n (freed_one living ino epoch killed cell) (freed_by living ino epoch later next))

-- ---- a removal

-- parts go out of the cell of a slot, and their blocks to the hand. Where this erases the cell, its chain and its number go
-- there too
pub record Removal : Type 0 where
  pub slot : ℕ
  pub cell : CellState
  pub freed : List BlockValue
  pub killed : List (List KilledPart)
  pub book : BookState

abbrev pub hand_freed : Removal → HandState → HandState
hand_freed x h = record h { blocks = h.blocks ++ x.freed; killed = x.killed }

abbrev pub removed : Removal → Shared → HandState → Both
removed x s h =
    both (with_cell x.slot (erased x.cell) (with_book x.book s)) (with_erased x.slot x.cell (hand_freed x h))

-- the kinds that remove parts: a commit retires them, and a drain releases one
abbrev pub is_removal_on : SnapshotOrCleanerStep → Bool
is_removal_on (Release draining picked) = true
is_removal_on other = false

abbrev pub is_removal : Next → Bool
is_removal (Retire place) = true
is_removal (SnapshotOrCleaner step) = is_removal_on step
is_removal other = false

abbrev pub removal_on : SnapshotOrCleanerStep → Shared → HandState → Removal
removal_on (Release draining picked) s h = record {
  slot = picked.ino;
  cell = released picked (cell_at s picked.ino);
  freed = released_blocks picked (cell_at s picked.ino);
  killed = h.killed;
  book = s.book;
}
removal_on other s h = record { slot = 0; cell = no_cell; freed = []; killed = h.killed; book = s.book }

abbrev pub removal : Next → Shared → HandState → Running → Removal
removal (Retire place) s h r =
    let ino = slot_at (written_slots r) place in
    let killed = first_killed h.killed in record {
      slot = ino;
      cell = retired_cell ino killed s r;
      freed = freed_by (ids s.book.snaps) ino r.epoch killed (cell_at s ino);
      killed = drop 1 h.killed;
      book = retired_book ino killed s r;
    }
removal (SnapshotOrCleaner step) s h r = removal_on step s h
removal other s h r = record { slot = 0; cell = no_cell; freed = []; killed = h.killed; book = s.book }

-- WHAT A REMOVAL LEAVES: log, generation, version and size of the cell, blocks of one size, each number as often as it
-- stood; and of the book all but the manifests
pub record IsRemoval (s : Shared) (x : Removal) : Type 0 where
  pub keeps : Keeps (cell_at s x.slot) x.cell
  pub parted : (size : ℕ) → IsParted size (cell_at s x.slot) → IsParted size x.cell
  pub sized : (size : ℕ) → IsParted size (cell_at s x.slot) → AreSized size x.freed
  pub times : (n : ℕ) → times n (stored_in x.cell) + times n (numbers_of x.freed) ≡ times n (stored_in (cell_at s x.slot))
  pub journals : x.book.journals ≡ s.book.journals
  pub snaps : x.book.snaps ≡ s.book.snaps
  pub commit : x.book.commit ≡ s.book.commit

removed_on : (step : SnapshotOrCleanerStep) (s : Shared) (h : HandState) → is_removal_on step ≡ true → IsRemoval s (removal_on step s h)
removed_on (Release draining picked) s h is =
    let cell = cell_at s picked.ino in
    let k = number_in cell (name_of picked) in record {
      keeps = record { chain = refl; generation = refl; version = refl; block = refl };
      parted = λ size. settled_parted size None k cell;
      sized = λ size. freed_sized size None k cell;
      times = λ n. settled_times n None k cell;
      journals = refl;
      snaps = refl;
      commit = refl;
    }
removed_on other s h is = absurd (false≢true is)

pub is_removed : (k : Next) (s : Shared) (h : HandState) (r : Running) → is_removal k ≡ true → IsRemoval s (removal k s h r)
is_removed (Retire place) s h r is =
    let ino = slot_at (written_slots r) place in
    let killed = first_killed h.killed in
    let living = ids s.book.snaps in record {
      keeps = keeps living ino r.epoch killed (cell_at s ino);
      parted = λ size. retired_parted size living ino r.epoch killed (cell_at s ino);
      sized = λ size. freed_by_sized size living ino r.epoch killed (cell_at s ino);
      times = λ n. retired_times n living ino r.epoch killed (cell_at s ino);
      journals = refl;
      snaps = refl;
      commit = refl;
    }
is_removed (SnapshotOrCleaner step) s h r is = removed_on step s h is
is_removed other s h r is = absurd (false≢true is)

lent_removal_on : (step : SnapshotOrCleanerStep) (cpus a : ℕ) (s : Shared) (h : HandState) (r : Running) → is_removal_on step ≡ true
    → (lent (SnapshotOrCleaner step) cpus a r).cell ≡ Some (removal_on step s h).slot
lent_removal_on (Release draining picked) cpus a s h r is = refl
lent_removal_on other cpus a s h r is = absurd (false≢true is)

-- its cell is lent
pub lent_removal : (k : Next) (cpus a : ℕ) (s : Shared) (h : HandState) (r : Running) → is_removal k ≡ true
    → (lent k cpus a r).cell ≡ Some (removal k s h r).slot
lent_removal (Retire place) cpus a s h r is = refl
lent_removal (SnapshotOrCleaner step) cpus a s h r is = lent_removal_on step cpus a s h r is
lent_removal other cpus a s h r is = absurd (false≢true is)

-- and all that was appended is published
pub removes_published : (k : Next) (written : List ℕ) → is_removal k ≡ true → unpublished_at k written ≡ []
removes_published (Append place) written is = absurd (false≢true is)
removes_published Open written is = absurd (false≢true is)
removes_published (Publish place) written is = absurd (false≢true is)
removes_published other written is = refl

-- ---- a cleaning

-- the slot that a step cleans, and its cell behind it
abbrev pub is_clean_on : SnapshotOrCleanerStep → Bool
is_clean_on (Unlink ino) = true
is_clean_on (Compact ino) = true
is_clean_on other = false

abbrev pub clean_slot_on : SnapshotOrCleanerStep → ℕ
clean_slot_on (Unlink ino) = ino
clean_slot_on (Compact ino) = ino
clean_slot_on other = 0

abbrev pub clean_cell_on : SnapshotOrCleanerStep → Shared → HandState → CellState
clean_cell_on (Unlink ino) s h = unlinked (cell_at s ino)
clean_cell_on (Compact ino) s h = compacted_cell h (cell_at s ino)
clean_cell_on other s h = no_cell

abbrev pub is_clean : Next → Bool
is_clean (SnapshotOrCleaner step) = is_clean_on step
is_clean other = false

abbrev pub clean_slot : Next → ℕ
clean_slot (SnapshotOrCleaner step) = clean_slot_on step
clean_slot other = 0

abbrev pub clean_cell : Next → Shared → HandState → CellState
clean_cell (SnapshotOrCleaner step) s h = clean_cell_on step s h
clean_cell other s h = no_cell

-- A CLEANING leaves version and block size of its cell, and of its entries those of some flags. A log that ends at its tail
-- does so still
pub record IsCleaning (old new : CellState) : Type 0 where
  pub version : new.version ≡ old.version
  pub block : new.block ≡ old.block
  pub flags : List Bool
  pub entries : new.chain.entries ≡ left_of flags old.chain.entries
  pub tail : old.chain.tail ≡ length old.chain.entries → new.chain.tail ≡ length new.chain.entries

whole : (cell : CellState) → cell.chain.tail ≡ length cell.chain.entries → log cell.chain ≡ cell.chain.entries
whole cell last = take_all cell.chain.tail cell.chain.entries (omega (arith, last))

pub is_cleaned : (k : Next) (s : Shared) (h : HandState) → is_clean k ≡ true
    → IsCleaning (cell_at s (clean_slot k)) (clean_cell k s h)
is_cleaned (SnapshotOrCleaner (Unlink ino)) s h is =
    let cell = cell_at s ino in
    let stays = (unlinkable_of cell).stays in
    let left = parts_left 0 stays cell.chain.ends cell.chain.entries in
    record {
      version = refl;
      block = refl;
      flags = left.0;
      entries = left.1;
      tail = λ last.
          ap (λ (l : List Entry). length (joined (left_of stays (parts_from 0 cell.chain.ends l)))) (whole cell last);
    }
is_cleaned (SnapshotOrCleaner (Compact ino)) s h is =
    let cell = cell_at s ino in
    let stays = (wanted_of cell).stays in
    record {
      version = refl;
      block = refl;
      flags = stays;
      entries = refl;
      tail = λ last. ap (λ (l : List Entry). length (left_of stays l)) (whole cell last);
    }
is_cleaned other s h is = absurd (false≢true is)

-- its cell is lent
pub lent_clean : (k : Next) (cpus a : ℕ) (r : Running) → is_clean k ≡ true → (lent k cpus a r).cell ≡ Some (clean_slot k)
lent_clean (SnapshotOrCleaner (Unlink ino)) cpus a r is = refl
lent_clean (SnapshotOrCleaner (Compact ino)) cpus a r is = refl
lent_clean other cpus a r is = absurd (false≢true is)

-- no commit, no removal
pub cleans_alone : (k : Next) → is_clean k ≡ true → (commits_at k ≡ false) × (is_removal k ≡ false)
cleans_alone (SnapshotOrCleaner (Unlink ino)) is = (refl, refl)
cleans_alone (SnapshotOrCleaner (Compact ino)) is = (refl, refl)
cleans_alone other is = absurd (false≢true is)

-- what a drain releases leaves the killed parts in the hand
pub killed_on : (step : SnapshotOrCleanerStep) (s : Shared) (h : HandState) → (removal_on step s h).killed ≡ h.killed
killed_on Make s h = refl
killed_on other s h = refl

-- A STEP OF A CALL ON SNAPSHOTS OR OF A CLEANER removes parts, takes fresh pages, cleans a cell, or leaves all but the book and
-- the locks of slots
pub on_step : (P : Shared → HandState → Type 0) (step : SnapshotOrCleanerStep) (a : ℕ) (s : Shared) (h : HandState)
    → (is_removal_on step ≡ true → let d = removed (removal_on step s h) s h in P d.shared d.hand)
    → ((ino asked wanted : ℕ) → step ≡ Fresh ino asked wanted
    → let d = snapshot_or_cleaner_work (Fresh ino asked wanted) a s h in P d.shared d.hand)
    → (is_clean_on step ≡ true → let d = snapshot_or_cleaner_work step a s h in P d.shared d.hand)
    → ((book : BookState) (owners : List (Option ℕ)) → P (record s { book = book; owners = owners }) h)
    → P (snapshot_or_cleaner_work step a s h).shared (snapshot_or_cleaner_work step a s h).hand
on_step P (Release draining picked) a s h removes takes cleans stays = removes refl
on_step P (Fresh ino asked wanted) a s h removes takes cleans stays = takes ino asked wanted refl
on_step P (Unlink ino) a s h removes takes cleans stays = cleans refl
on_step P (Compact ino) a s h removes takes cleans stays = cleans refl
on_step P other a s h removes takes cleans stays = stays _ _

-- ---- the cell that is lent is its actor's, and one of the world

pub lent_inside_own : (k : Next) (a : ℕ) (s : Shared) (r : Running) → Before a s k r → (ino : ℕ)
    → (lent k (length s.lists) a r).cell ≡ Some ino → (ino < length s.cells) × (owner_at s ino ≡ Some a)
lent_inside_own k a s r b ino is =
    let own = lent_cell k (length s.lists) a s r b ino is in (inside own, own) where
      inside : owner_at s ino ≡ Some a → ino < length s.cells
      inside own = elim (cases_lt ino (length s.owners)) [
        | inl lt ↦ omega (arith, lt, b.wide)
        | inr ge ↦ absurd (none-some a (sym (get_or_past s.owners ino None ge) ∙ own))
      ]

-- ---- all cells

-- the cell of a slot with the entries of a call
abbrev pub appended_at : ℕ → Shared → HandState → Running → CellState
appended_at ino s h r = with_entries (entries_for r ino) h.blocks (with_log_pages (take (pages_needed s r.plan ino) h.pages) (cell_at s ino))

-- WHAT A LAW SAYS OF THE CELL that a kind changes
pub record CellWays (P : ℕ → CellState → Type 0) (k : Next) (s : Shared) (h : HandState) (r : Running) : Type 0 where
  pub appends : (place : ℕ) → k ≡ Append place → place < length (written_slots r) → let ino = slot_at (written_slots r) place in
      ino < length s.cells → P ino (appended_at ino s h r)
  pub publishes : (place : ℕ) → k ≡ Publish place → place < length (written_slots r) → let ino = slot_at (written_slots r) place in
      ino < length s.cells → P ino (published (cell_at s ino))
  pub removes : is_removal k ≡ true → let x = removal k s h r in x.slot < length s.cells → IsRemoval s x → P x.slot (erased x.cell)
  pub cleans : is_clean k ≡ true → clean_slot k < length s.cells → P (clean_slot k) (clean_cell k s h)

-- the kinds that add to a log
abbrev pub adds : Next → Bool
adds (Append place) = true
adds (Publish place) = true
adds other = false

-- of a kind that adds to none
pub no_more : (P : ℕ → CellState → Type 0) (k : Next) (s : Shared) (h : HandState) (r : Running) → adds k ≡ false
    → (is_removal k ≡ true → let x = removal k s h r in x.slot < length s.cells → IsRemoval s x → P x.slot (erased x.cell))
    → (is_clean k ≡ true → clean_slot k < length s.cells → P (clean_slot k) (clean_cell k s h)) → CellWays P k s h r
no_more P k s h r none removes cleans = record {
  appends = λ place is inside low. absurd (true≢false (sym (ap adds is) ∙ none));
  publishes = λ place is inside low. absurd (true≢false (sym (ap adds is) ∙ none));
  removes = removes;
  cleans = cleans;
}

module _ (P : ℕ → CellState → Type 0) (block a : ℕ) (s : Shared) (h : HandState) (r : Running)
    (was : (ino : ℕ) → P ino (cell_at s ino)) where
  set_cell : (slot : ℕ) (cell : CellState) → slot < length s.cells → P slot cell → (ino : ℕ) → P ino (cell_at (with_cell slot cell s) ino)
  set_cell slot cell low new ino =
      cell_set s slot cell ino (P ino) low (λ is. subst (λ (n : ℕ). P n cell) is new) (λ ne. was ino)

  stays : (k : Next) → (lent k (length s.lists) a r).cell ≡ None → (ino : ℕ) → P ino (cell_at (work k block a s h r).shared ino)
  stays k none ino = subst (P ino) (sym ((work_framed k block a s h r).cells ino (λ is. none-some ino (sym none ∙ is)))) (was ino)

  low : (k : Next) → Before a s k r → (ino : ℕ) → (lent k (length s.lists) a r).cell ≡ Some ino → ino < length s.cells
  low k b ino is = (lent_inside_own k a s r b ino is).0

  cells_on : (step : SnapshotOrCleanerStep) → Before a s (SnapshotOrCleaner step) r → CellWays P (SnapshotOrCleaner step) s h r → (ino : ℕ)
      → P ino (cell_at (work (SnapshotOrCleaner step) block a s h r).shared ino)
  cells_on (Release draining picked) b w =
      let k : Next = SnapshotOrCleaner (Release draining picked) in
      let inside = low k b picked.ino refl in
      set_cell picked.ino _ inside (w.removes refl inside (is_removed k s h r refl))
  cells_on (Unlink ino) b w =
      let inside = low (SnapshotOrCleaner (Unlink ino)) b ino refl in set_cell ino _ inside (w.cleans refl inside)
  cells_on (Compact ino) b w =
      let inside = low (SnapshotOrCleaner (Compact ino)) b ino refl in set_cell ino _ inside (w.cleans refl inside)
  cells_on other b w = stays (SnapshotOrCleaner other) refl

  -- WHAT HOLDS OF EACH CELL before a step holds of each behind its work, where it holds of the one that the step changes
  pub cells_after : (k : Next) → Before a s k r → CellWays P k s h r → (ino : ℕ) → P ino (cell_at (work k block a s h r).shared ino)
  cells_after (Append place) b w =
      let inside = low (Append place) b _ refl in set_cell _ _ inside (w.appends place refl b.inside inside)
  cells_after (Publish place) b w =
      let inside = low (Publish place) b _ refl in set_cell _ _ inside (w.publishes place refl b.inside inside)
  cells_after (Retire place) b w =
      let inside = low (Retire place) b _ refl in
      set_cell _ _ inside (w.removes refl inside (is_removed (Retire place) s h r refl))
  cells_after (SnapshotOrCleaner step) b w = cells_on step b w
  cells_after other b w = stays other refl

pub slots_stay : (k : Next) (block a : ℕ) (s : Shared) (h : HandState) (r : Running)
    → length (work k block a s h r).shared.cells ≡ length s.cells
slots_stay k block a s h r = (work_framed k block a s h r).slots

-- ---- the book

-- the kinds that write a journal
abbrev pub notes : Next → Bool
notes Open = true
notes Close = true
notes other = false

journals_on : (step : SnapshotOrCleanerStep) (a : ℕ) (s : Shared) (h : HandState)
    → (snapshot_or_cleaner_work step a s h).shared.book.journals ≡ s.book.journals
journals_on Make a s h = refl
journals_on other a s h = refl

pub journals_stay : (k : Next) (block a : ℕ) (s : Shared) (h : HandState) (r : Running) → notes k ≡ false
    → (work k block a s h r).shared.book.journals ≡ s.book.journals
journals_stay Number block a s h r is = ap (λ (b : BookState). b.journals) (work_framed Number block a s h r).book
journals_stay Open block a s h r is = absurd (true≢false is)
journals_stay Close block a s h r is = absurd (true≢false is)
journals_stay ReturnNumber block a s h r is = ap (λ (b : BookState). b.journals) (work_framed ReturnNumber block a s h r).book
journals_stay (SnapshotOrCleaner step) block a s h r is = journals_on step a s h
journals_stay other block a s h r is = refl

commit_on : (step : SnapshotOrCleanerStep) (a : ℕ) (s : Shared) (h : HandState)
    → (snapshot_or_cleaner_work step a s h).shared.book.commit ≡ s.book.commit
commit_on Make a s h = refl
commit_on other a s h = refl

abbrev pub enters : Next → Bool
enters Enter = true
enters other = false

pub commit_stays : (k : Next) (block a : ℕ) (s : Shared) (h : HandState) (r : Running) → enters k ≡ false
    → (work k block a s h r).shared.book.commit ≡ s.book.commit
commit_stays Number block a s h r is = ap (λ (b : BookState). b.commit) (work_framed Number block a s h r).book
commit_stays Enter block a s h r is = absurd (true≢false is)
commit_stays ReturnNumber block a s h r is = ap (λ (b : BookState). b.commit) (work_framed ReturnNumber block a s h r).book
commit_stays (SnapshotOrCleaner step) block a s h r is = commit_on step a s h
commit_stays other block a s h r is = refl

-- the step that begins an epoch
abbrev makes_on : SnapshotOrCleanerStep → Bool
makes_on Make = true
makes_on other = false

abbrev pub makes : Next → Bool
makes (SnapshotOrCleaner step) = makes_on step
makes other = false

epoch_on : (step : SnapshotOrCleanerStep) (a : ℕ) (s : Shared) (h : HandState) → makes_on step ≡ false
    → (snapshot_or_cleaner_work step a s h).shared.book.snaps.epoch ≡ s.book.snaps.epoch
epoch_on Make a s h is = absurd (true≢false is)
epoch_on other a s h is = refl

pub epoch_stays : (k : Next) (block a : ℕ) (s : Shared) (h : HandState) (r : Running) → makes k ≡ false
    → (work k block a s h r).shared.book.snaps.epoch ≡ s.book.snaps.epoch
epoch_stays Number block a s h r is = ap (λ (b : BookState). b.snaps.epoch) (work_framed Number block a s h r).book
epoch_stays ReturnNumber block a s h r is = ap (λ (b : BookState). b.snaps.epoch) (work_framed ReturnNumber block a s h r).book
epoch_stays (SnapshotOrCleaner step) block a s h r is = epoch_on step a s h is
epoch_stays other block a s h r is = refl

-- ---- the commit lock

lock_on : (step : SnapshotOrCleanerStep) (a : ℕ) (s : Shared) (h : HandState) → (snapshot_or_cleaner_work step a s h).shared.holder ≡ s.holder
lock_on Make a s h = refl
lock_on other a s h = refl

-- the kinds that take it or leave it
abbrev pub locks : Next → Bool
locks Enter = true
locks Leave = true
locks other = false

pub holder_stays : (k : Next) (block a : ℕ) (s : Shared) (h : HandState) (r : Running) → locks k ≡ false
    → (work k block a s h r).shared.holder ≡ s.holder
holder_stays Number block a s h r is = (work_framed Number block a s h r).holder
holder_stays Enter block a s h r is = absurd (true≢false is)
holder_stays Leave block a s h r is = absurd (true≢false is)
holder_stays ReturnNumber block a s h r is = (work_framed ReturnNumber block a s h r).holder
holder_stays (SnapshotOrCleaner step) block a s h r is = lock_on step a s h
holder_stays other block a s h r is = refl

-- ---- the killed parts in the hand

-- the kinds that may change them
abbrev pub kills : Next → Bool
kills (Publish place) = true
kills (Retire place) = true
kills (SnapshotOrCleaner step) = true
kills other = false

pub killed_stays : (k : Next) (block a : ℕ) (s : Shared) (h : HandState) (r : Running) → kills k ≡ false
    → (work k block a s h r).hand.killed ≡ h.killed
killed_stays Number block a s h r is = by_number (λ (t : Shared) (g : HandState). g.killed ≡ h.killed) s h (λ numbers ino. refl)
killed_stays ReturnNumber block a s h r is = by_back (λ (t : Shared) (g : HandState). g.killed ≡ h.killed) s h (λ numbers ino. refl)
killed_stays (Publish place) block a s h r is = absurd (true≢false is)
killed_stays (Retire place) block a s h r is = absurd (true≢false is)
killed_stays (SnapshotOrCleaner step) block a s h r is = absurd (true≢false is)
killed_stays other block a s h r is = refl
