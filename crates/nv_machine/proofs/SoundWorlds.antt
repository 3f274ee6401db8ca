-- Free lists stay in order, cells have a place for each part, and all blocks have one size.
use Rattle.std.proofs.Common.{Bool, List, Option, [], ap, arith, drop, false, get_or-set_other, get_or-set_same, if◌then◌else◌, inl, inr, length, map, refl, set, subst, suc, sym, take, true, zero, ℕ, ◌*◌, ◌++◌, ◌+◌, ◌/◌, ◌<◌, ◌==◌, ◌∙◌, ◌∷◌, ◌≡◌, ◌≤◌, ◌⊎◌}
use Rattle.std.specs.Prelude.{slice_index_or}
use Rattle.std.specs.List.{AllByRecursion}
use Rattle.std.proofs.lemmas.Bool.{cases_lt, eqb-false, eqb-true, false≢true}
use Rattle.std.proofs.lemmas.List.{get_or_past, set_past}
use Rattle.std.proofs.lemmas.List.FromFn.{length-map-range_with_len}
use Rattle.nv_alloc.specs.Block.{AreSized, BlockValue}
use Rattle.nv_alloc.specs.FreeList.{FreeBlocks}
use Rattle.nv_alloc.specs.Giving.{after_giving}
use Rattle.nv_alloc.proofs.GivingLemmas.{AreSized-kept}
use Rattle.nv_base.specs.declared.geometry.GeometryNumbers.{GeometryNumbers}
use Rattle.nv_calls.specs.Retiring.{erased, number_back}
use Rattle.nv_calls.specs.Slots.{entries_of, items_for, place_in}
use Rattle.nv_calls.specs.declared.call.Call.{Call}
use Rattle.nv_cell.specs.Append.{IsWithinFile}
use Rattle.nv_cell.specs.Cell.{CellState, published}
use Rattle.nv_entry.specs.Bytes.{page_of}
use Rattle.nv_entry.specs.declared.item.Entry.{Entry}
use Rattle.nv_entry.specs.declared.item.Item.{Item}
use Rattle.nv_machine.specs.Hands.{AreLists, HandAt, HasPlanned, IsParted}
use Rattle.nv_machine.specs.Kinds.{asked_list, blocks_in, blocks_left, entries_for, less_list, with_entries, with_log_pages}
use Rattle.nv_calls.specs.FillPages.{filled, fresh_pages}
use Rattle.nv_machine.specs.Reads.{copies, pages_needed, slot_at, written_slots}
use Rattle.nv_machine.specs.World.{Append, ReturnNumber, Check, Give, HandState, Look, Next, Number, Publish, Ready, Retire, Running, Shared, SnapshotOrCleaner, SnapshotOrCleanerStep, Compact, Unlink, TakeBlocks, TakeLogPages, Visit, cell_at, list_at, no_cell, no_list, with_cell, with_numbers}
use Rattle.nv_machine.proofs.BlockCounts.{given_all}
use Rattle.nv_machine.proofs.HandsInCommits.{slot_first}
use Rattle.nv_machine.proofs.StepWork.{append_work, by_back, by_number, work, snapshot_or_cleaner_work}
use Rattle.nv_machine.proofs.LocksHeld.{Before}
use Rattle.nv_machine.proofs.PartPlaces.{entries_parted, erased_parted, paged_parted, published_parted, sized_both, sized_first, sized_later}
use Rattle.nv_machine.proofs.SortedLists.{given_free, less_free, with_home}
use Rattle.nv_machine.proofs.CellChanges.{clean_cell, clean_cell_on, is_clean, is_clean_on, IsRemoval, Removal, hand_freed, is_removed, on_step, removal, removal_on, removed}
use Rattle.nv_calls.specs.declared.call.Call.TheVariants as call
use Rattle.nv_clean.specs.Plans.{unlinkable_of}
use Rattle.nv_log.proofs.Flags.{all_gone}
use Rattle.nv_log.specs.Chain.{gone_of}
use Rattle.nv_cell.specs.Readers.{is_erased}
use Rattle.nv_machine.specs.Cleaning.{compacted_cell, unlinked, with_fresh, with_old_chain, with_unlinked}

-- ---- all cells, where one is another

abbrev pub AreCells : GeometryNumbers → Shared → Type 0
AreCells g s = (ino : ℕ) → IsParted g.block (cell_at s ino)

pub with_parted : (g : GeometryNumbers) (ino : ℕ) (cell : CellState) (s : Shared) → AreCells g s → IsParted g.block cell
    → AreCells g (with_cell ino cell s)
with_parted g ino cell s cells new n = go (ino == n) refl (cases_lt ino (length s.cells)) where
  go : (b : Bool) → (ino == n) ≡ b → (ino < length s.cells) ⊎ (length s.cells ≤ ino)
      → IsParted g.block (slice_index_or (set s.cells ino cell) n no_cell)
  go true q (inl lt) =
      subst (λ (m : ℕ). IsParted g.block (slice_index_or (set s.cells ino cell) m no_cell)) (eqb-true ino n q)
      (subst (λ (c : CellState). IsParted g.block c) (sym (get_or-set_same s.cells ino cell no_cell lt)) new)
  go b q (inr ge) = subst (λ (l : List CellState). IsParted g.block (slice_index_or l n no_cell))
      (sym (set_past s.cells ino cell ge)) (cells n)
  go false q (inl lt) = subst (λ (c : CellState). IsParted g.block c)
      (sym (get_or-set_other s.cells ino n cell no_cell (λ e. eqb-false ino n q (sym e)))) (cells n)

-- ---- what is sound

pub record IsSound (g : GeometryNumbers) (s : Shared) (h : HandState) : Type 0 where
  pub lists : AreLists g s
  pub cells : AreCells g s
  pub sized : AreSized g.block (blocks_in h)

pub sized_left : (size : ℕ) (xs ys : List BlockValue) → AreSized size (xs ++ ys) → AreSized size xs
sized_left size [] ys h = tt
sized_left size (x ∷ xs) ys h = (h.0, sized_left size xs ys h.1)

sized_right : (size : ℕ) (xs ys : List BlockValue) → AreSized size (xs ++ ys) → AreSized size ys
sized_right size [] ys h = h
sized_right size (x ∷ xs) ys h = sized_right size xs ys h.1

pub record AllSized (size : ℕ) (h : HandState) : Type 0 where
  pub blocks : AreSized size h.blocks
  pub pages : AreSized size h.pages
  pub chain : AreSized size h.chain

pub all_sized : (size : ℕ) (h : HandState) → AreSized size (blocks_in h) → AllSized size h
all_sized size h all =
    let first = sized_left size (h.blocks ++ h.pages) h.chain all in
    record {
      blocks = sized_left size h.blocks h.pages first;
      pages = sized_right size h.blocks h.pages first;
      chain = sized_right size (h.blocks ++ h.pages) h.chain all;
    }

in_all : (size : ℕ) (h : HandState) → AllSized size h → AreSized size (blocks_in h)
in_all size h all =
    sized_both size (h.blocks ++ h.pages) h.chain (sized_both size h.blocks h.pages all.blocks all.pages) all.chain

-- ---- taking

none_first : (n : ℕ) → take {A = BlockValue} n [] ≡ []
none_first zero = refl
none_first (suc n) = refl

list_sized : (g : GeometryNumbers) (cpu n : ℕ) (s : Shared) → AreLists g s → AreSized g.block (take n (list_at s cpu).blocks)
list_sized g cpu n s lists = elim (cases_lt cpu (length s.lists)) [
  | inl lt ↦
      let home = lists.each cpu (omega (arith, lt, lists.cpus)) in
      subst (λ (size : ℕ). AreSized size (take n (list_at s cpu).blocks)) home.size
      (sized_first (list_at s cpu).size n (list_at s cpu).blocks home.free.sized)
  | inr ge ↦ subst (λ (l : List BlockValue). AreSized g.block l)
      (sym (ap (λ (l : FreeBlocks). take n l.blocks) (get_or_past s.lists cpu no_list ge) ∙ none_first n)) tt
]

less_sound : (g : GeometryNumbers) (cpu n : ℕ) (s : Shared) → AreLists g s → AreLists g (less_list cpu n s)
less_sound g cpu n s lists =
    with_home g cpu (record (list_at s cpu) { blocks = drop n (list_at s cpu).blocks }) s lists
    (λ lt. less_free g cpu n (list_at s cpu) (lists.each cpu lt))

-- ---- ready

-- pages of so many bytes each
abbrev ArePages : ℕ → List (List ℕ) → Type 0
ArePages size pages = AllByRecursion (λ (bytes : List ℕ). length bytes ≡ size) pages

page_sized : (block page : ℕ) (bytes : List ℕ) → length (page_of block page bytes) ≡ block
page_sized block page bytes = length-map-range_with_len (λ k. slice_index_or bytes k 0) (page * block) block

pages_sized : (block : ℕ) (f : ℕ → ℕ) (bytes : List ℕ) (pages : List ℕ) → ArePages block (map (λ page. page_of block page bytes) pages)
pages_sized block f bytes [] = tt
pages_sized block f bytes (page ∷ pages) = (page_sized block page bytes, pages_sized block f bytes pages)

fresh_sized : (block : ℕ) (nodes : _) (c : Call) → ArePages block (fresh_pages block nodes c)
fresh_sized block nodes (call.Write file offset text) = pages_sized block (λ k. k) _ _
fresh_sized block nodes (call.Size file size) = (page_sized block (size / block) _, tt)
fresh_sized block nodes other = tt

filled_sized : (size : ℕ) (pages : List (List ℕ)) (bs : List BlockValue) → ArePages size pages → AreSized size bs
    → AreSized size (filled pages bs)
filled_sized size [] bs p h = h
filled_sized size (bytes ∷ rest) [] p h = tt
filled_sized size (bytes ∷ rest) (b ∷ bs) p h = (p.0, filled_sized size rest bs p.1 h.1)

-- ---- append

left_sized : (size : ℕ) (entries : List Entry) (bs : List BlockValue) → AreSized size bs → AreSized size (blocks_left entries bs)
left_sized size [] bs h = h
left_sized size (e ∷ entries) bs h = left_sized size entries _ (sized_later size _ bs h)

pub entries_within : (commit epoch place : ℕ) (items : List Item) → AllByRecursion IsWithinFile items
    → AllByRecursion (λ (e : Entry). IsWithinFile e.item) (entries_of commit epoch place items)
entries_within commit epoch place [] h = tt
entries_within commit epoch place (item ∷ items) h = (h.0, entries_within commit epoch (place + 1) items h.1)

-- a cell is set and a hand left, where both are sound
set_sound : (g : GeometryNumbers) (ino : ℕ) (new : CellState) (s : Shared) (h after : HandState) → IsSound g s h
    → IsParted g.block new → AllSized g.block after → IsSound g (with_cell ino new s) after
set_sound g ino new s h after sound parted all = record {
  lists = record { cpus = sound.lists.cpus; each = sound.lists.each };
  cells = with_parted g ino new s sound.cells parted;
  sized = in_all g.block after all;
}

append_sound : (g : GeometryNumbers) (place pages : ℕ) (s : Shared) (h : HandState) (r : Running) → place < length (written_slots r)
    → HasPlanned h r (drop place (written_slots r)) → IsSound g s h
    → IsSound g (append_work (slot_at (written_slots r) place) pages s h r).shared
    (append_work (slot_at (written_slots r) place) pages s h r).hand
append_sound g place pages s h r inside planned sound =
    let ino = slot_at (written_slots r) place in
    let all = all_sized g.block h sound.sized in
    let entries = entries_for r ino in
    let more = with_log_pages (take pages h.pages) (cell_at s ino) in
    let paged = paged_parted g.block (take pages h.pages) (cell_at s ino) (sized_first g.block pages h.pages all.pages) (sound.cells ino) in
    let parted = entries_parted g.block entries h.blocks more
    (entries_within r.commit r.epoch (place_in r.plan ino) (items_for r.plan ino) (planned.within ino))
    (slot_first place h r inside planned) all.blocks paged in
    set_sound g ino (with_entries entries h.blocks more) s h (append_work ino pages s h r).hand sound parted (record {
      blocks = left_sized g.block entries h.blocks all.blocks;
      pages = sized_later g.block pages h.pages all.pages;
      chain = all.chain;
    })

-- ---- retire

removal_sound : (g : GeometryNumbers) (x : Removal) (s : Shared) (h : HandState) → IsRemoval s x → IsSound g s h
    → IsSound g (removed x s h).shared (removed x s h).hand
removal_sound g x s h is sound = record {
  lists = record { cpus = sound.lists.cpus; each = sound.lists.each };
  cells = with_parted g x.slot (erased x.cell) s sound.cells (erased_parted g.block x.cell parted);
  sized = sized (is_erased x.cell);
} where
  parted : IsParted g.block x.cell
  parted = is.parted g.block (sound.cells x.slot)

  freed : AllSized g.block (hand_freed x h)
  freed =
      let all = all_sized g.block h sound.sized in
      record {
        blocks = sized_both g.block h.blocks x.freed all.blocks (is.sized g.block (sound.cells x.slot));
        pages = all.pages;
        chain = all.chain;
      }

  with_chain : HandState
  with_chain = record (hand_freed x h) { chain = h.chain ++ x.cell.chain.blocks; ino = number_back x.slot x.cell h.ino }

  sized : (b : Bool) → AreSized g.block (blocks_in (if b then with_chain else hand_freed x h))
  sized true = in_all g.block with_chain (record {
    blocks = freed.blocks;
    pages = freed.pages;
    chain = sized_both g.block h.chain x.cell.chain.blocks freed.chain parted.pages;
  })
  sized false = in_all g.block (hand_freed x h) freed

-- ---- every kind

same_sound : (g : GeometryNumbers) (s : Shared) (h : HandState) → IsSound g s h → (numbers : List ℕ) (ino : Option ℕ)
    → IsSound g (with_numbers numbers s) (record h { ino = ino })
same_sound g s h sound numbers ino =
    record { lists = record { cpus = sound.lists.cpus; each = sound.lists.each }; cells = sound.cells; sized = sound.sized }

-- log pages of a list are of the right size
fresh_sound : (g : GeometryNumbers) (cpu wanted : ℕ) (s : Shared) (h : HandState) → IsSound g s h
    → IsSound g (less_list cpu wanted s) (with_fresh cpu wanted s h)
fresh_sound g cpu wanted s h sound =
    let all = all_sized g.block h sound.sized in
    record {
      lists = less_sound g cpu wanted s sound.lists;
      cells = sound.cells;
      sized = in_all g.block (with_fresh cpu wanted s h) (record {
        blocks = all.blocks;
        pages = sized_both g.block h.pages (take wanted (list_at s cpu).blocks) all.pages (list_sized g cpu wanted s sound.lists);
        chain = all.chain;
      });
    }

-- a cleaning moves log pages between the chain and the hand
clean_sound : (g : GeometryNumbers) (step : SnapshotOrCleanerStep) (a : ℕ) (s : Shared) (h : HandState) → is_clean_on step ≡ true
    → IsSound g s h → IsParted g.block (clean_cell_on step s h)
    → IsSound g (snapshot_or_cleaner_work step a s h).shared (snapshot_or_cleaner_work step a s h).hand
clean_sound g (Unlink ino) a s h is sound parted =
    let cell = cell_at s ino in
    let all = all_sized g.block h sound.sized in
    let stays = (unlinkable_of cell).stays in
    let gone = all_gone (λ (b : BlockValue). length b.bytes ≡ g.block) stays cell.chain.blocks (sound.cells ino).pages in
    set_sound g ino (unlinked cell) s h (with_unlinked cell h) sound parted (record {
      blocks = all.blocks;
      pages = sized_both g.block h.pages (gone_of stays cell.chain.blocks) all.pages gone;
      chain = all.chain;
    })
clean_sound g (Compact ino) a s h is sound parted =
    let cell = cell_at s ino in
    let all = all_sized g.block h sound.sized in
    set_sound g ino (compacted_cell h cell) s h (with_old_chain cell h) sound parted (record {
      blocks = all.blocks;
      pages = tt;
      chain = sized_both g.block h.chain cell.chain.blocks all.chain (sound.cells ino).pages;
    })
clean_sound g other a s h is sound parted = absurd (false≢true is)

pub work_sound : (g : GeometryNumbers) (k : Next) (a : ℕ) (s : Shared) (h : HandState) (r : Running) → Before a s k r → HandAt g k h r
    → IsSound g s h → (is_clean k ≡ true → IsParted g.block (clean_cell k s h))
    → IsSound g (work k g.block a s h r).shared (work k g.block a s h r).hand
work_sound g Number a s h r b at sound cleans = by_number (IsSound g) s h (same_sound g s h sound)
work_sound g (Look place) a s h r b at sound cleans = sound
work_sound g Check a s h r b at sound cleans = sound
work_sound g (TakeBlocks asked) a s h r b at sound cleans =
    let cpu = asked_list (length s.lists) a asked in
    let all = all_sized g.block h sound.sized in
    record {
      lists = less_sound g cpu r.wanted s sound.lists;
      cells = sound.cells;
      sized = in_all g.block (work (TakeBlocks asked) g.block a s h r).hand (record {
        blocks = sized_both g.block h.blocks (take r.wanted (list_at s cpu).blocks) all.blocks (list_sized g cpu r.wanted s sound.lists);
        pages = all.pages;
        chain = all.chain;
      });
    }
work_sound g (TakeLogPages asked) a s h r b at sound cleans = fresh_sound g (asked_list (length s.lists) a asked) r.wanted s h sound
work_sound g Ready a s h r b at sound cleans =
    let all = all_sized g.block h sound.sized in
    record {
      lists = sound.lists;
      cells = sound.cells;
      sized = in_all g.block (work Ready g.block a s h r).hand (record {
        blocks = filled_sized g.block (fresh_pages g.block (copies s) r.call) h.blocks (fresh_sized g.block (copies s) r.call) all.blocks;
        pages = all.pages;
        chain = all.chain;
      });
    }
work_sound g (Append place) a s h r b at sound cleans =
    append_sound g place (pages_needed s r.plan (slot_at (written_slots r) place)) s h r b.inside at sound
work_sound g (Publish place) a s h r b at sound cleans =
    let ino = slot_at (written_slots r) place in
    record {
      lists = record { cpus = sound.lists.cpus; each = sound.lists.each };
      cells = with_parted g ino (published (cell_at s ino)) s sound.cells (published_parted g.block (cell_at s ino) (sound.cells ino));
      sized = sound.sized;
    }
work_sound g (Retire place) a s h r b at sound cleans =
    removal_sound g (removal (Retire place) s h r) s h (is_removed (Retire place) s h r refl) sound
work_sound g (Give cpu) a s h r b at sound cleans = record {
  lists = with_home g cpu (after_giving (list_at s cpu) (blocks_in h)) s sound.lists
      (λ lt. given_free g cpu (list_at s cpu) (blocks_in h) (sound.lists.each cpu lt));
  cells = sound.cells;
  sized = subst (λ (l : List BlockValue). AreSized g.block l) (sym (given_all cpu s h))
      (AreSized-kept g.block (list_at s cpu) (blocks_in h) sound.sized);
}
work_sound g ReturnNumber a s h r b at sound cleans = by_back (IsSound g) s h (same_sound g s h sound)
work_sound g Visit a s h r b at sound cleans = sound
work_sound g (SnapshotOrCleaner step) a s h r b at sound cleans =
    on_step (IsSound g) step a s h (λ is. removal_sound g (removal_on step s h) s h (is_removed (SnapshotOrCleaner step) s h r is) sound)
    (λ ino asked wanted is. fresh_sound g (asked_list (length s.lists) a asked) wanted s h sound)
    (λ is. clean_sound g step a s h is sound (cleans is))
    (λ book owners.
    record { lists = record { cpus = sound.lists.cpus; each = sound.lists.each }; cells = sound.cells; sized = sound.sized })
work_sound g other a s h r b at sound cleans =
    record { lists = record { cpus = sound.lists.cpus; each = sound.lists.each }; cells = sound.cells; sized = sound.sized }
