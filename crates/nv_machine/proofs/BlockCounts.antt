-- A step moves blocks between the hand and what it is lent: each number stands as often as before.
use Rattle.std.proofs.Common.{Bool, List, None, Option, Some, [], ap, arith, drop, false, length, map, refl, set, suc, sym, take, true, zero, ℕ, ◌++◌, ◌+◌, ◌<◌, ◌∙◌, ◌∷◌, ◌≡◌, ◌≤◌}
use Rattle.std.proofs.lemmas.Bool.{le-leb, le-ltb, false≢true}
use Rattle.std.proofs.lemmas.List.{get_or_past}
use Rattle.std.specs.List.{flat_map}
use Rattle.nv_alloc.specs.Block.{BlockValue, numbers_of}
use Rattle.nv_alloc.specs.FreeList.{FreeBlocks}
use Rattle.nv_alloc.specs.Giving.{after_giving, not_taken, takes}
use Rattle.nv_alloc.specs.Numbers.{times}
use Rattle.nv_alloc.proofs.GivingLemmas.{kept_of-append, times-blocks, times-given}
use Rattle.nv_alloc.proofs.Lists.{times-append, times-cons}
use Rattle.nv_calls.specs.Retiring.{erased}
use Rattle.nv_cell.specs.Append.{appended, blocks_for, part_blocks}
use Rattle.nv_cell.specs.Cell.{CellState, of_part, published, stored_in}
use Rattle.nv_entry.specs.Blocks.{item_blocks}
use Rattle.nv_entry.specs.declared.item.Entry.{Entry}
use Rattle.nv_entry.specs.declared.item.Item.{Item}
use Rattle.nv_entry.specs.declared.item.Item.TheVariants.{Write}
use Rattle.nv_machine.specs.Frame.{lent}
use Rattle.nv_machine.specs.Kinds.{asked_list, blocks_in, blocks_left, entries_for, given, less_list, with_bytes, with_entries, with_erased, with_given, with_log_pages}
use Rattle.nv_machine.specs.Numbers.{free_of, held_in}
use Rattle.nv_calls.proofs.FillPages.{filled_numbers}
use Rattle.nv_calls.specs.FillPages.{fresh_pages}
use Rattle.nv_machine.specs.Reads.{copies, pages_needed, slot_at, written_slots}
use Rattle.nv_machine.specs.World.{Append, ReturnNumber, Give, HandState, Next, Number, Publish, Ready, Retire, Running, Shared, SnapshotOrCleaner, TakeBlocks, TakeLogPages, cell_at, list_at, no_cell, no_list, Unlink, Compact, SnapshotOrCleanerStep, with_cell}
use Rattle.nv_machine.proofs.Occurrences.{cut_times, set_times, three_times}
use Rattle.nv_machine.proofs.StepWork.{append_work, by_back, by_number, work, snapshot_or_cleaner_work}
use Rattle.nv_machine.proofs.CellChanges.{IsRemoval, Removal, hand_freed, is_removal, is_removed, lent_removal, on_step, removal, removal_on, removed, stored_times, clean_cell, clean_slot, is_clean, is_clean_on, clean_slot_on, clean_cell_on, lent_clean}
use Rattle.nv_machine.specs.Cleaning.{with_fresh, compacted_cell, unlinked, with_old_chain, with_unlinked}
use Rattle.nv_clean.specs.Plans.{unlinkable_of}
use Rattle.nv_cell.specs.Readers.{is_erased}
use Rattle.nv_log.specs.Chain.{gone_of, left_of}

-- how often a number stands in what is shared and in one hand
abbrev pub count : ℕ → Shared → HandState → ℕ
count n s h = times n (flat_map free_of s.lists) + times n (flat_map stored_in s.cells) + times n (held_in h)

held_times : (n : ℕ) (h : HandState)
    → times n (held_in h) ≡ times n (numbers_of h.blocks) + times n (numbers_of h.pages) + times n (numbers_of h.chain)
held_times n h = three_times n h.blocks h.pages h.chain

-- in a cell
stored : ℕ → CellState → ℕ
stored n cell = times n (stored_in cell)

-- ---- taking

-- a list that has no blocks where there is none
taken_times : (n wanted cpu : ℕ) (s : Shared)
    → times n (flat_map free_of (less_list cpu wanted s).lists) + times n (numbers_of (take wanted (list_at s cpu).blocks))
    ≡ times n (flat_map free_of s.lists)
taken_times n wanted cpu s =
    let less : FreeBlocks = record (list_at s cpu) { blocks = drop wanted (list_at s cpu).blocks } in
    let e = set_times free_of n s.lists cpu less no_list (λ past. none past) in
    omega (arith, e, cut_times n wanted (list_at s cpu).blocks) where
      dropped : (k : ℕ) → drop {A = BlockValue} k [] ≡ []
      dropped zero = refl
      dropped (suc k) = refl

      none : length s.lists ≤ cpu → times n (numbers_of (drop wanted (list_at s cpu).blocks)) ≡ 0
      none past =
          ap (λ (l : FreeBlocks). times n (numbers_of (drop wanted l.blocks))) (get_or_past s.lists cpu no_list past)
          ∙ ap (λ (l : List BlockValue). times n (numbers_of l)) (dropped wanted)

taken_more : (n : ℕ) (bs cs : List BlockValue) → times n (numbers_of (bs ++ cs)) ≡ times n (numbers_of bs) + times n (numbers_of cs)
taken_more n bs cs = times-blocks n bs cs

-- ---- giving

-- a list of no range takes nothing
takes_none : (b : BlockValue) → takes no_list b ≡ false
takes_none b = rw (le-leb 0 b.number (omega arith), le-ltb b.number 0 (omega arith)) refl

pub none_given : (bs : List BlockValue) → (after_giving no_list bs ≡ no_list) × (not_taken no_list bs ≡ bs)
none_given [] = (refl, refl)
none_given (b ∷ bs) =
    let more = none_given bs in (
      rw (takes_none b) more.0,
      rw (takes_none b) (ap (λ (l : List BlockValue). b ∷ l) more.1),
    )

pub given_all : (cpu : ℕ) (s : Shared) (h : HandState) → blocks_in (given cpu s h) ≡ not_taken (list_at s cpu) (blocks_in h)
given_all cpu s h = sym (kept_of-append (list_at s cpu) (h.blocks ++ h.pages) h.chain
    ∙ ap (λ (l : List BlockValue). l ++ not_taken (after_giving (list_at s cpu) (h.blocks ++ h.pages)) h.chain)
    (kept_of-append (list_at s cpu) h.blocks h.pages))

given_times : (n cpu : ℕ) (s : Shared) (h : HandState) → count n (with_given cpu h s) (given cpu s h) ≡ count n s h
given_times n cpu s h =
    let e = set_times free_of n s.lists cpu (after_giving (list_at s cpu) (blocks_in h)) no_list none in
    let kept = ap (λ (l : List BlockValue). times n (numbers_of l)) (given_all cpu s h) in
    omega (arith, e, kept, times-given n (list_at s cpu) (blocks_in h)) where
      none : length s.lists ≤ cpu → times n (numbers_of (after_giving (list_at s cpu) (blocks_in h)).blocks) ≡ 0
      none past =
          ap (λ (l : FreeBlocks). times n (numbers_of (after_giving l (blocks_in h)).blocks)) (get_or_past s.lists cpu no_list past)
          ∙ ap (λ (l : FreeBlocks). times n (numbers_of l.blocks)) (none_given (blocks_in h)).0

-- ---- ready: bytes alone change

-- ---- append: log pages and data blocks go to the cell

paged : (n : ℕ) (pages : List BlockValue) (cell : CellState)
    → times n (stored_in (with_log_pages pages cell)) ≡ times n (stored_in cell) + times n (numbers_of pages)
paged n [] cell = omega arith
paged n (b ∷ pages) cell =
    let one : CellState = record cell { chain = record cell.chain { blocks = cell.chain.blocks ++ b ∷ [] } } in
    omega (
      arith,
      paged n pages one,
      stored_times n cell,
      stored_times n one,
      times-blocks n cell.chain.blocks (b ∷ []),
      times-blocks n (b ∷ []) pages,
    )

some_slots : (bs : List BlockValue) → flat_map of_part (map Some bs) ≡ numbers_of bs
some_slots [] = refl
some_slots (b ∷ bs) = ap (λ (l : List ℕ). b.number ∷ l) (some_slots bs)

-- an item's slots have the blocks of its pages
slot_numbers : (item : Item) (bs : List BlockValue)
    → flat_map of_part (part_blocks item (blocks_for item bs)) ≡ numbers_of (blocks_for item bs)
slot_numbers (Write first run size) bs = some_slots (blocks_for (Write first run size) bs)
slot_numbers other bs = refl

flat_more : (xs ys : List (Option BlockValue)) → flat_map of_part (xs ++ ys) ≡ flat_map of_part xs ++ flat_map of_part ys
flat_more [] ys = refl
flat_more (None ∷ xs) ys = flat_more xs ys
flat_more (Some b ∷ xs) ys = ap (λ (l : List ℕ). b.number ∷ l) (flat_more xs ys)

one_appended : (n : ℕ) (e : Entry) (bs : List BlockValue) (cell : CellState)
    → times n (stored_in (appended e (blocks_for e.item bs) cell)) ≡ times n (stored_in cell) + times n (numbers_of (blocks_for e.item bs))
one_appended n e bs cell =
    let taken = blocks_for e.item bs in
    let parts = ap (times n) (flat_more cell.blocks (part_blocks e.item taken)) in
    let own = ap (times n) (slot_numbers e.item bs) in
    omega (
      arith,
      stored_times n cell,
      stored_times n (appended e taken cell),
      parts,
      own,
      times-append n (flat_map of_part cell.blocks) (flat_map of_part (part_blocks e.item taken)),
    )

appended_times : (n : ℕ) (entries : List Entry) (bs : List BlockValue) (cell : CellState)
    → times n (stored_in (with_entries entries bs cell)) + times n (numbers_of (blocks_left entries bs))
    ≡ times n (stored_in cell) + times n (numbers_of bs)
appended_times n [] bs cell = refl
appended_times n (e ∷ entries) bs cell =
    let k = length (item_blocks e.item) in
    let more = appended_times n entries (drop k bs) (appended e (blocks_for e.item bs) cell) in
    omega (arith, more, one_appended n e bs cell, cut_times n k bs)

append_times : (n ino pages : ℕ) (s : Shared) (h : HandState) (r : Running) → ino < length s.cells
    → count n (append_work ino pages s h r).shared (append_work ino pages s h r).hand ≡ count n s h
append_times n ino pages s h r inside =
    let more = with_log_pages (take pages h.pages) (cell_at s ino) in
    let new = with_entries (entries_for r ino) h.blocks more in
    let e = set_times stored_in n s.cells ino new no_cell (λ past. absurd (omega (arith, past, inside))) in
    omega (
      arith,
      e,
      appended_times n (entries_for r ino) h.blocks more,
      paged n (take pages h.pages) (cell_at s ino),
      cut_times n pages h.pages,
      held_times n h,
      held_times n (append_work ino pages s h r).hand,
    )

-- ---- a removal: what is set free goes to the hand

-- an erased cell's chain goes there too
erased_times : (n ino : ℕ) (cell : CellState) (h : HandState) → (is_erased cell ≡ true → flat_map of_part cell.blocks ≡ [])
    → times n (stored_in (erased cell)) + times n (held_in (with_erased ino cell h)) ≡ times n (stored_in cell) + times n (held_in h)
erased_times n ino cell h none = go (is_erased cell) refl where
  go : (b : Bool) → is_erased cell ≡ b
      → times n (stored_in (erased cell)) + times n (held_in (with_erased ino cell h)) ≡ times n (stored_in cell) + times n (held_in h)
  go true q =
      let parts = ap (times n) (none q) in
      let after : HandState = record h { chain = h.chain ++ cell.chain.blocks } in
      let all : times n (held_in after) ≡ times n (held_in h) + times n (numbers_of cell.chain.blocks) =
      omega (arith, held_times n after, held_times n h, times-blocks n h.chain cell.chain.blocks) in
      rw q (omega (arith, all, parts, stored_times n cell))
  go false q = rw q refl

-- where it erases a cell, no block is left in a part of it
abbrev pub LeavesNone : Removal → Type 0
LeavesNone x = is_erased x.cell ≡ true → flat_map of_part x.cell.blocks ≡ []

removal_times : (n : ℕ) (x : Removal) (s : Shared) (h : HandState) → IsRemoval s x → x.slot < length s.cells → LeavesNone x
    → count n (removed x s h).shared (removed x s h).hand ≡ count n s h
removal_times n x s h is inside none =
    let freed = hand_freed x h in
    let e = set_times stored_in n s.cells x.slot (erased x.cell) no_cell (λ past. absurd (omega (arith, past, inside))) in
    let one = is.times n in
    omega (
      arith,
      e,
      one,
      erased_times n x.slot x.cell freed none,
      held_times n h,
      held_times n freed,
      times-blocks n h.blocks x.freed,
    )

-- ---- every kind

-- what a kind needs to know: the cell that it is lent is there, and what it removes leaves no block in an erased cell
pub record CanCount (a : ℕ) (k : Next) (s : Shared) (h : HandState) (r : Running) : Type 0 where
  pub inside : (ino : ℕ) → (lent k (length s.lists) a r).cell ≡ Some ino → ino < length s.cells
  pub none : is_removal k ≡ true → LeavesNone (removal k s h r)
  pub cleans : is_clean k ≡ true → flat_map of_part (clean_cell k s h).blocks ≡ flat_map of_part (cell_at s (clean_slot k)).blocks

publish_times : (n ino : ℕ) (s : Shared) → ino < length s.cells
    → times n (flat_map stored_in (set s.cells ino (published (cell_at s ino)))) ≡ times n (flat_map stored_in s.cells)
publish_times n ino s inside =
    let e = set_times stored_in n s.cells ino (published (cell_at s ino)) no_cell (λ past. absurd (omega (arith, past, inside))) in
    omega (arith, e)

-- pages that stay and pages that go are all pages
parted_times : (n : ℕ) (stays : List Bool) (bs : List BlockValue)
    → times n (numbers_of (left_of stays bs)) + times n (numbers_of (gone_of stays bs)) ≡ times n (numbers_of bs)
parted_times n [] bs = omega arith
parted_times n (b ∷ stays) [] = omega arith
parted_times n (true ∷ stays) (x ∷ bs) =
    let one = times-cons n x.number in
    omega (arith, parted_times n stays bs, one (numbers_of bs), one (numbers_of (left_of stays bs)))
parted_times n (false ∷ stays) (x ∷ bs) =
    let one = times-cons n x.number in
    omega (arith, parted_times n stays bs, one (numbers_of bs), one (numbers_of (gone_of stays bs)))

-- a cell and a hand between which log pages move, where the parts keep their blocks
moved_times : (n ino : ℕ) (new : CellState) (s : Shared) (h after : HandState) → ino < length s.cells
    → flat_map of_part new.blocks ≡ flat_map of_part (cell_at s ino).blocks
    → times n (numbers_of new.chain.blocks) + times n (held_in after)
    ≡ times n (numbers_of (cell_at s ino).chain.blocks) + times n (held_in h) → count n (with_cell ino new s) after ≡ count n s h
moved_times n ino new s h after inside same moved =
    let parts = ap (times n) same in
    let e = set_times stored_in n s.cells ino new no_cell (λ past. absurd (omega (arith, past, inside))) in
    omega (arith, e, parts, stored_times n (cell_at s ino), stored_times n new, moved)

-- a cleaning moves log pages between the chain and the hand, where the parts keep their blocks
clean_times : (step : SnapshotOrCleanerStep) (n actor : ℕ) (s : Shared) (h : HandState) → is_clean_on step ≡ true
    → clean_slot_on step < length s.cells
    → flat_map of_part (clean_cell_on step s h).blocks ≡ flat_map of_part (cell_at s (clean_slot_on step)).blocks
    → count n (snapshot_or_cleaner_work step actor s h).shared (snapshot_or_cleaner_work step actor s h).hand ≡ count n s h
clean_times (Unlink ino) n actor s h is inside same =
    let cell = cell_at s ino in
    let stays = (unlinkable_of cell).stays in
    let gone = gone_of stays cell.chain.blocks in
    let after = with_unlinked cell h in
    moved_times n ino (unlinked cell) s h after inside same
    (omega (arith, parted_times n stays cell.chain.blocks, times-blocks n h.pages gone, held_times n h, held_times n after))
clean_times (Compact ino) n actor s h is inside same =
    let cell = cell_at s ino in
    let after = with_old_chain cell h in
    moved_times n ino (compacted_cell h cell) s h after inside same
    (omega (arith, times-blocks n h.chain cell.chain.blocks, held_times n h, held_times n after))
clean_times other n actor s h is inside same = absurd (false≢true is)

-- log pages go from a list to the hand
fresh_times : (n cpu wanted : ℕ) (s : Shared) (h : HandState)
    → count n (less_list cpu wanted s) (with_fresh cpu wanted s h) ≡ count n s h
fresh_times n cpu wanted s h =
    let taken = take wanted (list_at s cpu).blocks in
    let after = with_fresh cpu wanted s h in
    omega (arith, taken_times n wanted cpu s, taken_more n h.pages taken, held_times n h, held_times n after)

pub work_times : (k : Next) (n block actor : ℕ) (s : Shared) (h : HandState) (r : Running) → CanCount actor k s h r
    → count n (work k block actor s h r).shared (work k block actor s h r).hand ≡ count n s h
work_times Number n block actor s h r can =
    by_number (λ (t : Shared) (g : HandState). count n t g ≡ count n s h) s h (λ numbers ino. refl)
work_times (TakeBlocks asked) n block actor s h r can =
    let cpu = asked_list (length s.lists) actor asked in
    let taken = take r.wanted (list_at s cpu).blocks in
    let after : HandState = record h { blocks = h.blocks ++ taken } in
    omega (arith, taken_times n r.wanted cpu s, taken_more n h.blocks taken, held_times n h, held_times n after)
work_times (TakeLogPages asked) n block actor s h r can = fresh_times n (asked_list (length s.lists) actor asked) r.wanted s h
work_times Ready n block actor s h r can =
    let same = ap (times n) (filled_numbers (fresh_pages block (copies s) r.call) h.blocks) in
    omega (arith, same, held_times n h, held_times n (with_bytes block s r h))
work_times (Append place) n block actor s h r can =
    append_times n (slot_at (written_slots r) place) (pages_needed s r.plan (slot_at (written_slots r) place)) s h r
    (can.inside _ refl)
work_times (Publish place) n block actor s h r can =
    omega (arith, publish_times n (slot_at (written_slots r) place) s (can.inside _ refl))
work_times (Retire place) n block actor s h r can =
    removal_times n (removal (Retire place) s h r) s h (is_removed (Retire place) s h r refl) (can.inside _ refl) (can.none refl)
work_times (Give cpu) n block actor s h r can = given_times n cpu s h
work_times ReturnNumber n block actor s h r can =
    by_back (λ (t : Shared) (g : HandState). count n t g ≡ count n s h) s h (λ numbers ino. refl)
work_times (SnapshotOrCleaner step) n block actor s h r can =
    let k = SnapshotOrCleaner step in
    on_step (λ (t : Shared) (g : HandState). count n t g ≡ count n s h) step actor s h
    (λ is. removal_times n (removal_on step s h) s h (is_removed k s h r is)
    (can.inside _ (lent_removal k (length s.lists) actor s h r is)) (can.none is))
    (λ ino asked wanted is. fresh_times n (asked_list (length s.lists) actor asked) wanted s h)
    (λ is. clean_times step n actor s h is (can.inside _ (lent_clean k (length s.lists) actor r is)) (can.cleans is))
    (λ book owners. refl)
work_times other n block actor s h r can = refl
