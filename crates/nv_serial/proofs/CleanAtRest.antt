-- Where nothing runs, what the walks of the cleaners find in a cell, and what their clean steps leave of it, is what the world
-- with numbers says.
use Rattle.std.proofs.Common.{◌≡◌, ℕ, zero, suc, ◌-◌, ◌*◌, ◌<◌, ◌≤◌, ◌∙◌, Bool, true, false, List, [], ap, arith, if◌then◌else◌, length, map, nat_le, nat_lt, refl, slice_set, sym}
use Rattle.std.specs.Int.{div_ceil}
use Rattle.std.proofs.lemmas.Bool.{false≢true, le-ltb, lt-ltb, true≢false}
use Rattle.std.proofs.lemmas.List.{map-set}
use Rattle.nv_alloc.specs.Block.{numbers_of}
use Rattle.nv_base.specs.declared.fault.Fault.TheVariants.{Stale}
use Rattle.nv_base.specs.declared.geometry.GeometryNumbers.{GeometryNumbers}
use Rattle.nv_book.specs.declared.record.Record.{Record}
use Rattle.nv_calls.specs.declared.answer.Answer.{Answer}
use Rattle.nv_calls.specs.declared.answer.Answer.TheVariants as answers
use Rattle.nv_cell.specs.Cell.{CellState, IsCell, log_of}
use Rattle.nv_cell.specs.Readers.{has_entry, has_inode}
use Rattle.nv_cell.specs.Retained.{AreMarksOf}
use Rattle.nv_cell.proofs.ValuesNow.{IsLog-take}
use Rattle.nv_clean.specs.Cleaned.{answer_of}
use Rattle.nv_clean.specs.Plans as plans
use Rattle.nv_clean.specs.Plans.{wanted_of}
use Rattle.nv_clean.proofs.Cleanings.{entries_are, entries_flagged, pages_are}
use Rattle.nv_entry.specs.Clean.{entries_stay, pages_stay, select}
use Rattle.nv_entry.specs.Held.{Retention}
use Rattle.nv_entry.specs.declared.item.Entry.{Entry}
use Rattle.nv_log.specs.Chain.{ChainState, IsChain, left_of, log_pages, pages_of, parts_from, with_entries_left}
use Rattle.nv_log.proofs.Chains.{has_pages_left}
use Rattle.nv_log.proofs.Flags.{left_of-select}
use Rattle.nv_log.proofs.Parts.{length-parts}
use Rattle.nv_machine.specs.CleanerAnswers.{cleaner}
use Rattle.nv_machine.specs.Cleaning.{compacted_cell, is_thorough, unlinked}
use Rattle.nv_machine.specs.Held.{retention_at}
use Rattle.nv_machine.specs.Pages.{AreOnPages}
use Rattle.nv_machine.specs.Starts.{IsStart}
use Rattle.nv_machine.specs.World.{Auto, Done, Fast, HandState, Manner, Thorough, World, cell_at}
use Rattle.nv_machine.proofs.EveryWorld.{all_listed, all_marked}
use Rattle.nv_machine.proofs.MarksInUse.{slot_marks}
use Rattle.nv_serial.specs.Cleaning.{auto, cleaned, entries_staying, fast, if_inode, pages_filled, pages_staying, thorough, thorough_if, with_slot_pages}
use Rattle.nv_serial.specs.Free.{row_of}
use Rattle.nv_serial.specs.LogPages.{Page, entries_in, fresh, with_all}
use Rattle.nv_serial.specs.OneCall.{serial_call}
use Rattle.nv_serial.specs.Serial.{NumberedSlot, Outcome, Serial, keepers, log_in, refused, slot_of}
use Rattle.nv_serial.specs.Shown.{pages_told, slot_told}
use Rattle.nv_serial.proofs.AtRestLogs.{keepers_are, log_is, past_cells, shown_entries, slot_is, told_by, whole_log}
use Rattle.nv_serial.proofs.AtRestReports.{told_many}
use Rattle.nv_serial.proofs.CleanPages.{on_pages, told_packed, told_staying}

-- some entries go, or none
abbrev pub some_go : ℕ → Bool
some_go zero = false
some_go (suc n) = true

fewer : (a b n : ℕ) → b - a ≡ n → nat_lt a b ≡ some_go n
fewer a b zero is = le-ltb a b (omega (arith, is))
fewer a b (suc n) is = lt-ltb a b (omega (arith, is))

-- a chain stands on its pages
on_its_pages : (chain : ChainState) → IsChain chain → AreOnPages chain.page chain
on_its_pages chain is = record { size = refl; each = is.paged; parted = is.parted }

module _ (g : GeometryNumbers) (w : World) (rs : List Record) (is : IsStart g w rs) (ino : ℕ) (lt : ino < g.inodes) where
  abbrev pub s : Serial
  s = told_by g w rs

  abbrev pub cell : CellState
  cell = cell_at w.shared ino

  a_cell : IsCell cell
  a_cell = is.cells ino lt

  marks : AreMarksOf (retention_at w ino) cell
  marks =
      slot_marks w rs (all_listed g w rs [] is) (all_marked g w rs [] is) ino
      (IsLog-take cell.chain.tail cell.chain.entries a_cell.chain.rising)

  pub inode_is : has_inode cell ≡ has_entry (log_in s ino)
  inode_is = sym (ap has_entry (log_is g w rs is ino))

  -- ---- entry by entry

  kept_is : left_of (plans.entries_staying cell) cell.chain.entries ≡ entries_staying s ino
  kept_is =
      let stays = plans.entries_staying cell in
      let whole = whole_log g w rs is ino in
      ap (left_of stays) (sym whole)
      ∙ left_of-select stays (log_of cell) (entries_flagged cell a_cell ∙ is.tails ino ∙ ap (λ (es : List Entry). length es) (sym whole))
      ∙ ap (λ (flags : List Bool). select flags (log_of cell)) (entries_are cell a_cell (retention_at w ino) marks)
      ∙ ap (λ (log : List Entry). select (entries_stay (retention_at w ino) [] log) log) (sym (log_is g w rs is ino))
      ∙ ap (λ (r : Retention). select (entries_stay r [] (log_in s ino)) (log_in s ino)) (sym (keepers_are g w rs is ino lt))

  pub entries_is : (wanted_of cell).entries ≡ length (entries_staying s ino)
  entries_is = ap (λ (es : List Entry). length es) kept_is

  pub pages_is : (wanted_of cell).pages ≡ pages_filled s ino
  pages_is = ap (λ (n : ℕ). div_ceil n cell.chain.page) entries_is ∙ ap (div_ceil (length (entries_staying s ino))) (is.pages ino lt).size

  pub log_many : length cell.chain.entries ≡ length (log_in s ino)
  log_many = ap (λ (es : List Entry). length es) (sym (whole_log g w rs is ino) ∙ sym (log_is g w rs is ino))

  pub dropped_is : (wanted_of cell).dropped ≡ length (log_in s ino) - length (entries_staying s ino)
  dropped_is = ap (λ (n : ℕ). length cell.chain.entries - n) entries_is ∙ ap (λ (n : ℕ). n - length (entries_staying s ino)) log_many

  -- ---- what a clean step leaves of the slot

  pub compact_told : (h : HandState) → length h.pages ≡ pages_filled s ino
      → slot_told (compacted_cell h cell)
      ≡ record (slot_of s ino) { pages = with_all g.page (entries_staying s ino) (fresh (numbers_of h.pages)) }
  compact_told h many =
      let left = left_of (plans.entries_staying cell) cell.chain.entries in
      let size : cell.chain.page ≡ g.page = (is.pages ino lt).size in
      let count : length h.pages ≡ div_ceil (length left) cell.chain.page = many ∙ sym pages_is in
      let packed = told_packed cell.chain.page (let least = a_cell.chain.least in omega (arith, least)) h.pages left count in
      let pages = packed ∙ ap (λ (n : ℕ). with_all n left (fresh (numbers_of h.pages))) size
      ∙ ap (λ (es : List Entry). with_all g.page es (fresh (numbers_of h.pages))) kept_is in
      let generation = ap (λ (slot : NumberedSlot). slot.generation) (sym (slot_is g w rs is ino)) in
      λ i. record { generation = generation i; pages = pages i }

  pub unlink_told : slot_told (unlinked cell) ≡ record (slot_of s ino) { pages = pages_staying s ino }
  unlink_told =
      let stays = plans.pages_staying cell in
      let chain = cell.chain in
      let parts : List (List Entry) = pages_of chain in
      let by : Retention = retention_at w ino in
      let whole : log_pages chain ≡ parts = ap (parts_from 0 chain.ends) (whole_log g w rs is ino) in
      let flags : stays ≡ pages_stay by [] parts = pages_are cell a_cell by marks ∙ ap (pages_stay by []) whole in
      let few = length-parts 0 chain.ends chain.entries in
      let paged = a_cell.chain.paged in
      let pages =
      ap (pages_told (left_of stays chain.blocks))
      ((has_pages_left stays chain (with_entries_left stays chain) (left_of stays chain.blocks) a_cell.chain refl refl).keeps.pages_are)
      ∙ ap (λ (fs : List Bool). pages_told (left_of fs chain.blocks) (left_of fs parts)) flags
      ∙ sym (told_staying by [] chain.blocks parts (omega (arith, few, paged)))
      ∙ ap (λ (r : Retention). select (pages_stay r [] (on_pages (slot_told cell).pages)) (slot_told cell).pages) (sym (keepers_are g w rs is ino lt))
      ∙ ap (λ (slot : NumberedSlot). select (pages_stay (keepers s ino) [] (on_pages slot.pages)) slot.pages) (sym (slot_is g w rs is ino)) in
      let generation = ap (λ (slot : NumberedSlot). slot.generation) (sym (slot_is g w rs is ino)) in
      λ i. record { generation = generation i; pages = pages i }

  -- ---- what the call is told, and the world behind it

  answer_by : (thorough : Bool) (m n k l : ℕ) → m ≡ n → k ≡ l → answers.Cleaned thorough m k ≡ answers.Cleaned thorough n l
  answer_by thorough m n k l e f = λ i. answers.Cleaned thorough (e i) (f i)

  module _ (way : Bool) (new : CellState) (pages : List Page) (chain : IsChain new.chain)
      (slot : slot_told new ≡ record (slot_of s ino) { pages = pages }) where
    its_pages : (slot_told new).pages ≡ pages
    its_pages = ap (λ (x : NumberedSlot). x.pages) slot

    pub reply_told : let c = answer_of way cell new in Done (answers.Cleaned c.thorough c.entries c.pages) ≡ (cleaned way s ino pages).reply
    reply_told =
        let entries : length new.chain.entries ≡ length (entries_in pages) =
        ap (λ (es : List Entry). length es) (sym (shown_entries new.chain.page new.chain (on_its_pages new.chain chain)))
        ∙ ap (λ (ps : List Page). length (entries_in ps)) its_pages in
        let many : length new.chain.blocks ≡ length pages =
        sym (told_many new.chain.blocks (pages_of new.chain)) ∙ ap (λ (ps : List Page). length ps) its_pages in
        let had : length cell.chain.blocks ≡ length (slot_of s ino).pages =
        sym (told_many cell.chain.blocks (pages_of cell.chain)) ∙ ap (λ (x : NumberedSlot). length x.pages) (sym (slot_is g w rs is ino)) in
        ap (λ (a : Answer). Done a) (answer_by way _ _ _ _
        (ap (λ (n : ℕ). n - length new.chain.entries) log_many ∙ ap (λ (n : ℕ). length (log_in s ino) - n) entries)
        (ap (λ (n : ℕ). n - length new.chain.blocks) had ∙ ap (λ (n : ℕ). length (slot_of s ino).pages - n) many))

    pub world_told : record s { slots = map slot_told (slice_set w.shared.cells ino new) } ≡ with_slot_pages s ino pages
    world_told =
        ap (λ (slots : List NumberedSlot). let t : Serial = record s { slots = slots } in t)
        (map-set slot_told w.shared.cells ino new ∙ ap (slice_set s.slots ino) slot)

-- ---- which cleaning it is

module _ (g : GeometryNumbers) (w : World) (rs : List Record) (is : IsStart g w rs) (actor ino : ℕ) where
  abbrev pub chosen : Manner → Outcome
  chosen Fast = fast (told_by g w rs) ino
  chosen Thorough = thorough (told_by g w rs) actor ino
  chosen Auto = auto (told_by g w rs) actor ino

  pub call_is : (m : Manner) → actor < g.actors
      → serial_call (told_by g w rs) actor (cleaner m ino) ≡ if_inode (told_by g w rs) ino (chosen m)
  call_is Fast there = rw (lt-ltb actor g.actors there) refl
  call_is Thorough there = rw (lt-ltb actor g.actors there) refl
  call_is Auto there = rw (lt-ltb actor g.actors there) refl

  -- a number without a slot is refused
  pub none_past : (m : Manner) → actor < g.actors → g.inodes ≤ ino
      → serial_call (told_by g w rs) actor (cleaner m ino) ≡ refused Stale (told_by g w rs)
  none_past m there past =
      call_is m there
      ∙ ap (λ (b : Bool). if b then chosen m else refused Stale (told_by g w rs))
      (ap has_entry (log_is g w rs is ino) ∙ ap (λ (c : CellState). has_inode c) (past_cells g w rs is ino past))

  module _ (lt : ino < g.inodes) where
    choice_is : is_thorough Auto (cell_at w.shared ino)
        ≡ nat_lt (2 * length (entries_staying (told_by g w rs) ino)) (length (log_in (told_by g w rs) ino))
    choice_is =
        ap (λ (n : ℕ). nat_lt (2 * n) (length (cell_at w.shared ino).chain.entries)) (entries_is g w rs is ino lt)
        ∙ ap (nat_lt (2 * length (entries_staying (told_by g w rs) ino))) (log_many g w rs is ino lt)

    pub chosen_is : (m : Manner) (b : Bool) → is_thorough m (cell_at w.shared ino) ≡ b
        → chosen m ≡ (if b then thorough (told_by g w rs) actor ino else fast (told_by g w rs) ino)
    chosen_is Fast true e = absurd (false≢true e)
    chosen_is Fast false e = refl
    chosen_is Thorough true e = refl
    chosen_is Thorough false e = absurd (true≢false e)
    chosen_is Auto b e =
        ap (λ (x : Bool). if x then thorough (told_by g w rs) actor ino else fast (told_by g w rs) ino) (sym choice_is ∙ e)

    -- and so is a slot without an inode
    pub by_inode : (m : Manner) (b : Bool) → actor < g.actors → has_inode (cell_at w.shared ino) ≡ b
        → serial_call (told_by g w rs) actor (cleaner m ino) ≡ (if b then chosen m else refused Stale (told_by g w rs))
    by_inode m b there e =
        call_is m there
        ∙ ap (λ (x : Bool). if x then chosen m else refused Stale (told_by g w rs)) (sym (inode_is g w rs is ino lt) ∙ e)

    -- entry by entry, some go or none
    pub by_drop : (n : ℕ) → (wanted_of (cell_at w.shared ino)).dropped ≡ n
        → thorough (told_by g w rs) actor ino
        ≡ thorough_if (some_go n) (nat_le (pages_filled (told_by g w rs) ino) (length (row_of (told_by g w rs) actor)))
        (told_by g w rs) actor ino
    by_drop n e =
        ap (λ (b : Bool). thorough_if b (nat_le (pages_filled (told_by g w rs) ino) (length (row_of (told_by g w rs) actor)))
        (told_by g w rs) actor ino)
        (fewer (length (entries_staying (told_by g w rs) ino)) (length (log_in (told_by g w rs) ino)) n
        (sym (dropped_is g w rs is ino lt) ∙ e))
