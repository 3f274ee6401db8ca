-- The block of a page now, and the bytes of a file by its pages' blocks.
use Rattle.std.proofs.Common.{◌≡◌, ℕ, zero, suc, ◌+◌, ◌&&◌, Bool, true, false, not, cond, nat_lt, List, ◌++◌, length, take, drop, Option, Some, None, arith, refl, ap, sym, ◌∙◌, subst, slice_index_or}
use Rattle.std.specs.Prelude.{option_and_then}
use Rattle.std.specs.List.{flat_map, range_with_len}
use Rattle.std.specs.Option.{IfSome, option_map}
use Rattle.std.proofs.lemmas.Bool.{eq-eqb}
use Rattle.std.proofs.lemmas.List.{take-append-drop}
use Rattle.nv_alloc.specs.Block.{BlockValue, number_of}
use Rattle.nv_entry.specs.declared.item.Entry.{Entry}
use Rattle.nv_entry.specs.declared.part_ref.PartRef.{PartRef}
use Rattle.nv_entry.specs.Covered.{is_covered, key_at, part_total}
use Rattle.nv_entry.specs.Keys.{Key, PageKey, pages_for}
use Rattle.nv_entry.specs.Log.{IsLog}
use Rattle.nv_entry.specs.Node.{block_now, file_bytes, page_bytes, size_now}
use Rattle.nv_entry.specs.Refs.{scan_ref}
use Rattle.nv_findex.specs.declared.page_ref.PageRef.{PageRef}
use Rattle.nv_findex.specs.Pages.{ref_at}
use Rattle.nv_cell.specs.declared.mark.Mark.{Mark}
use Rattle.nv_cell.specs.declared.mark.Mark.TheVariants.{Current, Killed, Kept, Out}
use Rattle.nv_cell.specs.Cell.{AreSlotsSized, CellState, HasBlocks, HasMarks, IsCell, log_of, mark_or_fresh, page_block}
use Rattle.nv_cell.specs.Index.{IndexValue, page_part, ref_of}
use Rattle.nv_cell.specs.Marks.{is_current, is_there, mark_at}
use Rattle.nv_cell.specs.Numbers.{is_number, number}
use Rattle.nv_cell.specs.Pages.{AreBytesOf, block_at_page, own_bytes, own_page, page_now, pages_now, slot_bytes}
use Rattle.nv_cell.specs.Slots.{by_part, page_slot, slot, slot_total}
use Rattle.nv_cell.proofs.Numbers.{scan_key, scan_n, scan_names}
use Rattle.nv_cell.proofs.PagesNow.{block_scanned, front_block}
use Rattle.nv_cell.proofs.PartSlots.{scanned_slot}
use Rattle.nv_cell.proofs.Publishing.{scanned}
use Rattle.nv_cell.proofs.Slots.{part_of_slot, slot_is_part}
use Rattle.nv_cell.proofs.Tallies.{same_mark}

-- ---- the block of a page

current_there : (m : Mark) → is_current m ≡ true → is_there m ≡ true
current_there Current h = refl
current_there Killed h = cc
current_there Kept h = cc
current_there Out h = cc

low_and : (a b : Bool) → true ≡ (a && not b) → b ≡ false
low_and true true h = cc
low_and true false h = refl
low_and false b h = cc

take_drop : (es : List Entry) (t : ℕ) → take t es ++ drop t es ≡ es
take_drop es t = take-append-drop t es

-- the part that the scan finds is there
scanned_there : (cell : CellState) (key : Key) (n : ℕ) → HasMarks cell → scan_n cell.block (log_of cell) key ≡ Some n
    → is_there (mark_or_fresh cell.marks n) ≡ true
scanned_there cell key n marks q =
    let s = scan_key cell.block (log_of cell) key n q in
    let found : is_number (scan_n cell.block (log_of cell) (key_at (log_of cell) n)) n ≡ true =
    ap (λ (k : Key). is_number (scan_n cell.block (log_of cell) k) n) s.1 ∙ ap (λ (o : Option ℕ). is_number o n) q ∙ eq-eqb n n refl in
    let uncovered : is_covered cell.block (log_of cell) n ≡ false =
    low_and (nat_lt n (part_total (log_of cell))) (is_covered cell.block (log_of cell) n)
    (sym found ∙ scan_names cell.block (log_of cell) n) in
    let current : is_current (mark_at cell.marks n) ≡ true = marks.current n s.0 ∙ ap not uncovered in
    ap is_there (same_mark cell.marks n (omega (arith, s.0, marks.len))) ∙ current_there (mark_at cell.marks n) current

-- the block of a page is the one that the cell has for its part
block_is : (cell : CellState) (page n : ℕ) → HasMarks cell → HasBlocks cell → scan_n cell.block (log_of cell) (PageKey page) ≡ Some n
    → page_block cell.block (log_of cell) n ≡ option_map number_of (slice_index_or cell.blocks n None)
block_is cell page n marks blocks q =
    let es = cell.chain.entries in
    let low = (scan_key cell.block (log_of cell) (PageKey page) n q).0 in
    let whole : log_of cell ++ drop cell.chain.tail es ≡ es = take_drop es cell.chain.tail in
    sym (front_block cell.block (log_of cell) (drop cell.chain.tail es) n low)
    ∙ ap (λ (xs : List Entry). page_block cell.block xs n) whole
    ∙ sym (blocks.numbers n ∙ ap (λ (b : Bool). cond b (page_block cell.block es n) None) (scanned_there cell (PageKey page) n marks q))

slot_page : (bytes : ℕ → List ℕ) (block : ℕ) (slot : Option BlockValue) → ((b : BlockValue) → slot ≡ Some b → bytes b.number ≡ b.bytes)
    → page_bytes bytes block (option_map number_of slot) ≡ slot_bytes block slot
slot_page bytes block None h = refl
slot_page bytes block (Some b) h = h b refl

-- the block of a part by its number
abbrev block_by : List (Option BlockValue) → Option ℕ → Option BlockValue
block_by slots o = option_and_then (λ n. slice_index_or slots n None) o

-- the block of a page is the one in the slot of its part
pub page_in_slot : (cell : CellState) (slots : List (Option BlockValue)) (index : IndexValue) (page : ℕ)
    → cell.blocks ≡ by_part cell.chain.entries slots → length slots ≡ slot_total cell.chain.entries → IsLog cell.chain.entries
    → ((key : Key) → ref_of index key ≡ scan_ref cell.block (log_of cell) key)
    → block_by slots (page_slot cell.chain.entries index page) ≡ block_at_page cell page
page_in_slot cell slots index page blocks len is refs = go (ref_at index.pages.pages page) refl where
  es : List Entry
  es = cell.chain.entries

  own : Option PartRef → Option BlockValue
  own o = option_and_then (λ r. slice_index_or cell.blocks (number es r) None) o

  go : (o : Option PageRef) → ref_at index.pages.pages page ≡ o
      → block_by slots (option_map (slot es) (option_map page_part o)) ≡ block_at_page cell page
  go None q = ap own (sym (ap (option_map page_part) q) ∙ refs (PageKey page))
  go (Some at) q =
      let found : scan_ref cell.block (log_of cell) (PageKey page) ≡ Some (page_part at) =
      sym (refs (PageKey page)) ∙ ap (option_map page_part) q in
      scanned_slot cell.block es cell.chain.tail (PageKey page) (page_part at) slots is found (omega arith) len
      ∙ ap (λ bs. slice_index_or bs (number es (page_part at)) None) (sym blocks) ∙ ap own (sym found)

-- the part that holds a page, by number
abbrev scanned_page : CellState → ℕ → Option ℕ
scanned_page cell page = scan_n cell.block (log_of cell) (PageKey page)

at_scanned : (cell : CellState) (page : ℕ) → IsLog cell.chain.entries
    → block_at_page cell page ≡ block_by cell.blocks (scanned_page cell page)
at_scanned cell page is =
    go (scan_ref cell.block (log_of cell) (PageKey page))
    ∙ ap (block_by cell.blocks) (scanned cell.block cell.chain.entries cell.chain.tail (PageKey page) is)
  where
    go : (o : Option PartRef) → option_and_then (λ r. slice_index_or cell.blocks (number cell.chain.entries r) None) o
        ≡ block_by cell.blocks (option_map (number cell.chain.entries) o)
    go None = refl
    go (Some r) = refl

pub page_number_is : (cell : CellState) (page : ℕ) → IsLog cell.chain.entries → HasMarks cell → HasBlocks cell
    → option_map number_of (block_at_page cell page) ≡ block_now cell.block (log_of cell) page
page_number_is cell page is marks blocks =
    ap (option_map number_of) (at_scanned cell page is) ∙ go (scanned_page cell page) refl
    ∙ sym (block_scanned cell.block (log_of cell) (PageKey page))
  where
    go : (o : Option ℕ) → scanned_page cell page ≡ o
        → option_map number_of (block_by cell.blocks o) ≡ option_and_then (page_block cell.block (log_of cell)) o
    go None q = refl
    go (Some n) q = sym (block_is cell page n marks blocks q)

slot_sized : (block : ℕ) (slots : List (Option BlockValue)) (o : Option ℕ) → AreSlotsSized block slots
    → IfSome (block_by slots o) (λ b. length b.bytes ≡ block)
slot_sized block slots None sized = tt
slot_sized block slots (Some n) sized = go (slice_index_or slots n None) refl where
  go : (slot : Option BlockValue) → slice_index_or slots n None ≡ slot → IfSome slot (λ b. length b.bytes ≡ block)
  go None q = tt
  go (Some b) q = sized n b q

pub page_sized : (cell : CellState) (page : ℕ) → IsLog cell.chain.entries → AreSlotsSized cell.block cell.blocks
    → IfSome (block_at_page cell page) (λ b. length b.bytes ≡ cell.block)
page_sized cell page is sized =
    subst (λ o. IfSome o (λ b. length b.bytes ≡ cell.block)) (sym (at_scanned cell page is))
    (slot_sized cell.block cell.blocks (scanned_page cell page) sized)

-- ---- the bytes of a file

-- the bytes of a page are those of its block
pub page_is : (cell : CellState) (bytes : ℕ → List ℕ) (page : ℕ) → IsCell cell → AreBytesOf cell bytes
    → page_bytes bytes cell.block (block_now cell.block (log_of cell) page) ≡ own_page cell page
page_is cell bytes page is are =
    ap (page_bytes bytes cell.block) (sym (page_number_is cell page is.chain.rising is.marks is.blocks))
    ∙ slot_page bytes cell.block (block_at_page cell page)
    (λ b q. own (scanned_page cell page) b (sym (at_scanned cell page is.chain.rising) ∙ q))
  where
    own : (o : Option ℕ) (b : BlockValue) → block_by cell.blocks o ≡ Some b → bytes b.number ≡ b.bytes
    own None b q = cc
    own (Some n) b q = are n b q

flat_same : (f g : ℕ → List ℕ) (a n : ℕ) → ((p : ℕ) → f p ≡ g p) → flat_map f (range_with_len a n) ≡ flat_map g (range_with_len a n)
flat_same f g a zero same = refl
flat_same f g a (suc n) same = ap (λ (xs : List ℕ). xs ++ flat_map f (range_with_len (a + 1) n)) (same a)
    ∙ ap (λ (xs : List ℕ). g a ++ xs) (flat_same f g (a + 1) n same)

-- the bytes of a file are those of its pages' blocks
pub file_is : (cell : CellState) (bytes : ℕ → List ℕ) → IsCell cell → AreBytesOf cell bytes
    → own_bytes cell ≡ file_bytes bytes cell.block (log_of cell)
file_is cell bytes is are =
    let size = size_now cell.block (log_of cell) in
    ap (take size)
    (flat_same (own_page cell) (λ page. page_bytes bytes cell.block (block_now cell.block (log_of cell) page)) 0 (pages_for cell.block size)
    (λ page. sym (page_is cell bytes page is are)))

-- the pages that an index names are the file's
pub pages_are : (cell : CellState) (slots : List (Option BlockValue)) (index : IndexValue) (count : ℕ)
    → cell.blocks ≡ by_part cell.chain.entries slots → length slots ≡ slot_total cell.chain.entries → IsLog cell.chain.entries
    → ((key : Key) → ref_of index key ≡ scan_ref cell.block (log_of cell) key)
    → pages_now cell.block slots (page_slot cell.chain.entries index) count ≡ flat_map (own_page cell) (range_with_len 0 count)
pages_are cell slots index count blocks len is refs =
    flat_same (page_now cell.block slots (page_slot cell.chain.entries index)) (own_page cell) 0 count
    (λ page. ap (slot_bytes cell.block) (page_in_slot cell slots index page blocks len is refs))

-- the block in each slot has as many bytes as it should
pub slots_sized : (block : ℕ) (es : List Entry) (slots : List (Option BlockValue)) → length slots ≡ slot_total es
    → AreSlotsSized block (by_part es slots) → AreSlotsSized block slots
slots_sized block es slots len sized k b is = sized (part_of_slot es k) b (sym (slot_is_part es slots k len) ∙ is)
