-- The blocks of a cell with one more entry, past the tail.
use Rattle.std.proofs.Common.{◌≡◌, ℕ, zero, suc, ◌+◌, ◌-◌, ◌<◌, ◌≤◌, Bool, true, false, cond, min, nat_lt, nat_le, List, [], ◌∷◌, ◌++◌, length, length-append, map, take, drop, replicate, Option, Some, None, arith, refl, ap, sym, ◌∙◌, slice_index_or, inl, inr}
use Rattle.std.specs.Prelude.{option_and_then, option_to_list, slice_get}
use Rattle.std.specs.List.{range_with_len}
use Rattle.std.specs.Option.{option_map}
use Rattle.std.proofs.lemmas.Bool.{cases_lt, lt-ltb, le-ltb, le-leb}
use Rattle.std.proofs.lemmas.List.{get_or_append_left, get_or-append_right, get_or_past, length-map, take-append-le}
use Rattle.std.proofs.lemmas.List.FromFn.{get_or-map-range_with_len, get_or-range_with_len, length-map-range_with_len, length-range_with_len}
use Rattle.nv_alloc.specs.Block.{AreSized, BlockValue, number_of, numbers_of}
use Rattle.nv_base.specs.Names.{same_name}
use Rattle.nv_base.specs.declared.limits.TheConstants.{FILE_PAGES}
use Rattle.nv_entry.specs.declared.item.Entry.{Entry}
use Rattle.nv_entry.specs.declared.item.BlockRun.{BlockRun}
use Rattle.nv_entry.specs.declared.item.Item.{Item}
use Rattle.nv_entry.specs.declared.item.Item.TheVariants.{Init, Write, SetSize, SetMode, Bind, Unbind, Gone}
use Rattle.nv_entry.specs.declared.key.Datum.TheVariants as datum
use Rattle.nv_entry.specs.declared.key.Setting.{Setting}
use Rattle.nv_entry.specs.declared.key.Setting.TheVariants.{Untouched, Absent, Present}
use Rattle.nv_entry.specs.declared.part.Part.TheVariants as part
use Rattle.nv_entry.specs.Blocks.{item_blocks}
use Rattle.nv_entry.specs.Covered.{part_count, part_total}
use Rattle.nv_entry.specs.Data.{block_in}
use Rattle.nv_entry.specs.Keys.{Key, KindKey, ModeKey, SizeKey, NameKey, PageKey, in_run, is_page, is_past, key_of, parts_of, sets}
use Rattle.nv_entry.specs.Log.{value_of}
use Rattle.nv_cell.specs.declared.mark.Mark.TheVariants.{Current}
use Rattle.nv_cell.specs.Append.{IsWithinFile, appended, part_blocks}
use Rattle.nv_cell.specs.Cell.{CellState, HasBlocks, mark_or_fresh, page_block}
use Rattle.nv_cell.specs.Marks.{is_there}
use Rattle.nv_cell.proofs.Numbers.{total_append}
use Rattle.nv_cell.proofs.PagesNow.{front_block}

-- ---- the blocks of one entry's parts

abbrev pub block_of : Setting → Option ℕ
block_of s = option_and_then block_in (value_of s)

chosen : (b : Bool) (s : Setting) → block_of s ≡ None → block_of (cond b s Untouched) ≡ None
chosen true s h = h
chosen false s h = refl

abbrev pub writes : Item → Bool
writes (Write first run size) = true
writes item = false

-- only pages have blocks
pub no_block : (block : ℕ) (item : Item) (key : Key) → writes item ≡ false → block_of (sets block item key) ≡ None
no_block block (Init kind mode) KindKey h = refl
no_block block (Init kind mode) ModeKey h = refl
no_block block (Init kind mode) SizeKey h = refl
no_block block (Init kind mode) (NameKey name) h = refl
no_block block (Init kind mode) (PageKey page) h = refl
no_block block (Write first run size) key h = cc
no_block block (SetSize size) KindKey h = refl
no_block block (SetSize size) ModeKey h = refl
no_block block (SetSize size) SizeKey h = refl
no_block block (SetSize size) (NameKey name) h = refl
no_block block (SetSize size) (PageKey page) h = chosen (is_past block size page) Absent refl
no_block block (SetMode mode) KindKey h = refl
no_block block (SetMode mode) ModeKey h = refl
no_block block (SetMode mode) SizeKey h = refl
no_block block (SetMode mode) (NameKey name) h = refl
no_block block (SetMode mode) (PageKey page) h = refl
no_block block (Bind name to) KindKey h = refl
no_block block (Bind name to) ModeKey h = refl
no_block block (Bind name to) SizeKey h = refl
no_block block (Bind name to) (NameKey other) h = chosen (same_name name other) (Present (datum.Node to)) refl
no_block block (Bind name to) (PageKey page) h = refl
no_block block (Unbind name) KindKey h = refl
no_block block (Unbind name) ModeKey h = refl
no_block block (Unbind name) SizeKey h = refl
no_block block (Unbind name) (NameKey other) h = chosen (same_name name other) Absent refl
no_block block (Unbind name) (PageKey page) h = refl
no_block block Gone KindKey h = refl
no_block block Gone ModeKey h = refl
no_block block Gone SizeKey h = refl
no_block block Gone (NameKey name) h = refl
no_block block Gone (PageKey page) h = chosen (is_page page) Absent refl

no_slot : (n m : ℕ) → slice_index_or (replicate {A = Option BlockValue} n None) m None ≡ None
no_slot zero m = refl
no_slot (suc n) zero = refl
no_slot (suc n) (suc m) = no_slot n m

pub length_none : (n : ℕ) → length (replicate {A = Option BlockValue} n None) ≡ n
length_none zero = refl
length_none (suc n) = ap suc (length_none n)

numbered : (bs : List BlockValue) (k : ℕ) → k < length bs
    → option_map number_of (slice_index_or (map Some bs) k None) ≡ Some (slice_index_or (numbers_of bs) k 0)
numbered [] k lt = absurd (omega arith)
numbered (b ∷ bs) zero lt = refl
numbered (b ∷ bs) (suc k) lt = numbered bs k (omega (arith, lt))

-- the part at a place of an item: its key, and the block that the item sets it to
abbrev own_key : Item → ℕ → Key
own_key item m = cond (nat_lt m (length (parts_of item))) (key_of item (slice_index_or (parts_of item) m part.Kind)) KindKey

abbrev own_block : ℕ → Item → ℕ → Option ℕ
own_block block item m = cond (nat_lt m (length (parts_of item))) (block_of (sets block item (own_key item m))) None

-- an item without pages
bare : (block : ℕ) (item : Item) (m : ℕ) → writes item ≡ false
    → option_map number_of (slice_index_or (replicate (length (parts_of item)) None) m None) ≡ own_block block item m
bare block item m h = rw (no_slot (length (parts_of item)) m) (go (nat_lt m (length (parts_of item))) (own_key item m)) where
  go : (b : Bool) (key : Key) → None ≡ cond b (block_of (sets block item key)) None
  go true key = sym (no_block block item key h)
  go false key = refl

all_pages : (first : ℕ) (run : BlockRun) → first + run.len ≤ FILE_PAGES → min run.len (FILE_PAGES - first) ≡ run.len
all_pages first run h = omega (arith, h)

pub length_parts : (first size : ℕ) (run : BlockRun) → first + run.len ≤ FILE_PAGES → length (parts_of (Write first run size)) ≡ suc run.len
length_parts first size run h =
    ap suc (length-map-range_with_len part.Page first (min run.len (FILE_PAGES - first)) ∙ all_pages first run h)

page_at : (first size k : ℕ) (run : BlockRun) → first + run.len ≤ FILE_PAGES → k < run.len
    → slice_index_or (parts_of (Write first run size)) (suc k) part.Kind ≡ part.Page (first + k)
page_at first size k run h lt =
    get_or-map-range_with_len part.Page first (min run.len (FILE_PAGES - first)) k (first + k) part.Kind
    (omega (arith, all_pages first run h, lt)) refl

in_file : (first k : ℕ) (run : BlockRun) → first + run.len ≤ FILE_PAGES → k < run.len → in_run first run (first + k) ≡ true
in_file first k run h lt =
    let a : nat_le first (first + k) ≡ true = le-leb first (first + k) (omega arith) in
    let b : nat_lt (first + k) (first + run.len) ≡ true = lt-ltb (first + k) (first + run.len) (omega (arith, lt)) in
    let d : nat_lt (first + k) FILE_PAGES ≡ true = lt-ltb (first + k) FILE_PAGES (omega (arith, lt, h)) in
    rw (a, b, d) refl

written : (block first size k : ℕ) (run : BlockRun) (bs : List BlockValue) → first + run.len ≤ FILE_PAGES
    → numbers_of bs ≡ range_with_len run.start run.len → k < run.len
    → option_map number_of (slice_index_or (map Some bs) k None) ≡ own_block block (Write first run size) (suc k)
written block first size k run bs within nums lt =
    let len : length bs ≡ run.len = sym (length-map bs number_of) ∙ ap length nums ∙ length-range_with_len run.start run.len in
    let low : nat_lt (suc k) (length (parts_of (Write first run size))) ≡ true =
    lt-ltb (suc k) (length (parts_of (Write first run size))) (omega (arith, length_parts first size run within, lt)) in
    let back : first + k - first ≡ k = omega arith in
    numbered bs k (omega (arith, len, lt))
    ∙ ap (λ (xs : List ℕ). Some (slice_index_or xs k 0)) nums
    ∙ ap Some (get_or-range_with_len run.start run.len k 0 lt)
    ∙ sym (rw (low, page_at first size k run within lt, in_file first k run within lt, back) refl)

-- the blocks of an item's parts are those that the item says
pub part_block_is : (block : ℕ) (item : Item) (bs : List BlockValue) (m : ℕ) → IsWithinFile item → numbers_of bs ≡ item_blocks item
    → option_map number_of (slice_index_or (part_blocks item bs) m None) ≡ own_block block item m
part_block_is block (Write first run size) bs zero within nums =
    let some : nat_lt 0 (length (parts_of (Write first run size))) ≡ true =
    lt-ltb 0 (length (parts_of (Write first run size))) (omega (arith, length_parts first size run within)) in
    rw some refl
part_block_is block (Write first run size) bs (suc k) within nums = elim (cases_lt k run.len) [
  | inl lt ↦ written block first size k run bs within nums lt
  | inr ge ↦
      let len : length (map Some bs) ≡ run.len =
      length-map bs Some ∙ sym (length-map bs number_of) ∙ ap length nums ∙ length-range_with_len run.start run.len in
      let past : nat_lt (suc k) (length (parts_of (Write first run size))) ≡ false =
      le-ltb (suc k) (length (parts_of (Write first run size))) (omega (arith, length_parts first size run within, ge)) in
      rw (get_or_past (map Some bs) k None (omega (arith, len, ge)), past) refl
]
part_block_is block (Init kind mode) bs m within nums = bare block (Init kind mode) m refl
part_block_is block (SetSize size) bs m within nums = bare block (SetSize size) m refl
part_block_is block (SetMode mode) bs m within nums = bare block (SetMode mode) m refl
part_block_is block (Bind name to) bs m within nums = bare block (Bind name to) m refl
part_block_is block (Unbind name) bs m within nums = bare block (Unbind name) m refl
part_block_is block Gone bs m within nums = bare block Gone m refl

pub length_part_blocks : (item : Item) (bs : List BlockValue) → IsWithinFile item → numbers_of bs ≡ item_blocks item
    → length (part_blocks item bs) ≡ length (parts_of item)
length_part_blocks (Write first run size) bs within nums =
    ap suc (length-map bs Some ∙ sym (length-map bs number_of) ∙ ap length nums ∙ length-range_with_len run.start run.len)
    ∙ sym (length_parts first size run within)
length_part_blocks (Init kind mode) bs within nums = length_none 3
length_part_blocks (SetSize size) bs within nums = length_none 1
length_part_blocks (SetMode mode) bs within nums = length_none 1
length_part_blocks (Bind name to) bs within nums = length_none 1
length_part_blocks (Unbind name) bs within nums = refl
length_part_blocks Gone bs within nums = refl

one_of : (size : ℕ) (bs : List BlockValue) (k : ℕ) (b : BlockValue) → AreSized size bs → slice_index_or (map Some bs) k None ≡ Some b
    → length b.bytes ≡ size
one_of size [] k b all h = cc
one_of size (x ∷ bs) zero b all h = let z : x ≡ b = cc in rw (← z) all.0
one_of size (x ∷ bs) (suc k) b all h = one_of size bs k b all.1 h

none_of : (size n m : ℕ) (b : BlockValue) → slice_index_or (replicate n None) m None ≡ Some b → length b.bytes ≡ size
none_of size n m b h = let z : None ≡ Some b = sym (no_slot n m) ∙ h in cc

part_block_sized : (size : ℕ) (item : Item) (bs : List BlockValue) (m : ℕ) (b : BlockValue) → AreSized size bs
    → slice_index_or (part_blocks item bs) m None ≡ Some b → length b.bytes ≡ size
part_block_sized size (Write first run len) bs zero b all h = cc
part_block_sized size (Write first run len) bs (suc k) b all h = one_of size bs k b all h
part_block_sized size (Init kind mode) bs m b all h = none_of size 3 m b h
part_block_sized size (SetSize len) bs m b all h = none_of size 1 m b h
part_block_sized size (SetMode mode) bs m b all h = none_of size 1 m b h
part_block_sized size (Bind name to) bs m b all h = none_of size 1 m b h
part_block_sized size (Unbind name) bs m b all h = none_of size 0 m b h
part_block_sized size Gone bs m b all h = none_of size 0 m b h

-- ---- the blocks of all parts

pub back_block : (block : ℕ) (xs ys : List Entry) (n : ℕ) → part_total xs ≤ n
    → page_block block (xs ++ ys) n ≡ page_block block ys (n - part_total xs)
back_block block [] ys n le = let z : n ≡ n - 0 = omega arith in ap (page_block block ys) z
back_block block (x ∷ xs) ys n le =
    let past : nat_lt n (part_count x) ≡ false = le-ltb n (part_count x) (omega (arith, le)) in
    let back : n - part_count x - part_total xs ≡ n - (part_count x + part_total xs) = omega arith in
    rw (past, ← back) (back_block block xs ys (n - part_count x) (omega (arith, le)))

pub blocks_append : (cell : CellState) (e : Entry) (bs : List BlockValue) → HasBlocks cell
    → length cell.marks ≤ part_total cell.chain.entries → IsWithinFile e.item → numbers_of bs ≡ item_blocks e.item → AreSized cell.block bs
    → HasBlocks (appended e bs cell)
blocks_append cell e bs h few within nums sized = record { len = len; numbers = numbers; sized = sizes } where
  es : List Entry
  es = cell.chain.entries

  slots : List (Option BlockValue)
  slots = part_blocks e.item bs

  len : length (cell.blocks ++ slots) ≡ part_total (es ++ e ∷ [])
  len = omega (arith, length-append cell.blocks slots, h.len, length_part_blocks e.item bs within nums, total_append es (e ∷ []))

  numbers : (n : ℕ) → option_map number_of (slice_index_or (cell.blocks ++ slots) n None)
      ≡ cond (is_there (mark_or_fresh cell.marks n)) (page_block cell.block (es ++ e ∷ []) n) None
  numbers n = elim (cases_lt n (part_total es)) [
    | inl lt ↦
        ap (option_map number_of) (get_or_append_left cell.blocks slots None n (omega (arith, lt, h.len))) ∙ h.numbers n
        ∙ ap (λ (o : Option ℕ). cond (is_there (mark_or_fresh cell.marks n)) o None) (sym (front_block cell.block es (e ∷ []) n lt))
    | inr ge ↦
        let fresh : mark_or_fresh cell.marks n ≡ Current = get_or_past cell.marks n Current (omega (arith, ge, few)) in
        ap (option_map number_of) (get_or-append_right cell.blocks slots (part_total es) n None h.len ge)
        ∙ part_block_is cell.block e.item bs (n - part_total es) within nums
        ∙ sym (rw (fresh, back_block cell.block es (e ∷ []) n ge) refl)
  ]

  sizes : (n : ℕ) (b : BlockValue) → slice_index_or (cell.blocks ++ slots) n None ≡ Some b → length b.bytes ≡ cell.block
  sizes n b q = elim (cases_lt n (part_total es)) [
    | inl lt ↦ h.sized n b (sym (get_or_append_left cell.blocks slots None n (omega (arith, lt, h.len))) ∙ q)
    | inr ge ↦ part_block_sized cell.block e.item bs (n - part_total es) b sized
        (sym (get_or-append_right cell.blocks slots (part_total es) n None h.len ge) ∙ q)
  ]

-- ---- the log

pub log_stays : (t : ℕ) (es : List Entry) (e : Entry) → t ≤ length es → take t (es ++ e ∷ []) ≡ take t es
log_stays t es e le = take-append-le t es (e ∷ []) le

-- one more block of that size
pub sized_more : (size : ℕ) (bs : List BlockValue) (b : BlockValue) → AreSized size bs → length b.bytes ≡ size
    → AreSized size (bs ++ b ∷ [])
sized_more size [] b all one = (one, tt)
sized_more size (x ∷ bs) b all one = (all.0, sized_more size bs b all.1 one)

pub sized_front : (size n : ℕ) (bs : List BlockValue) → AreSized size bs → AreSized size (take n bs)
sized_front size zero bs all = tt
sized_front size (suc n) [] all = tt
sized_front size (suc n) (b ∷ bs) all = (all.0, sized_front size n bs all.1)

-- one more block is taken from the front
pub taken_more : (bs : List BlockValue) (i : ℕ) (next : Option BlockValue) → i < length bs → next ≡ slice_get (drop i bs) 0
    → map Some (take (i + 1) bs) ≡ map Some (take i bs) ++ next ∷ []
taken_more [] i next lt is = absurd (omega arith)
taken_more (b ∷ bs) zero next lt is = rw is refl
taken_more (b ∷ bs) (suc i) next lt is =
    let more : suc i + 1 ≡ suc (i + 1) = omega arith in
    rw more (ap (λ (xs : List (Option BlockValue)). Some b ∷ xs) (taken_more bs i next (omega (arith, lt)) is))

pub taken_one : (bs : List BlockValue) (i : ℕ) (next : Option BlockValue) → i < length bs → next ≡ slice_get (drop i bs) 0
    → length (option_to_list next) ≡ 1
taken_one [] i next lt is = absurd (omega arith)
taken_one (b ∷ bs) zero next lt is = rw is refl
taken_one (b ∷ bs) (suc i) next lt is = taken_one bs i next (omega (arith, lt)) is
