-- The places of a cell's parts, as its log grows, is published and is retired.
use Rattle.std.proofs.Common.{Bool, List, None, Option, Some, [], ap, arith, drop, false, get_or-set_other, get_or-set_same, if◌then◌else◌, inl, inr, length, length-append, length-set, map, nat_lt, refl, replicate, set, subst, suc, sym, take, true, zero, ℕ, ◌++◌, ◌+◌, ◌-◌, ◌<◌, ◌∙◌, ◌∷◌, ◌≡◌, ◌≢◌, ◌≤◌, ◌⊎◌}
use Rattle.std.proofs.lemmas.Bool.{cases_lt, eqb-false, eqb-true, false≢true, le-ltb, lt-ltb, ltb-true}
use Rattle.std.proofs.lemmas.List.{get_or-append_right, get_or_append_left, get_or_default, get_or_past, length-map, set_past}
use Rattle.std.proofs.lemmas.List.FromFn.{get_or-map-range_with_len, length-map-range_with_len, length-range_with_len}
use Rattle.std.specs.List.{AllByRecursion, flat_map, range_with_len}
use Rattle.std.specs.Prelude.{option_to_list, slice_index_or, ◌==◌}
use Rattle.std.specs.Option.{option_map}
use Rattle.nv_alloc.specs.Block.{AreSized, BlockValue, number_of, numbers_of}
use Rattle.nv_calls.specs.Retiring.{erased, freed, freed_by, freed_one, keeper_of, retired, retired_one, settled}
use Rattle.nv_cell.specs.Append.{IsWithinFile, appended, blocks_for, part_blocks}
use Rattle.nv_cell.specs.Cell.{AreSlotsSized, CellState, HasBlocks, empty_cell, mark_or_fresh, number_in, page_block, published}
use Rattle.nv_cell.specs.Marks.{is_there, mark_at}
use Rattle.nv_cell.specs.Numbers.{dies, part_base, published_mark}
use Rattle.nv_cell.specs.declared.killed.KilledPart.{KilledPart}
use Rattle.nv_cell.specs.declared.mark.Mark.{Mark}
use Rattle.nv_cell.specs.declared.mark.Mark.TheVariants.{Current, Kept, Out}
use Rattle.nv_cell.proofs.Appending.{blocks_append, length_parts, log_stays}
use Rattle.nv_cell.proofs.PagesNow.{front_block}
use Rattle.nv_cell.proofs.Numbers.{total_append}
use Rattle.nv_cell.proofs.Publishing.{take_whole, total_take}
use Rattle.nv_entry.specs.Blocks.{item_blocks}
use Rattle.nv_entry.specs.Covered.{part_count, part_total}
use Rattle.nv_entry.specs.Keys.{parts_of}
use Rattle.nv_entry.specs.declared.item.Entry.{Entry}
use Rattle.nv_entry.specs.declared.item.Item.{Item}
use Rattle.nv_entry.specs.declared.item.Item.TheVariants.{Gone, Init, Unbind, Write}
use Rattle.nv_calls.proofs.Appends.{front, map-drop, map-take}
use Rattle.nv_machine.specs.Hands.{ArePagesTold, IsParted}
use Rattle.nv_cell.specs.Readers.{is_erased}
use Rattle.nv_machine.specs.Kinds.{with_entries, with_log_pages}

-- ---- sizes

pub sized_both : (size : ℕ) (bs cs : List BlockValue) → AreSized size bs → AreSized size cs → AreSized size (bs ++ cs)
sized_both size [] cs b c = c
sized_both size (x ∷ bs) cs b c = (b.0, sized_both size bs cs b.1 c)

pub sized_first : (size n : ℕ) (bs : List BlockValue) → AreSized size bs → AreSized size (take n bs)
sized_first size zero bs h = tt
sized_first size (suc n) [] h = tt
sized_first size (suc n) (b ∷ bs) h = (h.0, sized_first size n bs h.1)

pub sized_later : (size n : ℕ) (bs : List BlockValue) → AreSized size bs → AreSized size (drop n bs)
sized_later size zero bs h = h
sized_later size (suc n) [] h = tt
sized_later size (suc n) (b ∷ bs) h = sized_later size n bs h.1

-- ---- more log pages

pub paged_parted : (block : ℕ) (pages : List BlockValue) (cell : CellState) → AreSized block pages → IsParted block cell
    → IsParted block (with_log_pages pages cell)
paged_parted block [] cell sized h = h
paged_parted block (b ∷ pages) cell sized h =
    paged_parted block pages (record cell { chain = record cell.chain { blocks = cell.chain.blocks ++ b ∷ [] } }) sized.1 (record {
      within = h.within;
      marks = h.marks;
      places = h.places;
      out = h.out;
      told = h.told;
      sized = h.sized;
      pages = sized_both block cell.chain.blocks (b ∷ []) h.pages (sized.0, tt);
    })

-- ---- one more entry

none_at : (n m : ℕ) → slice_index_or (replicate {A = Option BlockValue} n None) m None ≡ None
none_at zero m = refl
none_at (suc n) zero = refl
none_at (suc n) (suc m) = none_at n m

long_none : (n : ℕ) → length (replicate {A = Option BlockValue} n None) ≡ n
long_none zero = refl
long_none (suc n) = ap suc (long_none n)

slot_count : (item : Item) (bs : List BlockValue) → IsWithinFile item → length bs ≡ length (item_blocks item)
    → length (part_blocks item bs) ≡ length (parts_of item)
slot_count (Write first run size) bs within many =
    ap suc (length-map bs Some ∙ many ∙ length-range_with_len run.start run.len) ∙ sym (length_parts first size run within)
slot_count (Init kind mode) bs within many = long_none 3
slot_count (Unbind name) bs within many = refl
slot_count Gone bs within many = refl
slot_count other bs within many = long_none 1

one_sized : (size : ℕ) (bs : List BlockValue) → AreSized size bs → AreSlotsSized size (map Some bs)
one_sized size [] all n b h = cc
one_sized size (x ∷ bs) all zero b h = let e : x ≡ b = cc in subst (λ (y : BlockValue). length y.bytes ≡ size) e all.0
one_sized size (x ∷ bs) all (suc n) b h = one_sized size bs all.1 n b h

none_sized : (size many : ℕ) → AreSlotsSized size (replicate many None)
none_sized size many n b h = let z : None ≡ Some b = sym (none_at many n) ∙ h in cc

slots_sized : (size : ℕ) (item : Item) (bs : List BlockValue) → AreSized size bs → AreSlotsSized size (part_blocks item bs)
slots_sized size (Write first run len) bs all zero b h = cc
slots_sized size (Write first run len) bs all (suc n) b h = one_sized size bs all n b h
slots_sized size (Init kind mode) bs all n b h = none_sized size 3 n b h
slots_sized size (Unbind name) bs all n b h = none_sized size 0 n b h
slots_sized size Gone bs all n b h = none_sized size 0 n b h
slots_sized size other bs all n b h = none_sized size 1 n b h

both_sized : (size : ℕ) (xs ys : List (Option BlockValue)) → AreSlotsSized size xs → AreSlotsSized size ys → AreSlotsSized size (xs ++ ys)
both_sized size xs ys x y n b h = elim (cases_lt n (length xs)) [
  | inl lt ↦ x n b (sym (get_or_append_left xs ys None n lt) ∙ h)
  | inr ge ↦ y (n - length xs) b (sym (get_or-append_right xs ys (length xs) n None refl ge) ∙ h)
]

-- the block of a part of an entry that stands behind others
back_block : (block : ℕ) (xs ys : List Entry) (n : ℕ) → part_total xs ≤ n
    → page_block block (xs ++ ys) n ≡ page_block block ys (n - part_total xs)
back_block block [] ys n le = let z : n ≡ n - 0 = omega arith in ap (page_block block ys) z
back_block block (x ∷ xs) ys n le =
    let past : nat_lt n (part_count x) ≡ false = le-ltb n (part_count x) (omega (arith, le)) in
    let back : n - part_count x - part_total xs ≡ n - (part_count x + part_total xs) = omega arith in
    rw (past, ← back) (back_block block xs ys (n - part_count x) (omega (arith, le)))

-- an entry's own: what one more entry in an empty cell has
own_block : (block : ℕ) (e : Entry) (bs : List BlockValue) → IsWithinFile e.item → numbers_of bs ≡ item_blocks e.item → AreSized block bs
    → (n : ℕ) (b : BlockValue) → slice_index_or (part_blocks e.item bs) n None ≡ Some b → page_block block (e ∷ []) n ≡ Some b.number
own_block block e bs within nums sized n b is =
    let empty : CellState = empty_cell block 0 0 0 in
    let all : HasBlocks (appended e bs empty) =
    blocks_append empty e bs (record { len = refl; numbers = λ n. refl; sized = λ n b e. cc }) (omega arith) within nums sized in
    sym (all.numbers n) ∙ ap (option_map number_of) is

pub appended_parted : (block : ℕ) (e : Entry) (bs : List BlockValue) (cell : CellState) → IsWithinFile e.item
    → numbers_of bs ≡ item_blocks e.item → AreSized block bs → IsParted block cell → IsParted block (appended e bs cell)
appended_parted block e bs cell within nums sized h = record {
  within = omega (arith, h.within, length-append cell.chain.entries (e ∷ []));
  marks = h.marks ∙ sym (ap part_total (log_stays cell.chain.tail cell.chain.entries e h.within));
  places = omega (
    arith,
    length-append cell.blocks slots,
    h.places,
    slot_count e.item bs within many,
    total_append cell.chain.entries (e ∷ []),
  );
  out = outs;
  told = tells;
  sized = both_sized block cell.blocks slots h.sized (slots_sized block e.item bs sized);
  pages = h.pages;
} where
  slots : List (Option BlockValue)
  slots = part_blocks e.item bs

  many : length bs ≡ length (item_blocks e.item)
  many = sym (length-map bs number_of) ∙ ap length nums

  tells : ArePagesTold block (appended e bs cell)
  tells n b is = elim (cases_lt n (length cell.blocks)) [
    | inl lt ↦ front_block block cell.chain.entries (e ∷ []) n (omega (arith, lt, h.places))
        ∙ h.told n b (sym (get_or_append_left cell.blocks slots None n lt) ∙ is)
    | inr ge ↦
        let own = sym (get_or-append_right cell.blocks slots (part_total cell.chain.entries) n None h.places
        (omega (arith, ge, h.places))) ∙ is in
        back_block block cell.chain.entries (e ∷ []) n (omega (arith, ge, h.places))
        ∙ own_block block e bs within nums sized (n - part_total cell.chain.entries) b own
  ]

  few : length cell.marks ≤ length cell.blocks
  few = omega (arith, h.marks, h.places, total_take cell.chain.entries cell.chain.tail)

  outs : (n : ℕ) → is_there (mark_or_fresh cell.marks n) ≡ false → slice_index_or (cell.blocks ++ slots) n None ≡ None
  outs n gone = elim (cases_lt n (length cell.blocks)) [
    | inl lt ↦ get_or_append_left cell.blocks slots None n lt ∙ h.out n gone
    | inr ge ↦ absurd (false≢true (sym gone ∙ ap is_there (get_or_past cell.marks n Current (omega (arith, ge, few)))))
  ]

-- the pages of some entries
abbrev pub entry_blocks : List Entry → List ℕ
entry_blocks entries = flat_map (λ (e : Entry). item_blocks e.item) entries

pub entries_parted : (block : ℕ) (entries : List Entry) (bs : List BlockValue) (cell : CellState)
    → AllByRecursion (λ (e : Entry). IsWithinFile e.item) entries
    → take (length (entry_blocks entries)) (numbers_of bs) ≡ entry_blocks entries → AreSized block bs
    → IsParted block cell → IsParted block (with_entries entries bs cell)
entries_parted block [] bs cell within nums sized h = h
entries_parted block (e ∷ entries) bs cell within nums sized h =
    let k = length (item_blocks e.item) in
    let cut = front (item_blocks e.item) (entry_blocks entries) (numbers_of bs) nums in
    entries_parted block entries (drop k bs) (appended e (blocks_for e.item bs) cell) within.1
    (ap (take (length (entry_blocks entries))) (map-drop k bs) ∙ cut.1) (sized_later block k bs sized)
    (appended_parted block e (blocks_for e.item bs) cell within.0 (map-take k bs ∙ cut.0) (sized_first block k bs sized) h)

-- ---- published

pub published_parted : (block : ℕ) (cell : CellState) → IsParted block cell → IsParted block (published cell)
published_parted block cell h = record {
  within = omega arith;
  marks = many ∙ sym (ap part_total (take_whole cell.chain.entries));
  places = h.places;
  out = outs;
  told = h.told;
  sized = h.sized;
  pages = h.pages;
} where
  es : List Entry
  es = cell.chain.entries

  mark : ℕ → Mark
  mark n = published_mark cell.block es cell.chain.tail cell.marks n

  new : List Mark
  new = map mark (range_with_len 0 (part_total es))

  many : length new ≡ part_total es
  many = length-map-range_with_len mark 0 (part_total es)

  was_out : (n : ℕ) → n < part_total es → (d : Bool) → dies cell.block es cell.chain.tail n ≡ d → (b : Bool)
      → nat_lt n (part_base es cell.chain.tail) ≡ b → is_there (mark n) ≡ false → slice_index_or cell.blocks n None ≡ None
  was_out n lt true p b q gone = absurd (false≢true (sym gone ∙ rw p refl))
  was_out n lt false p true q gone =
      let low = ltb-true n (part_base es cell.chain.tail) q in
      let same : mark_or_fresh cell.marks n ≡ mark_at cell.marks n =
      get_or_default cell.marks n Current Out (omega (arith, low, h.marks)) in
      let is : mark n ≡ mark_at cell.marks n = rw (p, q) refl in
      h.out n (ap is_there same ∙ sym (ap is_there is) ∙ gone)
  was_out n lt false p false q gone =
      let l : nat_lt n (part_total es) ≡ true = lt-ltb n (part_total es) lt in
      absurd (false≢true (sym gone ∙ rw (p, q, l) refl))

  outs : (n : ℕ) → is_there (mark_or_fresh new n) ≡ false → slice_index_or cell.blocks n None ≡ None
  outs n gone = elim (cases_lt n (part_total es)) [
    | inl lt ↦
        let is : mark_or_fresh new n ≡ mark n = get_or-map-range_with_len mark 0 (part_total es) n n Current lt (omega arith) in
        was_out n lt (dies cell.block es cell.chain.tail n) refl (nat_lt n (part_base es cell.chain.tail)) refl
        (sym (ap is_there is) ∙ gone)
    | inr ge ↦ get_or_past cell.blocks n None (omega (arith, ge, h.places))
  ]

-- ---- retired

set_option : (P : Option BlockValue → Type 0) (xs : List (Option BlockValue)) (k n : ℕ) → P None
    → P (slice_index_or xs n None) → P (slice_index_or (set xs k None) n None)
set_option P xs k n none was = go (k == n) refl (cases_lt k (length xs)) where
  go : (b : Bool) → (k == n) ≡ b → (k < length xs) ⊎ (length xs ≤ k) → P (slice_index_or (set xs k None) n None)
  go true q (inl lt) =
      subst (λ (m : ℕ). P (slice_index_or (set xs k None) m None)) (eqb-true k n q)
      (subst P (sym (get_or-set_same xs k None None lt)) none)
  go b q (inr ge) = subst (λ (l : List (Option BlockValue)). P (slice_index_or l n None)) (sym (set_past xs k None ge)) was
  go false q (inl lt) = subst P (sym (get_or-set_other xs k n None None (λ e. eqb-false k n q (sym e)))) was

marked : (marks : List Mark) (k n : ℕ) (mark : Mark) (P : Mark → Type 0) → (k ≢ n → P (mark_or_fresh marks n))
    → (k ≡ n → k < length marks → P mark) → (length marks ≤ k → P (mark_or_fresh marks n)) → P (mark_or_fresh (set marks k mark) n)
marked marks k n mark P other own past = go (k == n) refl (cases_lt k (length marks)) where
  go : (b : Bool) → (k == n) ≡ b → (k < length marks) ⊎ (length marks ≤ k) → P (mark_or_fresh (set marks k mark) n)
  go true q (inl lt) =
      subst (λ (m : ℕ). P (mark_or_fresh (set marks k mark) m)) (eqb-true k n q)
      (subst P (sym (get_or-set_same marks k mark Current lt)) (own (eqb-true k n q) lt))
  go b q (inr ge) = subst (λ (l : List Mark). P (mark_or_fresh l n)) (sym (set_past marks k mark ge)) (past ge)
  go false q (inl lt) =
      subst P (sym (get_or-set_other marks k n mark Current (λ e. eqb-false k n q (sym e)))) (other (eqb-false k n q))

pub settled_parted : (block : ℕ) (keeper : Option ℕ) (k : ℕ) (cell : CellState) → IsParted block cell
    → IsParted block (settled keeper k cell)
settled_parted block (Some s) k cell h = record {
  within = h.within;
  marks = length-set cell.marks k Kept ∙ h.marks;
  places = h.places;
  out = λ n. marked cell.marks k n Kept (λ (m : Mark). is_there m ≡ false → slice_index_or cell.blocks n None ≡ None)
      (λ ne. h.out n) (λ e lt gone. absurd (false≢true (sym gone))) (λ past. h.out n);
  told = h.told;
  sized = h.sized;
  pages = h.pages;
}
settled_parted block None k cell h = record {
  within = h.within;
  marks = length-set cell.marks k Out ∙ h.marks;
  places = length-set cell.blocks k None ∙ h.places;
  out = λ n. marked cell.marks k n Out (λ (m : Mark). is_there m ≡ false → slice_index_or (set cell.blocks k None) n None ≡ None)
      (λ ne gone. set_option (λ (o : Option BlockValue). o ≡ None) cell.blocks k n refl (h.out n gone))
      (λ e lt gone. own n e)
      (λ past gone. set_option (λ (o : Option BlockValue). o ≡ None) cell.blocks k n refl (h.out n gone));
  told = λ n b. set_option (λ (o : Option BlockValue). o ≡ Some b → page_block block cell.chain.entries n ≡ Some b.number) cell.blocks k n
      (λ e. cc) (h.told n b);
  sized = λ n b. set_option (λ (o : Option BlockValue). o ≡ Some b → length b.bytes ≡ block) cell.blocks k n (λ e. cc) (h.sized n b);
  pages = h.pages;
} where
  own : (n : ℕ) → k ≡ n → slice_index_or (set cell.blocks k None) n None ≡ None
  own n e = subst (λ (m : ℕ). slice_index_or (set cell.blocks k None) m None ≡ None) e (go (cases_lt k (length cell.blocks))) where
    go : (k < length cell.blocks) ⊎ (length cell.blocks ≤ k) → slice_index_or (set cell.blocks k None) k None ≡ None
    go (inl lt) = get_or-set_same cell.blocks k None None lt
    go (inr ge) = ap (λ (l : List (Option BlockValue)). slice_index_or l k None) (set_past cell.blocks k None ge)
        ∙ get_or_past cell.blocks k None ge

pub retired_parted : (block : ℕ) (living : List ℕ) (ino epoch : ℕ) (parts : List KilledPart) (cell : CellState) → IsParted block cell
    → IsParted block (retired living ino epoch parts cell)
retired_parted block living ino epoch [] cell h = h
retired_parted block living ino epoch (killed ∷ later) cell h =
    retired_parted block living ino epoch later (retired_one living ino epoch killed cell)
    (settled_parted block (keeper_of living ino epoch killed) (number_in cell killed.part) cell h)

pub freed_sized : (block : ℕ) (keeper : Option ℕ) (k : ℕ) (cell : CellState) → IsParted block cell → AreSized block (freed keeper k cell)
freed_sized block (Some s) k cell h = tt
freed_sized block None k cell h = go (slice_index_or cell.blocks k None) refl where
  go : (o : Option BlockValue) → slice_index_or cell.blocks k None ≡ o → AreSized block (option_to_list o)
  go None e = tt
  go (Some b) e = (h.sized k b e, tt)

pub freed_by_sized : (block : ℕ) (living : List ℕ) (ino epoch : ℕ) (parts : List KilledPart) (cell : CellState) → IsParted block cell
    → AreSized block (freed_by living ino epoch parts cell)
freed_by_sized block living ino epoch [] cell h = tt
freed_by_sized block living ino epoch (killed ∷ later) cell h =
    sized_both block (freed_one living ino epoch killed cell) _ (freed_sized block (keeper_of living ino epoch killed) _ cell h)
    (freed_by_sized block living ino epoch later (retired_one living ino epoch killed cell)
    (settled_parted block (keeper_of living ino epoch killed) (number_in cell killed.part) cell h))

-- ---- erased

pub empty_parted : (size block page generation version : ℕ) → IsParted size (empty_cell block page generation version)
empty_parted size block page generation version = record {
  within = omega arith;
  marks = refl;
  places = refl;
  out = λ n gone. refl;
  told = λ n b h. cc;
  sized = λ n b h. cc;
  pages = tt;
}

pub erased_parted : (block : ℕ) (cell : CellState) → IsParted block cell → IsParted block (erased cell)
erased_parted block cell h = go (is_erased cell) where
  go : (b : Bool) → IsParted block (if b then empty_cell cell.block cell.chain.page (cell.generation + 1) cell.version else cell)
  go true = empty_parted block cell.block cell.chain.page (cell.generation + 1) cell.version
  go false = h
