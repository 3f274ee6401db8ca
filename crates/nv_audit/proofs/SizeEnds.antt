-- A file ends at its size.
use Rattle.std.proofs.Common.{◌≡◌, ◌≢◌, ◌⊎◌, inl, inr, ℕ, ◌+◌, ◌-◌, ◌*◌, ◌/◌, ◌%◌, ◌<◌, ◌≤◌, ◌==◌, if◌then◌else◌, zero, suc, Bool, true, false, List, length, drop, replicate, min, is_some, Option, Some, None, arith, refl, ap, sym, ◌∙◌, subst}
use Rattle.std.specs.Prelude.{◌↔◌, All, IfSome, IsTrue, not, option_and_then, slice_index_or}
use Rattle.std.specs.Option.{option_map}
use Rattle.std.proofs.Math.Nat.{mul-le-mul_right}
use Rattle.std.proofs.lemmas.Bool.{cases_lt, eqb-false, eqb-true}
use Rattle.std.proofs.lemmas.List.{get_or-drop, get_or_default, get_or_past, length-drop, length-replicate}
use Rattle.std.proofs.lemmas.Nat.{div-add-mod'}
use Rattle.nv_base.specs.declared.limits.TheConstants.{FILE_PAGES}
use Rattle.nv_alloc.specs.Block.{BlockValue, number_of}
use Rattle.nv_entry.specs.declared.item.Entry.{Entry}
use Rattle.nv_entry.specs.declared.item.Item.{Item}
use Rattle.nv_entry.specs.declared.item.Item.TheVariants.{Init, Write, SetSize, SetMode, Bind, Unbind, Gone}
use Rattle.nv_entry.specs.declared.key.Datum.TheVariants as datum
use Rattle.nv_entry.specs.declared.key.Setting.{Setting}
use Rattle.nv_entry.specs.declared.key.Setting.TheVariants.{Untouched, Absent, Present}
use Rattle.nv_entry.specs.declared.part_ref.PartRef.{PartRef}
use Rattle.nv_entry.specs.Data.{block_in}
use Rattle.nv_entry.specs.Index.{last_cover}
use Rattle.nv_entry.specs.Keys.{PageKey, in_run, is_page, is_past, pages_for, sets}
use Rattle.nv_entry.specs.Log.{IsLog, value_of}
use Rattle.nv_entry.specs.Node.{block_now, size_now}
use Rattle.nv_entry.specs.Refs.{left_by, ref_after, scan_ref}
use Rattle.nv_entry.proofs.Nodes.{block_now-past}
use Rattle.nv_entry.proofs.Refs.{value_now-last}
use Rattle.nv_findex.specs.Pages.{IsNextFrom, PageMap, ref_at}
use Rattle.nv_findex.specs.declared.page_ref.PageRef.{PageRef}
use Rattle.nv_cell.specs.Cell.{CellState, HasBlocks, HasMarks, IsCell, log_of}
use Rattle.nv_cell.specs.Index.{page_part}
use Rattle.nv_cell.specs.Pages.{block_at_page, own_page, slot_bytes}
use Rattle.nv_cell.proofs.PageBlocks.{page_number_is, page_sized}
use Rattle.nv_audit.specs.Index.{ArePagesOf}
use Rattle.nv_audit.specs.Sound.{AreLogPagesWithin, ArePagesWithin, AreZerosPast, own_size}

-- ---- a page is present exactly where a part holds it

-- what an item sets of a page is a block
abbrev SetsBlock : Setting → Type 0
SetsBlock Untouched = Unit {0}
SetsBlock Absent = Unit {0}
SetsBlock (Present value) = is_some (block_in value) ≡ true

sets_block : (block page : ℕ) (item : Item) → SetsBlock (sets block item (PageKey page))
sets_block block page (Init kind mode) = tt
sets_block block page (Write first run size) = go (in_run first run page) where
  go : (b : Bool) → SetsBlock (if b then Present (datum.Block (run.start + (page - first))) else Untouched)
  go true = refl
  go false = tt
sets_block block page (SetSize size) = go (is_past block size page) where
  go : (b : Bool) → SetsBlock (if b then Absent else Untouched)
  go true = tt
  go false = tt
sets_block block page (SetMode mode) = tt
sets_block block page (Bind name to) = tt
sets_block block page (Unbind name) = tt
sets_block block page Gone = go (is_page page) where
  go : (b : Bool) → SetsBlock (if b then Absent else Untouched)
  go true = tt
  go false = tt

held_by : (s : Setting) (own : PartRef) → SetsBlock s → is_some (option_and_then block_in (value_of s)) ≡ is_some (left_by s own None)
held_by Untouched own is = refl
held_by Absent own is = refl
held_by (Present value) own is = is

pub page_held : (block : ℕ) (log : List Entry) (page : ℕ)
    → is_some (block_now block log page) ≡ is_some (scan_ref block log (PageKey page))
page_held block log page =
    ap (λ v. is_some (option_and_then block_in v)) (value_now-last block log (PageKey page))
    ∙ go (last_cover block log (PageKey page))
  where
    go : (o : Option Entry)
        → is_some (option_and_then block_in (option_and_then (λ e. value_of (sets block e.item (PageKey page))) o))
        ≡ is_some (option_and_then (λ e. ref_after block e (PageKey page) None) o)
    go None = refl
    go (Some e) = held_by (sets block e.item (PageKey page)) _ (sets_block block page e.item)

some_is : {X : Type 0} (o : Option X) (x : X) → o ≡ Some x → is_some o ≡ true
some_is o x e = ap is_some e

of_some : {X : Type 0} (o : Option X) → is_some o ≡ true → (x : X) × (o ≡ Some x)
of_some None e = cc
of_some (Some x) e = (x, refl)

-- ---- no page past the size, by the index

module _ (block : ℕ) (log : List Entry) (index : PageMap) (first : ℕ)
    (least : first ≡ min (pages_for block (size_now block log)) FILE_PAGES) (are : ArePagesOf block log index) where
  at_index : (page : ℕ) → is_some (ref_at index.pages page) ≡ is_some (block_now block log page)
  at_index page =
      mapped (ref_at index.pages page) ∙ ap is_some (are page) ∙ sym (page_held block log page)
    where
      mapped : (o : Option PageRef) → is_some o ≡ is_some (option_map page_part o)
      mapped None = refl
      mapped (Some at) = refl

  pub within_by : (next : Option (ℕ × PageRef)) → IsNextFrom first (ref_at index.pages) next
      → IfSome next (λ found. (found.0 < FILE_PAGES) × (found.1.place < FILE_PAGES))
      → IsTrue (not (is_some next)) ↔ AreLogPagesWithin block log
  within_by None none inside = (λ t. below, λ all. refl) where
    below : AreLogPagesWithin block log
    below page number is =
        elim (cases_lt page first) [
          | inl lt ↦ omega (arith, lt, least)
          | inr from ↦
              let no : is_some (ref_at index.pages page) ≡ false = ap is_some (none page (omega (arith, from))) in
              let yes = some_is (block_now block log page) number is in
              let at = at_index page in cc
        ]
  within_by (Some found) next inside = (λ t. cc, λ all. absurd (past all)) where
    past : AreLogPagesWithin block log → ⊥
    past all =
        let there = of_some (block_now block log found.0)
        (sym (at_index found.0) ∙ some_is (ref_at index.pages found.0) found.1 next.1) in
        let low = all found.0 there.0 there.1 in
        let most = inside.0 in
        omega (arith, low, most, next.0, least)

pub flipped : {X : Type 0} (P : Type 0) (o : Option X) (b : Bool) → is_some o ≡ not b → IsTrue (not (is_some o)) ↔ P → IsTrue b ↔ P
flipped P None true e same = same
flipped P None false e same = cc
flipped P (Some x) true e same = cc
flipped P (Some x) false e same = same

-- ---- no byte past it, by the page in which it lies

zeros_only : (n j : ℕ) → slice_index_or (replicate {A = ℕ} n 0) j 0 ≡ 0
zeros_only zero j = refl
zeros_only (suc n) zero = refl
zeros_only (suc n) (suc j) = zeros_only n j

-- what a cell has to have for that: a log in order, marks, and the blocks that these say
pub record IsWhole (cell : CellState) : Type 0 where
  pub rising : IsLog cell.chain.entries
  pub marks : HasMarks cell
  pub blocks : HasBlocks cell

pub whole : (cell : CellState) → IsCell cell → IsWhole cell
whole cell is = record { rising = is.chain.rising; marks = is.marks; blocks = is.blocks }

module _ (cell : CellState) (is : IsWhole cell) (within : ArePagesWithin cell) where
  abbrev size : ℕ
  size = own_size cell

  abbrev last : ℕ
  last = size / cell.block

  none_zeros : (page : ℕ) → block_at_page cell page ≡ None → (place : ℕ) → slice_index_or (own_page cell page) place 0 ≡ 0
  none_zeros page none place =
      ap (λ b. slice_index_or (slot_bytes cell.block b) place 0) none ∙ zeros_only cell.block place

  absent : (page : ℕ) → pages_for cell.block size ≤ page → block_at_page cell page ≡ None
  absent page past = go (block_at_page cell page) refl where
    go : (o : Option BlockValue) → block_at_page cell page ≡ o → block_at_page cell page ≡ None
    go None e = e
    go (Some b) e =
        let now = sym (page_number_is cell page is.rising is.marks is.blocks) ∙ ap (option_map number_of) e in
        absurd (let low = within page b.number now in omega (arith, low, past))

  pub own_length : (page : ℕ) → length (own_page cell page) ≡ cell.block
  own_length page = go (block_at_page cell page) (page_sized cell page is.rising is.blocks.sized) where
    go : (o : Option BlockValue) → IfSome o (λ b. length b.bytes ≡ cell.block) → length (slot_bytes cell.block o) ≡ cell.block
    go None sized = length-replicate cell.block 0
    go (Some b) sized = sized

  -- before the page in which the size lies no byte is past it, and behind that page none is there
  other : (page : ℕ) → page ≢ last → (place : ℕ) → size ≤ page * cell.block + place → slice_index_or (own_page cell page) place 0 ≡ 0
  other page ne place past =
      elim (cases_lt page last) [
        | inl below ↦
            let le : suc page ≤ last = omega (arith, below) in
            let most : suc page * cell.block ≤ last * cell.block = mul-le-mul_right cell.block le in
            let split = div-add-mod' size cell.block in
            get_or_past (own_page cell page) place 0 (omega (arith, past, most, split, own_length page))
        | inr from ↦ none_zeros page (absent page (omega (arith, from, ne))) place
      ]

  by_last : ((place : ℕ) → size % cell.block ≤ place → slice_index_or (own_page cell last) place 0 ≡ 0) → AreZerosPast cell
  by_last zeros page place past = go (page == last) refl where
    go : (b : Bool) → (page == last) ≡ b → slice_index_or (own_page cell page) place 0 ≡ 0
    go true e =
        let same = eqb-true page last e in
        let there : size ≤ last * cell.block + place = subst (λ (p : ℕ). size ≤ p * cell.block + place) same past in
        let split = div-add-mod' size cell.block in
        subst (λ (p : ℕ). slice_index_or (own_page cell p) place 0 ≡ 0) (sym same) (zeros place (omega (arith, there, split)))
    go false e = other page (eqb-false page last e) place past

  pub without_last : block_at_page cell last ≡ None → AreZerosPast cell
  without_last none = by_last (λ place le. none_zeros last none place)

  pub past_all : FILE_PAGES ≤ last → AreZerosPast cell
  past_all far = without_last (go (block_at_page cell last) refl) where
    go : (o : Option BlockValue) → block_at_page cell last ≡ o → block_at_page cell last ≡ None
    go None e = e
    go (Some b) e =
        let now = sym (page_number_is cell last is.rising is.marks is.blocks) ∙ ap (option_map number_of) e in
        let none = block_now-past cell.block last (log_of cell) far in cc

  pub by_bytes : (b : BlockValue) → block_at_page cell last ≡ Some b
      → All (λ byte. byte ≡ 0) (drop (size % cell.block) b.bytes) ↔ AreZerosPast cell
  by_bytes b there = (λ all. by_last (behind all), λ zeros k d lt. ahead zeros k d lt) where
    from : ℕ
    from = size % cell.block

    bytes_are : own_page cell last ≡ b.bytes
    bytes_are = ap (slot_bytes cell.block) there

    behind : All (λ byte. byte ≡ 0) (drop from b.bytes) → (place : ℕ) → from ≤ place → slice_index_or (own_page cell last) place 0 ≡ 0
    behind all place le = ap (λ bytes. slice_index_or bytes place 0) bytes_are ∙ go (cases_lt place (length b.bytes)) where
      moved : slice_index_or b.bytes place 0 ≡ slice_index_or (drop from b.bytes) (place - from) 0
      moved = ap (λ (k : ℕ). slice_index_or b.bytes k 0) (omega (arith, le)) ∙ sym (get_or-drop from b.bytes (place - from) 0)

      go : (place < length b.bytes) ⊎ (length b.bytes ≤ place) → slice_index_or b.bytes place 0 ≡ 0
      go (inl lt) = moved ∙ all (place - from) 0 (omega (arith, lt, le, length-drop from b.bytes))
      go (inr past) = get_or_past b.bytes place 0 past

    ahead : AreZerosPast cell → (k d : ℕ) → k < length (drop from b.bytes) → slice_index_or (drop from b.bytes) k d ≡ 0
    ahead zeros k d lt =
        let split = div-add-mod' size cell.block in
        get_or_default (drop from b.bytes) k d 0 lt ∙ get_or-drop from b.bytes k 0
        ∙ sym (ap (λ bytes. slice_index_or bytes (from + k) 0) bytes_are)
        ∙ zeros last (from + k) (omega (arith, split))
