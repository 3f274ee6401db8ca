-- The cell anew of a chain is one.
use Rattle.std.proofs.Common.{◌≡◌, ℕ, zero, suc, ◌+◌, ◌-◌, ◌<◌, ◌≤◌, ◌==◌, ◌∙◌, inl, inr, Bool, true, false, cond, not, nat_lt, List, [], ◌∷◌, ◌++◌, Option, Some, None, ap, arith, count_by, length, is_some, drop, refl, subst, sym, take}
use Rattle.std.specs.Prelude.{if◌then◌else◌, option_and_then, slice_get, slice_index_or}
use Rattle.std.specs.Option.{option_map}
use Rattle.std.proofs.lemmas.Bool.{cases_lt, le-ltb, lt-ltb}
use Rattle.std.proofs.lemmas.List.{get_or_default, get_or_past, length-drop, take-append-drop}
use Rattle.std.proofs.lemmas.List.FromFn.{get_or-map-range_with_len, length-map-range_with_len}
use Rattle.std.proofs.lemmas.List.Sums.{sum_by-append, sum_by-cons}
use Rattle.std.proofs.lemmas.Option.{get_or_from_slice_get, none-some, same_Some, slice_get_within}
use Rattle.nv_alloc.specs.Block.{AreSized, BlockValue, block_by, number_of}
use Rattle.nv_entry.specs.declared.item.Entry.{Entry}
use Rattle.nv_entry.specs.declared.part.Part.{Part}
use Rattle.nv_entry.specs.declared.part.Part.TheVariants as part
use Rattle.nv_entry.specs.Covered.{is_covered, part_count, part_total}
use Rattle.nv_entry.specs.Data.{block_in}
use Rattle.nv_entry.specs.Keys.{key_of, parts_of, sets}
use Rattle.nv_entry.specs.Log.{value_of}
use Rattle.nv_log.specs.Chain.{ChainState}
use Rattle.nv_cell.specs.declared.mark.Mark.{Mark}
use Rattle.nv_cell.specs.Anew.{AreThere, block_anew, cell_by, marks_anew}
use Rattle.nv_cell.specs.Cell.{CellState, HasBlocks, HasMarks, held_count, log_of, mark_or_fresh, page_block}
use Rattle.nv_cell.specs.Marks.{is_current, is_there, mark_at}
use Rattle.nv_cell.specs.Numbers.{part_base}
use Rattle.nv_cell.specs.Slots.{by_part, slot_count, slot_total}
use Rattle.nv_cell.proofs.MarksAnew.{current_anew, len_anew}
use Rattle.nv_cell.proofs.Publishing.{take_whole}

-- past all parts there is no page
pub no_page : (block : ℕ) (log : List Entry) (n : ℕ) → part_total log ≤ n → page_block block log n ≡ None
no_page block [] n past = refl
no_page block (e ∷ log) n past =
    let out : nat_lt n (part_count e) ≡ false = le-ltb n (part_count e) (omega (arith, past)) in
    rw out (no_page block log (n - part_count e) (omega (arith, past)))

pub sized_by : (size : ℕ) (blocks : List BlockValue) (number : ℕ) (b : BlockValue) → AreSized size blocks
    → block_by blocks number ≡ Some b → length b.bytes ≡ size
sized_by size [] number b all e = cc
sized_by size (c ∷ blocks) number b all e = go (c.number == number) e (sized_by size blocks number b all.1) where
  go : (d : Bool) → cond d (Some c) (block_by blocks number) ≡ Some b
      → (block_by blocks number ≡ Some b → length b.bytes ≡ size) → length b.bytes ≡ size
  go true e more = ap (λ (x : BlockValue). length x.bytes) (sym (same_Some c b e)) ∙ all.0
  go false e more = more e

-- what an entry says of its part at a place, alone and in its log
pub said_at : (block : ℕ) (e : Entry) (p : ℕ) (own : Part) → slice_get (parts_of e.item) p ≡ Some own
    → page_block block (e ∷ []) p ≡ option_and_then block_in (value_of (sets block e.item (key_of e.item own)))
said_at block e p own at =
    let low : nat_lt p (part_count e) ≡ true = lt-ltb p (part_count e) (slice_get_within (parts_of e.item) p own at) in
    let is : slice_index_or (parts_of e.item) p part.Kind ≡ own = get_or_from_slice_get (parts_of e.item) p own part.Kind at in
    rw low (ap (λ (x : Part). option_and_then block_in (value_of (sets block e.item (key_of e.item x)))) is)

pub said_in : (block : ℕ) (es : List Entry) (i p : ℕ) (e : Entry) → i < length es → e ≡ slice_index_or es i e → p < part_count e
    → page_block block es (part_base es i + p) ≡ page_block block (e ∷ []) p
said_in block [] i p e lt is within = absurd (omega (arith, lt))
said_in block (x ∷ es) zero p e lt is within =
    let first : part_base (x ∷ es) zero + p ≡ p = omega arith in
    let low : nat_lt p (part_count x) ≡ true = lt-ltb p (part_count x) (subst (λ (u : Entry). p < part_count u) is within) in
    ap (page_block block (x ∷ es)) first ∙ alone low
    ∙ ap (λ (u : Entry). page_block block (u ∷ []) p) (sym is)
  where
    alone : nat_lt p (part_count x) ≡ true → page_block block (x ∷ es) p ≡ page_block block (x ∷ []) p
    alone low = rw low refl
said_in block (x ∷ es) (suc i) p e lt is within =
    let n = part_base (x ∷ es) (suc i) + p in
    let past : nat_lt n (part_count x) ≡ false = le-ltb n (part_count x) (omega arith) in
    let rest : n - part_count x ≡ part_base es i + p = omega arith in
    rw past (ap (page_block block es) rest ∙ said_in block es i p e (omega (arith, lt)) is within)

module _ (block generation : ℕ) (living : List ℕ) (chain : ChainState) (source : List BlockValue)
    (all : chain.tail ≡ length chain.entries) where
  abbrev es : List Entry
  es = chain.entries

  abbrev marks : List Mark
  marks = marks_anew living block es

  abbrev cell : CellState
  cell = cell_by block generation living chain source

  pub its_log : log_of cell ≡ es
  its_log = ap (λ n. take n es) all ∙ take_whole es

  -- within the parts it is the same what a mark is past them
  same_mark : (n : ℕ) → n < part_total es → mark_or_fresh marks n ≡ mark_at marks n
  same_mark n lt = get_or_default marks n _ _ (omega (arith, lt, len_anew living block es))

  pub marks_are : HasMarks cell
  marks_are = record {
    len = len_anew living block es ∙ ap part_total (sym its_log);
    current = λ n lt.
        let low : n < part_total es = subst (λ (l : List Entry). n < part_total l) its_log lt in
        ap is_current (sym (same_mark n low)) ∙ current_anew living block es n low
        ∙ ap (λ (l : List Entry). not (is_covered block l n)) (sym its_log);
  }

  module _ (there : AreThere block living source es) (sized : AreSized block source) where
    at_part : (m : ℕ) → m < part_total es → slice_index_or cell.blocks m None ≡ block_anew source block es marks m
    at_part m lt = get_or-map-range_with_len (block_anew source block es marks) 0 (part_total es) m m None lt (omega arith)

    past_parts : (m : ℕ) → part_total es ≤ m → slice_index_or cell.blocks m None ≡ None
    past_parts m past =
        get_or_past cell.blocks m None
        (omega (arith, past, length-map-range_with_len (block_anew source block es marks) 0 (part_total es)))

    told : (m : ℕ) (b : Bool) → is_there (mark_at marks m) ≡ b → (o : Option ℕ) → page_block block es m ≡ o
        → option_map number_of (cond b (option_and_then (block_by source) o) None) ≡ cond b o None
    told m false e o says = refl
    told m true e None says = refl
    told m true e (Some number) says = there m number e says

    abbrev nothing : Option ℕ
    nothing = None

    either : (b : Bool) → nothing ≡ cond b nothing nothing
    either true = refl
    either false = refl

    numbers : (m : ℕ) → option_map number_of (slice_index_or cell.blocks m None)
        ≡ (if is_there (mark_or_fresh marks m) then page_block block es m else None)
    numbers m = elim (cases_lt m (part_total es)) [
      | inl lt ↦ ap (option_map number_of) (at_part m lt) ∙ told m (is_there (mark_at marks m)) refl (page_block block es m) refl
          ∙ ap (λ (k : Mark). cond (is_there k) (page_block block es m) None) (sym (same_mark m lt))
      | inr past ↦ ap (option_map number_of) (past_parts m past) ∙ either (is_there (mark_or_fresh marks m))
          ∙ ap (λ (o : Option ℕ). cond (is_there (mark_or_fresh marks m)) o None) (sym (no_page block es m past))
    ]

    sizes : (m : ℕ) (b : BlockValue) → slice_index_or cell.blocks m None ≡ Some b → length b.bytes ≡ block
    sizes m b e = elim (cases_lt m (part_total es)) [
      | inl lt ↦ found (is_there (mark_at marks m)) (page_block block es m) (sym (at_part m lt) ∙ e)
      | inr past ↦ absurd (none-some b (sym (past_parts m past) ∙ e))
    ] where
      found : (c : Bool) (o : Option ℕ) → cond c (option_and_then (block_by source) o) None ≡ Some b → length b.bytes ≡ block
      found false o e = absurd (none-some b e)
      found true None e = absurd (none-some b e)
      found true (Some number) e = sized_by block source number b sized e

    pub blocks_are : HasBlocks cell
    blocks_are = record {
      len = length-map-range_with_len (block_anew source block es marks) 0 (part_total es);
      numbers = numbers;
      sized = sizes;
    }

-- a part without a slot has no block
pub held_slots : (es : List Entry) (slots : List (Option BlockValue)) → length slots ≡ slot_total es
    → held_count (by_part es slots) ≡ count_by is_some slots
held_slots [] [] e = refl
held_slots [] (s ∷ slots) e = absurd (omega (arith, e))
held_slots (x ∷ es) slots e =
    count_append (take (part_count x) (None ∷ slots)) (by_part es (drop (slot_count x) slots))
    ∙ two (part_count x) refl (held_slots es (drop (slot_count x) slots) (omega (arith, e, length-drop (slot_count x) slots)))
  where
    count_append : (front back : List (Option BlockValue))
        → count_by is_some (front ++ back) ≡ count_by is_some front + count_by is_some back
    count_append front back = sum_by-append (λ (o : Option BlockValue). cond (is_some o) 1 0) front back

    whole : count_by is_some (take (slot_count x) slots) + count_by is_some (drop (slot_count x) slots) ≡ count_by is_some slots
    whole = sym (count_append (take (slot_count x) slots) (drop (slot_count x) slots))
        ∙ ap (count_by is_some) (take-append-drop (slot_count x) slots)

    two : (n : ℕ) → part_count x ≡ n
        → held_count (by_part es (drop (slot_count x) slots)) ≡ count_by is_some (drop (slot_count x) slots)
        → count_by is_some (take (part_count x) (None ∷ slots)) + held_count (by_part es (drop (slot_count x) slots))
        ≡ count_by is_some slots
    two zero q rest =
        let none : slot_count x ≡ 0 = omega (arith, q) in
        let own = ap (λ k. count_by is_some (take k (None ∷ slots))) q in
        let first = ap (λ k. count_by is_some (take k slots)) none in
        omega (arith, own, rest, whole, first)
    two (suc n) q rest =
        let less : slot_count x ≡ n = omega (arith, q) in
        let own = ap (λ k. count_by is_some (take k (None ∷ slots))) q
        ∙ sum_by-cons (λ (o : Option BlockValue). cond (is_some o) 1 0) None (take n slots) in
        let first = ap (λ k. count_by is_some (take k slots)) less in
        omega (arith, own, rest, whole, first)
