-- A part that is out has no block, while entries are appended and published and parts are kept and go out.
use Rattle.std.proofs.Common.{◌≡◌, ℕ, zero, suc, ◌<◌, ◌≤◌, nat_eq, nat_lt, Bool, true, false, cond, List, [], ◌∷◌, length, length-append, map, Option, Some, None, arith, refl, ap, sym, ◌∙◌, slice_set, slice_index_or, inl, inr}
use Rattle.std.specs.List.{range_with_len}
use Rattle.std.proofs.lemmas.Bool.{cases_lt, eqb-false, eqb-true}
use Rattle.std.proofs.lemmas.Bool.Decides.{nat_tests}
use Rattle.std.proofs.lemmas.List.{get_or-set_other, get_or_append_left, get_or_past, length-set}
use Rattle.std.proofs.lemmas.List.FromFn.{get_or-map-range_with_len, length-map-range_with_len, length-range_with_len}
use Rattle.std.proofs.Math.ListN.{length-map}
use Rattle.nv_alloc.specs.Block.{BlockValue}
use Rattle.nv_entry.specs.declared.item.Entry.{Entry}
use Rattle.nv_entry.specs.declared.item.Item.{Item}
use Rattle.nv_entry.specs.declared.item.Item.TheVariants.{Init, Write, SetSize, SetMode, Bind, Unbind, Gone}
use Rattle.nv_entry.specs.Blocks.{item_blocks}
use Rattle.nv_entry.specs.Covered.{part_total}
use Rattle.nv_entry.specs.Keys.{parts_of}
use Rattle.nv_cell.specs.declared.mark.Mark.{Mark}
use Rattle.nv_cell.specs.declared.mark.Mark.TheVariants.{Kept, Out}
use Rattle.nv_cell.specs.Append.{IsWithinFile, appended, part_blocks}
use Rattle.nv_cell.specs.Cell.{CellState, HasMarks, IsCell, held_count, mark_or_fresh, page_block, published, with_mark, without_part}
use Rattle.nv_cell.specs.Marks.{is_there, mark_at}
use Rattle.nv_cell.specs.Numbers.{part_base, published_mark}
use Rattle.nv_cell.specs.Readers.{keeps_nothing}
use Rattle.nv_cell.proofs.Appending.{length_none, length_parts}
use Rattle.nv_cell.proofs.Erasing.{none_there, unmapped}
use Rattle.nv_cell.proofs.Held.{held_nothing}
use Rattle.nv_cell.proofs.Numbers.{total_append}
use Rattle.nv_cell.proofs.Published.{there_stays}
use Rattle.nv_cell.proofs.Publishing.{total_take}

-- there is a place for each part, no more marks than places, and none of a part that is out has a block
pub record AreEmptied (cell : CellState) : Type 0 where
  pub len : length cell.blocks ≡ part_total cell.chain.entries
  pub few : length cell.marks ≤ length cell.blocks
  pub out : (n : ℕ) → is_there (mark_or_fresh cell.marks n) ≡ false → slice_index_or cell.blocks n None ≡ None

pub cell_emptied : (cell : CellState) → IsCell cell → AreEmptied cell
cell_emptied cell is = record {
  len = is.blocks.len;
  few = omega (arith, is.marks.len, is.blocks.len, total_take cell.chain.entries cell.chain.tail);
  out = λ n out.
      unmapped (slice_index_or cell.blocks n None)
      (is.blocks.numbers n ∙ ap (λ (b : Bool). cond b (page_block cell.block cell.chain.entries n) None) out);
}

-- ---- appending

out_within : (marks : List Mark) (n : ℕ) → is_there (mark_or_fresh marks n) ≡ false → n < length marks
out_within [] n h = let z : true ≡ false = h in cc
out_within (m ∷ marks) zero h = omega arith
out_within (m ∷ marks) (suc n) h = let r = out_within marks n h in omega (arith, r)

part_places : (item : Item) (bs : List BlockValue) → IsWithinFile item → length bs ≡ length (item_blocks item)
    → length (part_blocks item bs) ≡ length (parts_of item)
part_places (Write first run size) bs within len =
    omega (arith, length-map bs Some, len, length-range_with_len run.start run.len, length_parts first size run within)
part_places (Init kind mode) bs within len = length_none (length (parts_of (Init kind mode)))
part_places (SetSize size) bs within len = length_none (length (parts_of (SetSize size)))
part_places (SetMode mode) bs within len = length_none (length (parts_of (SetMode mode)))
part_places (Bind name to) bs within len = length_none (length (parts_of (Bind name to)))
part_places (Unbind name) bs within len = length_none (length (parts_of (Unbind name)))
part_places Gone bs within len = length_none (length (parts_of Gone))

pub appended_emptied : (e : Entry) (bs : List BlockValue) (cell : CellState) → IsWithinFile e.item
    → length bs ≡ length (item_blocks e.item) → AreEmptied cell → AreEmptied (appended e bs cell)
appended_emptied e bs cell within len h =
    let places = part_blocks e.item bs in
    let both = length-append cell.blocks places in
    record {
      len = omega (arith, both, h.len, part_places e.item bs within len, total_append cell.chain.entries (e ∷ []));
      few = omega (arith, both, h.few);
      out = λ n out.
          get_or_append_left cell.blocks places None n (omega (arith, out_within cell.marks n out, h.few)) ∙ h.out n out;
    }

-- ---- publishing

module _ (cell : CellState) (marks : HasMarks cell) where
  abbrev mark : ℕ → Mark
  mark n = published_mark cell.block cell.chain.entries cell.chain.tail cell.marks n

  abbrev total : ℕ
  total = part_total cell.chain.entries

  new_mark : (n : ℕ) → mark_at (map mark (range_with_len 0 total)) n ≡ mark n
  new_mark n = elim (cases_lt n total) [
    | inl lt ↦ get_or-map-range_with_len mark 0 total n n Out lt (omega arith)
    | inr ge ↦
        let z : nat_lt n total ≡ false = grind (arith, nat_tests, ge) in
        let few : part_base cell.chain.entries cell.chain.tail ≤ n =
        omega (arith, ge, total_take cell.chain.entries cell.chain.tail) in
        let y : nat_lt n (part_base cell.chain.entries cell.chain.tail) ≡ false = grind (arith, nat_tests, few) in
        get_or_past (map mark (range_with_len 0 total)) n Out (omega (arith, ge, length-map-range_with_len mark 0 total))
        ∙ rw (z, y) refl
  ]

  pub published_emptied : AreEmptied cell → AreEmptied (published cell)
  published_emptied h =
      let count = length-map-range_with_len mark 0 total in
      record {
        len = h.len;
        few = omega (arith, count, h.len);
        out = λ n out.
            h.out n (sym (there_stays cell.block cell.chain.entries cell.chain.tail cell.marks (map mark (range_with_len 0 total))
            marks.len count marks.current new_mark n) ∙ out);
      }

  pub published_count : length (published cell).marks ≡ total
  published_count = length-map-range_with_len mark 0 total

-- ---- a part is kept, or goes out

still_out : (marks : List Mark) (n m : ℕ) → is_there (mark_or_fresh (slice_set marks n Kept) m) ≡ false
    → is_there (mark_or_fresh marks m) ≡ false
still_out [] n m h = h
still_out (x ∷ marks) zero zero h = let z : true ≡ false = h in cc
still_out (x ∷ marks) zero (suc m) h = h
still_out (x ∷ marks) (suc n) zero h = h
still_out (x ∷ marks) (suc n) (suc m) h = still_out marks n m h

no_block : (blocks : List (Option BlockValue)) (n : ℕ) → slice_index_or (slice_set blocks n None) n None ≡ None
no_block [] n = refl
no_block (x ∷ blocks) zero = refl
no_block (x ∷ blocks) (suc n) = no_block blocks n

pub kept_emptied : (cell : CellState) (n : ℕ) → AreEmptied cell → AreEmptied (with_mark cell n Kept)
kept_emptied cell n h = record {
  len = h.len;
  few = omega (arith, h.few, length-set cell.marks n Kept);
  out = λ m out. h.out m (still_out cell.marks n m out);
}

pub without_emptied : (cell : CellState) (n : ℕ) → AreEmptied cell → AreEmptied (without_part cell n)
without_emptied cell n h =
    let blocks = length-set cell.blocks n None in
    record {
      len = omega (arith, h.len, blocks);
      few = omega (arith, h.few, blocks, length-set cell.marks n Out);
      out = λ m out. go m (nat_eq m n) refl out;
    } where
      go : (m : ℕ) (b : Bool) → nat_eq m n ≡ b → is_there (mark_or_fresh (slice_set cell.marks n Out) m) ≡ false
          → slice_index_or (slice_set cell.blocks n None) m None ≡ None
      go m true q out = rw (eqb-true m n q) (no_block cell.blocks n)
      go m false q out =
          let differ : m ≡ n → ⊥ = eqb-false m n q in
          get_or-set_other cell.blocks n m None None differ
          ∙ h.out m (ap is_there (sym (get_or-set_other cell.marks n m Out _ differ)) ∙ out)

-- ---- where nothing is kept, there is no block

pub nothing_held : (cell : CellState) → AreEmptied cell → length cell.marks ≡ length cell.blocks → keeps_nothing cell ≡ true
    → held_count cell.blocks ≡ 0
nothing_held cell h len nothing =
    held_nothing cell.blocks (λ n. elim (cases_lt n (length cell.marks)) [
      | inl lt ↦ h.out n (none_there cell.marks n nothing lt)
      | inr ge ↦ get_or_past cell.blocks n None (omega (arith, ge, len))
    ])
