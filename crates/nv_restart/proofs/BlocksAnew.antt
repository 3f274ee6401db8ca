-- The blocks of a mounted cell are those that its entries say.
use Rattle.std.proofs.Common.{◌≡◌, ℕ, ◌<◌, ◌==◌, ◌∙◌, inl, inr, Bool, true, false, cond, List, [], ◌∷◌, Option, Some, None, ap, arith, refl, sym, take}
use Rattle.std.specs.Prelude.{option_and_then, slice_index_or}
use Rattle.std.proofs.lemmas.Bool.{cases_lt, eqb-true}
use Rattle.std.proofs.lemmas.List.{get_or_past}
use Rattle.std.proofs.lemmas.List.FromFn.{get_or-map-range_with_len, length-map-range_with_len}
use Rattle.std.proofs.lemmas.Option.{none-some, same_Some}
use Rattle.nv_alloc.specs.Block.{BlockValue, block_by}
use Rattle.nv_audit.specs.Image.{SlotImageValue}
use Rattle.nv_audit.specs.Mounted.{cell_with}
use Rattle.nv_cell.specs.Anew.{block_anew, marks_anew}
use Rattle.nv_base.specs.declared.geometry.GeometryNumbers.{GeometryNumbers}
use Rattle.nv_cell.specs.Cell.{page_block}
use Rattle.nv_cell.specs.Marks.{is_there, mark_at}
use Rattle.nv_cell.specs.declared.mark.Mark.{Mark}
use Rattle.nv_entry.specs.Covered.{part_total}
use Rattle.nv_entry.specs.declared.item.Entry.{Entry}
use Rattle.nv_machine.specs.Kept.{AreApart}

its_number : (number : ℕ) (x : BlockValue) (blocks : List BlockValue)
    → block_by blocks number ≡ Some x → x.number ≡ number
its_number number x [] e = cc
its_number number x (y ∷ blocks) e =
    go (y.number == number) refl e (its_number number x blocks) where
      go : (d : Bool) → (y.number == number) ≡ d
          → cond d (Some y) (block_by blocks number) ≡ Some x
          → (block_by blocks number ≡ Some x → x.number ≡ number) → x.number ≡ number
      go true q e more =
          ap (λ (z : BlockValue). z.number) (sym (same_Some y x e)) ∙ eqb-true y.number number q
      go false q e more = more e

module _ (g : GeometryNumbers) (living : List ℕ) (n : ℕ) (slot : SlotImageValue) where
  abbrev log : List Entry
  log = take n slot.chain.entries

  abbrev marks : List Mark
  marks = marks_anew living g.block (take n slot.chain.entries)

  abbrev cell_blocks : List (Option BlockValue)
  cell_blocks = (cell_with g living n slot).blocks

  -- the part of a log has the block that its entry says, where it is to be there
  pub at_part : (k : ℕ) → k < part_total (take n slot.chain.entries)
      → slice_index_or (cell_with g living n slot).blocks k None
      ≡ block_anew slot.blocks g.block (take n slot.chain.entries)
      (marks_anew living g.block (take n slot.chain.entries)) k
  at_part k lt =
      get_or-map-range_with_len (block_anew slot.blocks g.block log marks) 0 (part_total log) k k
      None lt (omega arith)

  -- a block of a part that is to be there
  pub record IsToldBlock (k : ℕ) (x : BlockValue) : Type 0 where
    pub low : k < part_total (take n slot.chain.entries)
    pub there : is_there (mark_at (marks_anew living g.block (take n slot.chain.entries)) k) ≡ true
    pub says : page_block g.block (take n slot.chain.entries) k ≡ Some x.number
    pub found : block_by slot.blocks x.number ≡ Some x

  pub told : (k : ℕ) (x : BlockValue)
      → slice_index_or (cell_with g living n slot).blocks k None ≡ Some x → IsToldBlock k x
  told k x is = elim (cases_lt k (part_total log)) [
    | inl lt ↦
        of lt (is_there (mark_at marks k)) refl (page_block g.block log k) refl
        (sym (at_part k lt) ∙ is)
    | inr past ↦ absurd (none-some x (sym (get_or_past cell_blocks k None
        (omega (
          arith,
          past,
          length-map-range_with_len (block_anew slot.blocks g.block log marks) 0
              (part_total log),
        ))) ∙ is))
  ] where
    of : k < part_total (take n slot.chain.entries) → (d : Bool)
        → is_there (mark_at (marks_anew living g.block (take n slot.chain.entries)) k) ≡ d
        → (o : Option ℕ) → page_block g.block (take n slot.chain.entries) k ≡ o
        → cond d (option_and_then (block_by slot.blocks) o) None ≡ Some x → IsToldBlock k x
    of lt false e o says got = absurd (none-some x got)
    of lt true e None says got = absurd (none-some x got)
    of lt true e (Some number) says got =
        let same = its_number number x slot.blocks got in
        record {
          low = lt;
          there = e;
          says = says ∙ ap (λ (z : ℕ). Some z) (sym same);
          found = ap (block_by slot.blocks) same ∙ got;
        }

  -- no two have one number, where no two parts that are to be there say one
  pub apart_anew : ((k m number : ℕ)
      → is_there (mark_at (marks_anew living g.block (take n slot.chain.entries)) k) ≡ true
      → is_there (mark_at (marks_anew living g.block (take n slot.chain.entries)) m) ≡ true
      → page_block g.block (take n slot.chain.entries) k ≡ Some number
      → page_block g.block (take n slot.chain.entries) m ≡ Some number → k ≡ m)
      → AreApart (cell_with g living n slot).blocks
  apart_anew once k m b c at_k at_m same =
      let one = told k b at_k in
      let two = told m c at_m in
      once k m b.number one.there two.there one.says
      (two.says ∙ ap (λ (z : ℕ). Some z) (sym same))
