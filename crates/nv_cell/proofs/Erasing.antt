-- No block is left of a log whose parts are all out.
use Rattle.std.proofs.Common.{◌≡◌, ℕ, zero, suc, ◌<◌, ◌||◌, Bool, true, false, not, cond, List, [], ◌∷◌, length, Option, Some, None, arith, refl, ap, ◌∙◌, slice_index_or, inl, inr}
use Rattle.std.specs.List.{list_any}
use Rattle.std.specs.Option.{option_map}
use Rattle.std.proofs.lemmas.Bool.{cases_lt}
use Rattle.std.proofs.lemmas.List.{get_or_past}
use Rattle.nv_alloc.specs.Block.{BlockValue, number_of}
use Rattle.nv_entry.specs.declared.item.Entry.{Entry}
use Rattle.nv_entry.specs.Covered.{part_total}
use Rattle.nv_cell.specs.declared.mark.Mark.{Mark}
use Rattle.nv_cell.specs.Cell.{CellState, HasBlocks, mark_or_fresh, page_block}
use Rattle.nv_cell.specs.Marks.{is_there}
use Rattle.nv_cell.specs.Slots.{by_part, slot_total}
use Rattle.nv_cell.proofs.Slots.{part_of_slot, slot_is_part}

pub none_there : (marks : List Mark) (n : ℕ) → not (list_any is_there marks) ≡ true → n < length marks
    → is_there (mark_or_fresh marks n) ≡ false
none_there [] n h lt = absurd (omega arith)
none_there (m ∷ marks) n h lt = go n (is_there m) refl h lt (λ k r l. none_there marks k r l) where
  go : (n : ℕ) (b : Bool) → is_there m ≡ b → not (b || list_any is_there marks) ≡ true → n < length (m ∷ marks)
      → ((k : ℕ) → not (list_any is_there marks) ≡ true → k < length marks → is_there (mark_or_fresh marks k) ≡ false)
      → is_there (mark_or_fresh (m ∷ marks) n) ≡ false
  go n true q k l rec = let z : false ≡ true = k in cc
  go zero false q k l rec = q
  go (suc n) false q k l rec = rec n k (omega (arith, l))

pub unmapped : (o : Option BlockValue) → option_map number_of o ≡ None → o ≡ None
unmapped None h = refl
unmapped (Some b) h = cc

pub none_left : (cell : CellState) → HasBlocks cell → length cell.marks ≡ part_total cell.chain.entries
    → not (list_any is_there cell.marks) ≡ true → (n : ℕ) → slice_index_or cell.blocks n None ≡ None
none_left cell h all none n = elim (cases_lt n (length cell.marks)) [
  | inl lt ↦
      let out : is_there (mark_or_fresh cell.marks n) ≡ false = none_there cell.marks n none lt in
      unmapped (slice_index_or cell.blocks n None)
      (h.numbers n ∙ ap (λ (b : Bool). cond b (page_block cell.block cell.chain.entries n) None) out)
  | inr ge ↦ get_or_past cell.blocks n None (omega (arith, ge, all, h.len))
]

pub slots_empty : (es : List Entry) (slots : List (Option BlockValue)) → length slots ≡ slot_total es
    → ((n : ℕ) → slice_index_or (by_part es slots) n None ≡ None) → (k : ℕ) → slice_index_or slots k None ≡ None
slots_empty es slots len none k = slot_is_part es slots k len ∙ none (part_of_slot es k)
