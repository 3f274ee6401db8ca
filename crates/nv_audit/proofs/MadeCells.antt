-- A cell whose marks and blocks are made of an image's blocks by its log.
use Rattle.std.proofs.Common.{◌≡◌, ℕ, ◌-◌, ◌<◌, ◌≤◌, ◌==◌, inl, inr, Bool, true, false, cond, List, [], ◌∷◌, length, Option, None, Some, refl, ap, arith, sym, subst, ◌∙◌}
use Rattle.std.specs.Prelude.{option_and_then, slice_index_or}
use Rattle.std.specs.Option.{option_map}
use Rattle.std.proofs.lemmas.Bool.{cases_lt, eqb-true}
use Rattle.std.proofs.lemmas.List.{get_or_default, get_or_past}
use Rattle.std.proofs.lemmas.List.FromFn.{get_or-map-range_with_len, length-map-range_with_len}
use Rattle.std.proofs.lemmas.Option.{none-some, same_Some}
use Rattle.nv_alloc.specs.Block.{AreSized, BlockValue, block_by, number_of}
use Rattle.nv_cell.specs.Anew.{block_anew, marks_anew}
use Rattle.nv_cell.specs.Cell.{CellState, HasBlocks, HasMarks, log_of, mark_or_fresh, page_block}
use Rattle.nv_cell.specs.Marks.{is_current, is_there, mark_at}
use Rattle.nv_cell.specs.Numbers.{number}
use Rattle.nv_cell.specs.Pages.{block_at_page}
use Rattle.nv_cell.specs.declared.mark.Mark.{Mark}
use Rattle.nv_cell.specs.declared.mark.Mark.TheVariants.{Current, Out}
use Rattle.nv_cell.proofs.CellAnew.{no_page, sized_by}
use Rattle.nv_cell.proofs.MarksAnew.{current_anew, len_anew}
use Rattle.nv_cell.proofs.PageBlocks.{page_number_is}
use Rattle.nv_entry.specs.Covered.{part_total}
use Rattle.nv_entry.specs.Keys.{PageKey}
use Rattle.nv_entry.specs.Log.{IsLog}
use Rattle.nv_entry.specs.Node.{block_now}
use Rattle.nv_entry.specs.Refs.{scan_ref}
use Rattle.nv_entry.specs.declared.item.Entry.{Entry}
use Rattle.nv_entry.specs.declared.part_ref.PartRef.{PartRef}
use Rattle.nv_audit.specs.MountedLogs.{HasItsBlocks, IsMadeOf}
use Rattle.nv_audit.proofs.SizeEnds.{IsWhole}

-- ---- blocks by their numbers

pub number_by : (blocks : List BlockValue) (number : ℕ) (b : BlockValue) → block_by blocks number ≡ Some b → b.number ≡ number
number_by [] number b e = cc
number_by (c ∷ blocks) number b e = go (c.number == number) refl e (number_by blocks number b) where
  go : (d : Bool) → (c.number == number) ≡ d → cond d (Some c) (block_by blocks number) ≡ Some b
      → (block_by blocks number ≡ Some b → b.number ≡ number) → b.number ≡ number
  go true q e more = ap (λ (x : BlockValue). x.number) (sym (same_Some c b e)) ∙ eqb-true c.number number q
  go false q e more = more e

-- ---- the cell

module _ (living : List ℕ) (blocks : List BlockValue) (cell : CellState) (made : IsMadeOf living blocks cell) where
  abbrev log : List Entry
  log = log_of cell

  abbrev marks : List Mark
  marks = marks_anew living cell.block log

  made_marks : HasMarks cell
  made_marks = record {
    len = ap (λ (ms : List Mark). length ms) made.marks ∙ len_anew living cell.block log;
    current = λ n lt.
        ap (λ (ms : List Mark). is_current (mark_at ms n)) made.marks
        ∙ ap is_current (sym (get_or_default marks n Current Out (omega (arith, lt, len_anew living cell.block log))))
        ∙ current_anew living cell.block log n lt;
  }

  -- the block of a part by its number
  at_part : (n : ℕ) → n < part_total log → slice_index_or cell.blocks n None ≡ block_anew blocks cell.block log marks n
  at_part n lt =
      ap (λ (bs : List (Option BlockValue)). slice_index_or bs n None) made.stored
      ∙ get_or-map-range_with_len (block_anew blocks cell.block log marks) 0 (part_total log) n n None lt (omega arith)

  many : length cell.blocks ≡ part_total log
  many =
      ap (λ (bs : List (Option BlockValue)). length bs) made.stored
      ∙ length-map-range_with_len (block_anew blocks cell.block log marks) 0 (part_total log)

  past_parts : (n : ℕ) → part_total log ≤ n → slice_index_or cell.blocks n None ≡ None
  past_parts n past = get_or_past cell.blocks n None (omega (arith, past, many))

  -- a block that the cell has is one of these
  pub among : (n : ℕ) (b : BlockValue) → slice_index_or cell.blocks n None ≡ Some b
      → (number : ℕ) × (block_by blocks number ≡ Some b)
  among n b e =
      elim (cases_lt n (part_total log)) [
        | inl lt ↦ found (is_there (mark_at marks n)) (page_block cell.block log n) (sym (at_part n lt) ∙ e)
        | inr past ↦ absurd (none-some b (sym (past_parts n (omega (arith, past))) ∙ e))
      ]
    where
      found : (c : Bool) (o : Option ℕ) → cond c (option_and_then (block_by blocks) o) None ≡ Some b
          → (number : ℕ) × (block_by blocks number ≡ Some b)
      found false o e = absurd (none-some b e)
      found true None e = absurd (none-some b e)
      found true (Some number) e = (number, e)

  module _ (has : HasItsBlocks blocks cell) (sized : AreSized cell.block blocks) where
    made_blocks : HasBlocks cell
    made_blocks = record {
      len = many ∙ sym (ap part_total made.whole);
      numbers = λ n. numbers n;
      sized = λ n b e.
          let by = among n b e in sized_by cell.block blocks by.0 b sized by.1;
    } where
      told : (n : ℕ) (b : Bool) → is_there (mark_at marks n) ≡ b → (o : Option ℕ) → page_block cell.block log n ≡ o
          → option_map number_of (cond b (option_and_then (block_by blocks) o) None) ≡ cond b o None
      told n false e o says = refl
      told n true e None says = refl
      told n true e (Some number) says =
          has.there n number
          (record { there = ap (λ (ms : List Mark). is_there (mark_at ms n)) made.marks ∙ e; says = says })

      nothing : Option ℕ
      nothing = None

      either : (b : Bool) → nothing ≡ cond b nothing nothing
      either true = refl
      either false = refl

      fresh : (n : ℕ) → n < part_total log → mark_or_fresh cell.marks n ≡ mark_at marks n
      fresh n lt =
          ap (λ (ms : List Mark). mark_or_fresh ms n) made.marks
          ∙ get_or_default marks n Current Out (omega (arith, lt, len_anew living cell.block log))

      first : (n : ℕ) → option_map number_of (slice_index_or cell.blocks n None)
          ≡ cond (is_there (mark_or_fresh cell.marks n)) (page_block cell.block log n) None
      first n =
          elim (cases_lt n (part_total log)) [
            | inl lt ↦ ap (option_map number_of) (at_part n lt)
                ∙ told n (is_there (mark_at marks n)) refl (page_block cell.block log n) refl
                ∙ ap (λ (k : Mark). cond (is_there k) (page_block cell.block log n) None) (sym (fresh n lt))
            | inr past ↦ ap (option_map number_of) (past_parts n (omega (arith, past)))
                ∙ either (is_there (mark_or_fresh cell.marks n))
                ∙ ap (λ (o : Option ℕ). cond (is_there (mark_or_fresh cell.marks n)) o None)
                (sym (no_page cell.block log n (omega (arith, past))))
          ]

      numbers : (n : ℕ) → option_map number_of (slice_index_or cell.blocks n None)
          ≡ cond (is_there (mark_or_fresh cell.marks n)) (page_block cell.block cell.chain.entries n) None
      numbers n =
          first n
          ∙ ap (λ (es : List Entry). cond (is_there (mark_or_fresh cell.marks n)) (page_block cell.block es n) None) (sym made.whole)

    pub made_whole : IsWhole cell
    made_whole = record {
      rising = subst IsLog (sym made.whole) made.rising;
      marks = made_marks;
      blocks = made_blocks;
    }

    -- the block of a page is the one of these whose number its log gives
    pub made_page : (page : ℕ) → option_and_then (block_by blocks) (block_now cell.block log page) ≡ block_at_page cell page
    made_page page = go (block_at_page cell page) refl where
      number_is : option_map number_of (block_at_page cell page) ≡ block_now cell.block log page
      number_is = page_number_is cell page made_whole.rising made_marks made_blocks

      by_ref : (o : Option PartRef) (b : BlockValue)
          → option_and_then (λ r. slice_index_or cell.blocks (number cell.chain.entries r) None) o ≡ Some b
          → (k : ℕ) × (block_by blocks k ≡ Some b)
      by_ref None b e = absurd (none-some b e)
      by_ref (Some r) b e = among (number cell.chain.entries r) b e

      go : (o : Option BlockValue) → block_at_page cell page ≡ o
          → option_and_then (block_by blocks) (block_now cell.block log page) ≡ block_at_page cell page
      go None e =
          ap (option_and_then (block_by blocks)) (sym number_is ∙ ap (option_map number_of) e) ∙ sym e
      go (Some b) e =
          let by = by_ref (scan_ref cell.block log (PageKey page)) b e in
          ap (option_and_then (block_by blocks)) (sym number_is ∙ ap (option_map number_of) e)
          ∙ ap (block_by blocks) (number_by blocks by.0 b by.1) ∙ by.1 ∙ sym e
