-- A cell has the marks and blocks of its parts, whatever is appended, published or retired there.
use Rattle.std.proofs.Common.{Bool, List, None, Option, Some, [], ap, arith, cond, drop, false, if◌then◌else◌, inl, inr, length, length-append, map, nat_lt, not, refl, subst, sym, take, true, ℕ, ◌++◌, ◌+◌, ◌<◌, ◌∙◌, ◌∷◌, ◌≡◌, ◌≤◌}
use Rattle.std.specs.Prelude.{unwrap_or}
use Rattle.std.specs.List.{AllByRecursion, range_with_len}
use Rattle.std.proofs.lemmas.Bool.{cases_lt, false≢true, le-ltb}
use Rattle.std.proofs.lemmas.List.{get_or_past}
use Rattle.std.proofs.lemmas.List.FromFn.{get_or-map-range_with_len, length-map-range_with_len}
use Rattle.nv_alloc.specs.Block.{AreSized, BlockValue, numbers_of}
use Rattle.nv_book.specs.Listed.{with_retired}
use Rattle.nv_book.specs.declared.record.Record.{Record}
use Rattle.nv_calls.specs.Retiring.{erased, keeper_of, name_of, record_of, released, retired, settled}
use Rattle.nv_calls.proofs.Appends.{front, map-drop, map-take}
use Rattle.nv_cell.specs.Append.{IsWithinFile, appended, blocks_for}
use Rattle.nv_cell.specs.Cell.{CellState, empty_cell, log_of, number_in, page_block, published, with_mark, without_part}
use Rattle.nv_cell.specs.Marks.{is_current, is_killed, is_there, mark_at}
use Rattle.nv_cell.specs.Numbers.{part_base, published_mark}
use Rattle.nv_cell.specs.declared.killed.KilledPart.{KilledPart}
use Rattle.nv_cell.specs.declared.mark.Mark.{Mark}
use Rattle.nv_cell.specs.declared.mark.Mark.TheVariants.{Kept, Out}
use Rattle.nv_cell.proofs.Appending.{blocks_append, log_stays}
use Rattle.nv_cell.proofs.Cells.{mark_now}
use Rattle.nv_cell.proofs.Published.{there_stays}
use Rattle.nv_cell.proofs.Publishing.{take_whole, total_take}
use Rattle.nv_cell.proofs.Remarking.{block_leaves, blocks_stay, marks_stay}
use Rattle.nv_entry.specs.Blocks.{item_blocks}
use Rattle.nv_entry.specs.Covered.{is_covered, part_total}
use Rattle.nv_entry.specs.Log.{IsLog}
use Rattle.nv_entry.specs.declared.item.Entry.{Entry}
use Rattle.nv_machine.specs.Kinds.{with_entries, with_log_pages}
use Rattle.nv_machine.specs.Recorded.{is_marked_kept}
use Rattle.nv_machine.specs.Whole.{HasItsParts}
use Rattle.nv_machine.proofs.FiledLists.{count, one}
use Rattle.nv_machine.proofs.FiledMarks.{filed_number, is_so, kept_not_current, kept_so, killed_not_current, low, low_filed}
use Rattle.nv_machine.proofs.FiledSteps.{MarksOf, number_is_its, settled_is_log, settled_marks}
use Rattle.nv_machine.proofs.Pairs.{IsRecordOf}
use Rattle.nv_cell.specs.Readers.{is_erased}
use Rattle.nv_machine.proofs.PartPlaces.{entry_blocks, sized_first, sized_later}

-- ---- more log pages, and more entries

pub paged_parts : (block : ℕ) (pages : List BlockValue) (cell : CellState) → HasItsParts block cell
    → HasItsParts block (with_log_pages pages cell)
paged_parts block [] cell h = h
paged_parts block (b ∷ pages) cell h =
    paged_parts block pages (record cell { chain = record cell.chain { blocks = cell.chain.blocks ++ b ∷ [] } }) (record {
      size = h.size;
      within = h.within;
      marks = record { len = h.marks.len; current = h.marks.current };
      blocks = record { len = h.blocks.len; numbers = h.blocks.numbers; sized = h.blocks.sized };
    })

appended_parts : (block : ℕ) (e : Entry) (bs : List BlockValue) (cell : CellState) → IsWithinFile e.item
    → numbers_of bs ≡ item_blocks e.item → AreSized block bs → HasItsParts block cell → HasItsParts block (appended e bs cell)
appended_parts block e bs cell within nums sized h = record {
  size = h.size;
  within = omega (arith, h.within, length-append cell.chain.entries (e ∷ []));
  marks = record {
    len = h.marks.len ∙ ap part_total (sym same);
    current = λ n lt. h.marks.current n (subst (λ (log : List Entry). n < part_total log) same lt)
        ∙ ap (λ (log : List Entry). not (is_covered cell.block log n)) (sym same);
  };
  blocks = blocks_append cell e bs h.blocks (omega (arith, h.marks.len, total_take cell.chain.entries cell.chain.tail)) within nums
      (subst (λ (size : ℕ). AreSized size bs) (sym h.size) sized);
} where
  same : log_of (appended e bs cell) ≡ log_of cell
  same = log_stays cell.chain.tail cell.chain.entries e h.within

pub entries_parts : (block : ℕ) (entries : List Entry) (bs : List BlockValue) (cell : CellState)
    → AllByRecursion (λ (e : Entry). IsWithinFile e.item) entries
    → take (length (entry_blocks entries)) (numbers_of bs) ≡ entry_blocks entries → AreSized block bs
    → HasItsParts block cell → HasItsParts block (with_entries entries bs cell)
entries_parts block [] bs cell within nums sized h = h
entries_parts block (e ∷ entries) bs cell within nums sized h =
    let k = length (item_blocks e.item) in
    let cut = front (item_blocks e.item) (entry_blocks entries) (numbers_of bs) nums in
    entries_parts block entries (drop k bs) (appended e (blocks_for e.item bs) cell) within.1
    (ap (take (length (entry_blocks entries))) (map-drop k bs) ∙ cut.1) (sized_later block k bs sized)
    (appended_parts block e (blocks_for e.item bs) cell within.0 (map-take k bs ∙ cut.0) (sized_first block k bs sized) h)

-- ---- published

pub published_parts : (block : ℕ) (cell : CellState) → HasItsParts block cell → HasItsParts block (published cell)
published_parts block cell h = record {
  size = h.size;
  within = omega arith;
  marks = record {
    len = many ∙ ap part_total (sym (take_whole es));
    current = λ n lt. mark_now cell.block es tail n (mark_at cell.marks n) (mark_at new n)
        (subst (λ (log : List Entry). n < part_total log) (take_whole es) lt) h.within (λ l. h.marks.current n l) (is n)
        ∙ ap (λ (log : List Entry). not (is_covered cell.block log n)) (sym (take_whole es));
  };
  blocks = record {
    len = h.blocks.len;
    numbers = λ n. h.blocks.numbers n
        ∙ ap (λ (b : Bool). cond b (page_block cell.block es n) None)
        (sym (there_stays cell.block es tail cell.marks new h.marks.len many h.marks.current is n));
    sized = h.blocks.sized;
  };
} where
  es : List Entry
  es = cell.chain.entries

  tail : ℕ
  tail = cell.chain.tail

  mark : ℕ → Mark
  mark n = published_mark cell.block es tail cell.marks n

  new : List Mark
  new = map mark (range_with_len 0 (part_total es))

  many : length new ≡ part_total es
  many = length-map-range_with_len mark 0 (part_total es)

  is_out : (n : ℕ) → part_total es ≤ n → mark n ≡ Out
  is_out n ge =
      let past : nat_lt n (part_total es) ≡ false = le-ltb n (part_total es) ge in
      let also : nat_lt n (part_base es tail) ≡ false = le-ltb n (part_base es tail) (omega (arith, ge, total_take es tail)) in
      rw (past, also) refl

  is : (n : ℕ) → mark_at new n ≡ mark n
  is n = elim (cases_lt n (part_total es)) [
    | inl lt ↦ get_or-map-range_with_len mark 0 (part_total es) n n Out lt (omega arith)
    | inr ge ↦ get_or_past new n Out (omega (arith, ge, many)) ∙ sym (is_out n ge)
  ]

-- ---- retired, and released

one_out : (block n : ℕ) (cell : CellState) → n < length cell.marks → is_current (mark_at cell.marks n) ≡ false → HasItsParts block cell
    → HasItsParts block (without_part cell n)
one_out block n cell low was h =
    let marks = marks_stay cell n Out h.marks low was refl in
    record {
      size = h.size;
      within = h.within;
      marks = record { len = marks.len; current = marks.current };
      blocks = block_leaves cell n h.blocks low
          (omega (arith, low, h.marks.len, h.blocks.len, total_take cell.chain.entries cell.chain.tail));
    }

one_kept : (block n : ℕ) (cell : CellState) → n < length cell.marks → is_current (mark_at cell.marks n) ≡ false
    → is_there (mark_at cell.marks n) ≡ true → HasItsParts block cell → HasItsParts block (with_mark cell n Kept)
one_kept block n cell low was there h =
    let marks = marks_stay cell n Kept h.marks low was refl in
    let blocks = blocks_stay cell n Kept h.blocks low there refl in
    record {
      size = h.size;
      within = h.within;
      marks = record { len = marks.len; current = marks.current };
      blocks = record { len = blocks.len; numbers = blocks.numbers; sized = blocks.sized };
    }

killed_there : (m : Mark) → is_killed m ≡ true → is_there m ≡ true
killed_there Out e = absurd (false≢true e)
killed_there other e = refl

pub retired_parts : (block : ℕ) (living : List ℕ) (ino epoch : ℕ) (parts : List KilledPart) (rs : List Record) (cell : CellState)
    → IsLog (log_of cell) → MarksOf living ino epoch parts rs cell → HasItsParts block cell
    → HasItsParts block (retired living ino epoch parts cell)
retired_parts block living ino epoch [] rs cell is m h = h
retired_parts block living ino epoch (k ∷ parts) rs cell is m h =
    retired_parts block living ino epoch parts (with_retired living (record_of ino epoch k) rs)
    (settled (keeper_of living ino epoch k) n cell) (settled_is_log living ino epoch k parts rs cell is m)
    (settled_marks living ino epoch k parts rs cell is m) (one (keeper_of living ino epoch k)) where
      n : ℕ
      n = number_in cell k.part

      same : m.dying.0.n ≡ n
      same = sym (number_is_its living ino epoch k parts rs cell is m)

      killed : is_killed (mark_at cell.marks n) ≡ true
      killed = ap (λ (i : ℕ). is_killed (mark_at cell.marks i)) (sym same)
          ∙ is_so living ino epoch k parts rs cell.block (log_of cell) cell.marks is m

      there : n < length cell.marks
      there = let l = low living ino epoch k parts rs cell.block (log_of cell) cell.marks is m in omega (arith, l, same)

      one : (o : Option ℕ) → HasItsParts block (settled o n cell)
      one (Some s) =
          one_kept block n cell there (killed_not_current (mark_at cell.marks n) killed) (killed_there (mark_at cell.marks n) killed) h
      one None = one_out block n cell there (killed_not_current (mark_at cell.marks n) killed) h

pub released_parts : (block : ℕ) (living : List ℕ) (epoch : ℕ) (killed : List KilledPart) (before after : List Record) (d : Record)
    (cell : CellState) → IsLog (log_of cell) → MarksOf living d.ino epoch killed before cell
    → IsRecordOf living cell.block (log_of cell) d → ((p : Record → Bool) → count p before ≡ one (p d) + count p after)
    → HasItsParts block cell → HasItsParts block (released d cell)
released_parts block living epoch killed before after d cell is m pair counts h =
    one_out block n cell there (kept_not_current (mark_at cell.marks n) kept) h where
      n : ℕ
      n = number_in cell (name_of d)

      same : pair.n ≡ n
      same = sym (ap (λ (o : Option ℕ). unwrap_or o 0)
          (filed_number living d.ino epoch killed before after d cell.block (log_of cell) cell.marks is m refl pair counts))

      kept : is_marked_kept (mark_at cell.marks n) ≡ true
      kept = ap (λ (i : ℕ). is_marked_kept (mark_at cell.marks i)) (sym same)
          ∙ kept_so living d.ino epoch killed before after d cell.block (log_of cell) cell.marks is m refl pair counts

      there : n < length cell.marks
      there =
          let l = low_filed living d.ino epoch killed before after d cell.block (log_of cell) cell.marks is m refl pair counts in
          omega (arith, l, same)

-- ---- erased

pub empty_parts : (block page generation version : ℕ) → HasItsParts block (empty_cell block page generation version)
empty_parts block page generation version = record {
  size = refl;
  within = omega arith;
  marks = record { len = refl; current = λ n lt. absurd (omega (arith, lt)) };
  blocks = record { len = refl; numbers = λ n. refl; sized = λ n b e. cc };
}

pub erased_parts : (block : ℕ) (cell : CellState) → HasItsParts block cell → HasItsParts block (erased cell)
erased_parts block cell h = go (is_erased cell) where
  go : (b : Bool)
      → HasItsParts block (if b then empty_cell cell.block cell.chain.page (cell.generation + 1) cell.version else cell)
  go true = subst (λ (size : ℕ). HasItsParts size (empty_cell cell.block cell.chain.page (cell.generation + 1) cell.version)) h.size
      (empty_parts cell.block cell.chain.page (cell.generation + 1) cell.version)
  go false = h
