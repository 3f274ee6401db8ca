-- Where nothing runs, what one scan of a log counts of each of its pages is what the world with
-- numbers reports.
use Rattle.std.proofs.Common.{◌≡◌, ℕ, zero, suc, ◌+◌, ◌-◌, ◌<◌, ◌≤◌, ◌++◌, ◌∙◌, List, [], ◌∷◌, ap, arith, drop, get_or, inl, inr, length, length-drop, map, refl, subst, sym, take}
use Rattle.std.specs.List.{range_with_len}
use Rattle.std.proofs.lemmas.Bool.{cases_lt}
use Rattle.std.proofs.lemmas.List.{drop-drop, take-append-drop}
use Rattle.nv_alloc.specs.Block.{BlockValue}
use Rattle.nv_base.specs.declared.geometry.GeometryNumbers.{GeometryNumbers}
use Rattle.nv_book.specs.declared.record.Record.{Record}
use Rattle.nv_cell.specs.Cell.{CellState, log_of}
use Rattle.nv_cell.specs.Retained.{published_on}
use Rattle.nv_cell.specs.declared.tally.LogPageCounts.{LogPageCounts}
use Rattle.nv_entry.specs.Counts.{live_of, valid_of}
use Rattle.nv_entry.specs.Held.{Retention}
use Rattle.nv_entry.specs.declared.item.Entry.{Entry}
use Rattle.nv_log.specs.Chain.{AreEnds, parts_from, start_of}
use Rattle.nv_log.proofs.Parts.{from_le_len, joined-parts, length-parts, start_past}
use Rattle.nv_machine.specs.Held.{retention_at}
use Rattle.nv_machine.specs.Starts.{IsStart}
use Rattle.nv_machine.specs.World.{World, cell_at}
use Rattle.nv_serial.specs.LogPages.{Page}
use Rattle.nv_serial.specs.Reports.{entry_count, log_told, pages_counted}
use Rattle.nv_serial.specs.Serial.{NumberedSlot, Serial, keepers, slot_of}
use Rattle.nv_serial.specs.Shown.{pages_told, slot_told}
use Rattle.nv_serial.proofs.AtRestLogs.{keepers_are, log_is, past_cells, slot_is, told_by, told_entries, whole_log}
use Rattle.nv_serial.proofs.AtRestReports.{told_many}

-- a list told place by place
each_by_place : {X : Type 0} (xs : List X) (d : X) (from : ℕ) (f : ℕ → X)
    → ((i : ℕ) → i < length xs → get_or xs i d ≡ f (from + i))
    → xs ≡ map f (range_with_len from (length xs))
each_by_place [] d from f same = refl
each_by_place {X} (x ∷ xs) d from f same =
    let here : from + 0 ≡ from = omega arith in
    ap (λ (y : X). y ∷ xs) (same 0 (omega arith) ∙ ap f here)
    ∙ ap (λ (ys : List X). f from ∷ ys)
    (each_by_place xs d (from + 1) f (λ i lt. let next : from + suc i ≡ from + 1 + i =
    omega arith in
    same (suc i) (omega (arith, lt)) ∙ ap f next))

-- no part begins before the first
start_low : (most from : ℕ) (ends : List ℕ) (len k : ℕ) → AreEnds most from ends len → k
    ≤ length ends → from ≤ get_or (from ∷ ends) k len
start_low most from ends len zero are le = omega arith
start_low most from [] len (suc k) are le = absurd (omega (arith, le))
start_low most from (end ∷ ends) len (suc k) are le = omega (
  arith,
  are.0,
  start_low most end ends
      len k are.2 (omega (arith, le)),
)

module _ (r : Retention) where
  -- the counts of a page with so many entries, in the log from its first one on
  abbrev pub counts : ℕ → List Entry → LogPageCounts
  counts n log = record { live = live_of r.block n log; valid = valid_of r n log }

  counted_many : (pages : List Page) → length (pages_counted r pages) ≡ length pages
  counted_many [] = refl
  counted_many (p ∷ pages) = ap suc (counted_many pages)

  at_page : (most from : ℕ) (ends : List ℕ) (len : ℕ) (xs : List Entry) (blocks : List BlockValue)
      (k : ℕ) (d : LogPageCounts)
      → AreEnds most from ends len → from + length xs ≡ len → length ends ≤ length blocks
      → k < length blocks
      → get_or (pages_counted r (pages_told blocks (parts_from from ends xs))) k d
      ≡ counts (length (get_or (parts_from from ends xs) k []))
      (drop (get_or (from ∷ ends) k len - from) xs)
  at_page most from ends len xs [] k d are size paged lt = absurd (omega (arith, lt))
  at_page most from [] len xs (b ∷ blocks) zero d are size paged lt = refl
  at_page most from [] len xs (b ∷ blocks) (suc k) d are size paged lt =
      at_page most from [] len xs blocks k d are size (omega arith) (omega (arith, lt))
  at_page most from (end ∷ ends) len xs (b ∷ blocks) zero d are size paged lt =
      let n : ℕ = end - from in
      let rest : List (List Entry) = parts_from end ends (drop n xs) in
      let within = from_le_len most end ends len are.2 in
      let left : end + length (drop n xs)
      ≡ len = omega (arith, length-drop n xs, are.0, size, within) in
      let nothing : 0 ≡ from - from = omega arith in
      ap (λ (log : List Entry). counts (length (take n xs)) log)
      (ap (λ (es : List Entry). take n xs ++ es)
      (told_entries blocks rest (omega (arith, paged, length-parts end ends (drop n xs)))
      ∙ joined-parts most end ends len (drop n xs) are.2 (omega (arith, left)))
      ∙ take-append-drop n xs ∙ ap (λ (m : ℕ). drop m xs) nothing)
  at_page most from (end ∷ ends) len xs (b ∷ blocks) (suc k) d are size paged lt =
      let n : ℕ = end - from in
      let within = from_le_len most end ends len are.2 in
      let left : end + length (drop n xs)
      ≡ len = omega (arith, length-drop n xs, are.0, size, within) in
      let at : ℕ = get_or (end ∷ ends) k len in
      let low : end ≤ at = elim (cases_lt k (length ends)) [
        | inl le ↦ start_low most end ends len k are.2 (omega (arith, le))
        | inr ge ↦ (let past = start_past most end ends len k are.2 ge in omega
            (arith, past, within))
      ] in
      let far : n + (at - end) ≡ at - from = omega (arith, are.0, low) in
      at_page most end ends len (drop n xs) blocks k d are.2 left (omega (arith, paged))
      (omega (arith, lt))
      ∙ ap (λ (log : List Entry). counts (length (get_or (parts_from end ends (drop n xs)) k []))
      log)
      (drop-drop (at - end) n xs ∙ ap (λ (m : ℕ). drop m xs) far)

no_counts : LogPageCounts
no_counts = record { live = 0; valid = 0 }

module _ (g : GeometryNumbers) (w : World) (rs : List Record) (is : IsStart g w rs) where
  abbrev s : Serial
  s = told_by g w rs

  -- the counts of each page by one scan of the log
  abbrev pub scanned : ℕ → CellState → List LogPageCounts
  scanned ino cell =
      map (λ page. counts (retention_at w ino) (published_on cell page)
      (drop (start_of cell.chain page) (log_of cell)))
      (range_with_len 0 (length cell.chain.blocks))

  told_pages : (ino : ℕ) → ino < g.inodes → log_told s ino ≡ scanned ino (cell_at w.shared ino)
  told_pages ino lt =
      let cell : CellState = cell_at w.shared ino in
      let r : Retention = retention_at w ino in
      let on = is.pages ino lt in
      let all : List LogPageCounts = pages_counted r (slot_told cell).pages in
      let es : List Entry = cell.chain.entries in
      let many : length all ≡ length cell.chain.blocks =
      counted_many r (slot_told cell).pages ∙ told_many cell.chain.blocks
      (parts_from 0 cell.chain.ends es) in
      let by : List Entry → ℕ → LogPageCounts =
      λ log page. counts r (length (get_or (parts_from 0 cell.chain.ends log) page []))
      (drop (start_of cell.chain page) log) in
      ap (λ (k : Retention). pages_counted k (slot_of s ino).pages) (keepers_are g w rs is ino lt)
      ∙ ap (λ (slot : NumberedSlot). pages_counted r slot.pages) (slot_is g w rs is ino)
      ∙ each_by_place all no_counts 0 (by es)
      (λ i low. let zeroth : i ≡ 0 + i = omega arith in
      let whole : start_of cell.chain i - 0 ≡ start_of cell.chain i = omega arith in
      at_page r g.page 0 cell.chain.ends (length es) es cell.chain.blocks i no_counts on.parted
      (omega arith) on.each
      (omega (arith, low, many))
      ∙ ap (λ (m : ℕ). counts r (length (get_or (parts_from 0 cell.chain.ends es) i []))
      (drop m es)) whole
      ∙ ap (by es) zeroth)
      ∙ ap (λ (n : ℕ). map (by es) (range_with_len 0 n)) many
      ∙ ap (λ (log : List Entry). map (by log) (range_with_len 0 (length cell.chain.blocks)))
      (sym (whole_log g w rs is ino))

  -- THE LOG OF A SLOT in numbers; a number without a slot has none
  pub log_reported : (ino : ℕ) → log_told s ino ≡ scanned ino (cell_at w.shared ino)
  log_reported ino = elim (cases_lt ino g.inodes) [
    | inl lt ↦ told_pages ino lt
    | inr ge ↦
        ap (λ (slot : NumberedSlot). pages_counted (keepers s ino) slot.pages)
        (slot_is g w rs is ino)
        ∙ subst (λ (cell : CellState). pages_counted (keepers s ino) (slot_told cell).pages
        ≡ scanned ino cell)
        (sym (past_cells g w rs is ino ge)) refl
  ]

  pub entries_reported : (ino : ℕ) → entry_count s ino ≡ (cell_at w.shared ino).chain.tail
  entries_reported ino =
      ap length (log_is g w rs is ino) ∙ ap length (whole_log g w rs is ino) ∙ sym (is.tails ino)
