-- The published entries of a page.
use Rattle.std.proofs.Common.{◌≡◌, ℕ, ◌-◌, ◌<◌, Bool, List, length, take, drop, min, arith, ap, ap₂, sym, ◌∙◌}
use Rattle.std.specs.Prelude.{◌↔◌}
use Rattle.std.proofs.lemmas.List.{length-drop, length-take}
use Rattle.nv_log.specs.Chain.{IsChain, end_of, start_of}
use Rattle.nv_log.proofs.Parts.{part_is}
use Rattle.nv_entry.specs.Counts.{live_of, valid_of}
use Rattle.nv_entry.specs.Held.{Retention}
use Rattle.nv_cell.specs.Cell.{CellState, IsCell, log_of}
use Rattle.nv_cell.specs.declared.tally.LogPageCounts.{LogPageCounts}
use Rattle.nv_cell.proofs.Scanned.{live_scanned, valid_scanned}
use Rattle.nv_audit.specs.Counts.{AreCounted, AreValidAs}
use Rattle.nv_audit.specs.Retained.{marked_entries, marked_on, retained_in}
use Rattle.nv_audit.proofs.Retaining.{valid_marked}
use Rattle.nv_cell.specs.Retained.{AreMarksOf, published_on}

-- how many published entries a page has, by its ends
pub published_is : (cell : CellState) (page : ℕ) → IsChain cell.chain → page < length cell.chain.ends
    → published_on cell page ≡ min (end_of cell.chain page) (length (log_of cell)) - min (start_of cell.chain page) (length (log_of cell))
published_is cell page is lt =
    let log = log_of cell in
    let start = start_of cell.chain page in
    let end = end_of cell.chain page in
    let begun : start - 0 ≡ start = omega arith in
    let part = part_is cell.chain.page 0 cell.chain.ends (length cell.chain.entries) page (length cell.chain.entries) log is.parted lt
    ∙ ap (λ (k : ℕ). take (end - start) (drop k log)) begun in
    ap length part ∙ length-take (end - start) (drop start log) ∙ ap (min (end - start)) (length-drop start log) ∙ omega arith

-- where the marks of a cell are what a retention says, its counts are those from scratch
pub counted : (r : Retention) (cell : CellState) → IsCell cell → AreMarksOf r cell → AreCounted r cell
counted r cell is are page lt =
    let live = live_scanned cell is page lt
    ∙ ap (λ (b : ℕ). live_of b (published_on cell page) (drop (start_of cell.chain page) (log_of cell))) (sym are.block) in
    ap₂ (λ (a b : ℕ). let counts : LogPageCounts = record { live = a; valid = b } in counts) live (valid_scanned r cell is are page lt)

-- its valid counts are those of the entries with a part that is kept exactly where its counts are those from scratch
pub counted_by : (r : Retention) (cell : CellState) (entries : List Bool) → IsCell cell → r.block ≡ cell.block
    → entries ≡ marked_entries (log_of cell) (retained_in r cell) → AreValidAs cell entries ↔ AreCounted r cell
counted_by r cell entries is block all = (
  λ valid page lt.
      let live = live_scanned cell is page lt
      ∙ ap (λ (b : ℕ). live_of b (published_on cell page) (drop (start_of cell.chain page) (log_of cell))) (sym block) in
      ap₂ (λ (a b : ℕ). let counts : LogPageCounts = record { live = a; valid = b } in counts) live (valid page lt ∙ scanned page),
  λ counted page lt. ap (λ (x : LogPageCounts). x.valid) (counted page lt) ∙ sym (scanned page),
) where
  scanned : (page : ℕ) → marked_on cell entries page ≡ valid_of r (published_on cell page) (drop (start_of cell.chain page) (log_of cell))
  scanned page =
      ap (λ (bs : List Bool). marked_on cell bs page) all
      ∙ valid_marked r cell (start_of cell.chain page) (published_on cell page) block
