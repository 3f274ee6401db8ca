-- Where nothing runs, what one scan of all logs counts is what the world with numbers reports:
-- space and free lists.
use Rattle.std.proofs.Common.{◌≡◌, ℕ, zero, suc, ◌+◌, ◌-◌, ◌<◌, ◌&&◌, ◌∙◌, List, [], ◌∷◌, ap, arith, filter, length, map, refl, slice_index_or, sym}
use Rattle.std.proofs.lemmas.List.{length-map}
use Rattle.std.specs.List.{range_with_len, sum_by}
use Rattle.std.proofs.lemmas.List.Sums.{length-filter, sum_by-cons}
use Rattle.nv_alloc.specs.Block.{BlockValue}
use Rattle.nv_alloc.specs.FreeList.{FreeBlocks}
use Rattle.nv_alloc.specs.Numbers.{has, unused}
use Rattle.nv_base.specs.Homes.{home_start}
use Rattle.nv_base.specs.declared.geometry.GeometryNumbers.{GeometryNumbers}
use Rattle.nv_book.specs.Records.{block_count, is_page}
use Rattle.nv_book.specs.declared.record.Record.{Record}
use Rattle.nv_cell.specs.Cell.{CellState, log_of}
use Rattle.nv_entry.specs.Held.{is_needed}
use Rattle.nv_entry.specs.Log.{pairs}
use Rattle.nv_entry.specs.declared.held.Pair.{Pair}
use Rattle.nv_entry.specs.declared.item.Entry.{Entry}
use Rattle.nv_epoch.specs.SnapList.{ids}
use Rattle.nv_log.specs.Chain.{pages_of}
use Rattle.nv_machine.specs.Held.{free_by_logs}
use Rattle.nv_machine.specs.Numbers.{free_of}
use Rattle.nv_machine.specs.Scanned.{pages_that, scanned_chain, scanned_data, scanned_free, scanned_pending}
use Rattle.nv_machine.specs.Starts.{IsStart}
use Rattle.nv_machine.specs.World.{World, cell_at, no_list}
use Rattle.nv_serial.specs.Free.{free_on}
use Rattle.nv_serial.specs.Reports.{chain_count, lists_told, data_count, free_count, needed_in, pending_count}
use Rattle.nv_serial.specs.Serial.{NumberedSlot, Serial, log_in}
use Rattle.nv_serial.specs.Shown.{pages_told, slot_told}
use Rattle.nv_serial.proofs.AtRestLists.{free_is, used_is}
use Rattle.nv_serial.proofs.AtRestLogs.{living_is, log_is, pending_is, told_by}

-- ---- sums

same_sums : (f k : ℕ → ℕ) (from many : ℕ) → ((i : ℕ) → i < from + many → f i ≡ k i)
    → sum_by f (range_with_len from many) ≡ sum_by k (range_with_len from many)
same_sums f k from zero same = refl
same_sums f k from (suc many) same =
    omega (
      arith,
      sum_by-cons f from (range_with_len (from + 1) many),
      sum_by-cons k from (range_with_len (from + 1) many),
      same from (omega arith),
      same_sums f k (from + 1) many (λ i lt. same i (omega (arith, lt))),
    )

pub told_many : (blocks : List BlockValue) (parts : List (List Entry))
    → length (pages_told blocks parts) ≡ length blocks
told_many [] parts = refl
told_many (b ∷ blocks) [] = ap suc (told_many blocks [])
told_many (b ∷ blocks) (part ∷ parts) = ap suc (told_many blocks parts)

told_chains : (cells : List CellState) → sum_by (λ (cell : CellState). length cell.chain.blocks)
    cells
    ≡ sum_by (λ (slot : NumberedSlot). length slot.pages) (map slot_told cells)
told_chains [] = refl
told_chains (cell ∷ cells) =
    omega (
      arith,
      sum_by-cons (λ (c : CellState). length c.chain.blocks) cell cells,
      sum_by-cons (λ (slot : NumberedSlot). length slot.pages) (slot_told cell)
          (map slot_told cells),
      told_many cell.chain.blocks (pages_of cell.chain),
      told_chains cells,
    )

-- the lists of CPUs, one by one
lists_from : (lists : List FreeBlocks) (from : ℕ) (f : ℕ → List ℕ)
    → ((i : ℕ) → i < length lists → free_of (slice_index_or lists i no_list) ≡ f (from + i))
    → map free_of lists ≡ map f (range_with_len from (length lists))
lists_from [] from f same = refl
lists_from (list ∷ lists) from f same =
    let here : from + 0 ≡ from = omega arith in
    ap (λ (ns : List ℕ). ns ∷ map free_of lists) (same 0 (omega arith) ∙ ap f here)
    ∙ ap (λ (rest : List (List ℕ)). f from ∷ rest)
    (lists_from lists (from + 1) f (λ i lt. let next : from + suc i ≡ from + 1 + i = omega arith in
    same (suc i) (omega (arith, lt)) ∙ ap f next))

module _ (g : GeometryNumbers) (w : World) (rs : List Record) (is : IsStart g w rs) where
  abbrev s : Serial
  s = told_by g w rs

  -- ---- THE SPACE

  pub scan_is : (cpu : ℕ) → free_by_logs g w cpu ≡ free_on s cpu
  scan_is cpu =
      ap (λ (used : List ℕ). unused (has used) (home_start g.blocks g.cpus cpu)
      (home_start g.blocks g.cpus (cpu + 1) - home_start g.blocks g.cpus cpu))
      (sym (used_is g w rs is))

  pub free_reported : scanned_free w ≡ free_count s
  free_reported =
      ap (λ (n : GeometryNumbers). sum_by (λ cpu. length (free_by_logs n w cpu))
      (range_with_len 0 n.cpus)) is.numbers
      ∙ same_sums (λ cpu. length (free_by_logs g w cpu)) (λ cpu. length (free_on s cpu)) 0 g.cpus
      (λ cpu lt. ap length (scan_is cpu))

  pub chain_reported : scanned_chain w.shared ≡ chain_count s
  chain_reported = told_chains w.shared.cells

  needed_is : (ino : ℕ) → ino < g.inodes → pages_that (is_needed (ids w.shared.book.snaps))
      (cell_at w.shared ino) ≡ needed_in s ino
  needed_is ino lt =
      let cell : CellState = cell_at w.shared ino in
      sym (length-filter (λ (p : Pair). is_page p.part && is_needed (ids w.shared.book.snaps) p)
      (pairs cell.block (log_of cell)))
      ∙ ap (λ (block : ℕ). length
      (filter (λ (p : Pair). is_page p.part && is_needed (ids w.shared.book.snaps) p)
      (pairs block (log_of cell))))
      (is.sizes ino lt)
      ∙ ap (λ (es : List Entry). length
      (filter (λ (p : Pair). is_page p.part && is_needed (ids w.shared.book.snaps) p)
      (pairs g.block es)))
      (sym (log_is g w rs is ino))
      ∙ ap (λ (ns : List ℕ). length (filter (λ (p : Pair). is_page p.part && is_needed ns p)
      (pairs g.block (log_in s ino))))
      (sym (living_is g w rs is))

  pub data_reported : scanned_data w.shared ≡ data_count s
  data_reported =
      same_sums (λ ino. pages_that (is_needed (ids w.shared.book.snaps)) (cell_at w.shared ino))
      (needed_in s) 0 (length w.shared.cells)
      (λ ino lt. needed_is ino (omega (arith, lt, is.slots)))
      ∙ ap (λ (n : ℕ). sum_by (needed_in s) (range_with_len 0 n))
      (sym (length-map w.shared.cells slot_told))

  pub pending_reported : scanned_pending w ≡ pending_count s
  pending_reported = ap block_count (pending_is g w rs is)

  -- ---- THE FREE LISTS

  pub lists_reported : map free_of w.shared.lists ≡ lists_told s
  lists_reported =
      lists_from w.shared.lists 0 (free_on s) (λ i lt. let zeroth : i ≡ 0 + i = omega arith in
      free_is g w rs is i (omega (arith, lt, is.lists.cpus)) ∙ ap (free_on s) zeroth)
      ∙ ap (λ (n : ℕ). map (free_on s) (range_with_len 0 n)) is.lists.cpus
