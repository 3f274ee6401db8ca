-- Whatever events came, reports say what one scan of all logs counts.
use Rattle.std.proofs.Common.{◌≡◌, ◌∙◌, ℕ, suc, ◌+◌, ◌-◌, ◌<◌, ◌≤◌, List, [], ◌∷◌, ap, ap₂, arith, inl, inr, length, map, refl, slice_index_or, subst, sym}
use Rattle.std.specs.List.{AllByRecursion, Contains, range_with_len, sum_by}
use Rattle.std.proofs.lemmas.Bool.{cases_lt}
use Rattle.std.proofs.lemmas.List.{get_or_past, length-map}
use Rattle.nv_alloc.specs.Block.{number_of, numbers_of}
use Rattle.nv_alloc.specs.FreeList.{FreeBlocks}
use Rattle.nv_alloc.specs.Runs.{free_runs_of}
use Rattle.nv_alloc.specs.declared.runs.FreeRun.{FreeRun}
use Rattle.nv_audit.specs.Counts.{scanned_counts}
use Rattle.nv_audit.proofs.PageEntries.{counted}
use Rattle.nv_base.specs.declared.geometry.GeometryNumbers.{GeometryNumbers}
use Rattle.nv_book.specs.declared.record.Record.{Record}
use Rattle.nv_cell.specs.Cell.{CellState, log_of}
use Rattle.nv_cell.specs.Readers.{counts_of, marks_by_entry}
use Rattle.nv_cell.specs.Retained.{AreMarksOf}
use Rattle.nv_cell.specs.declared.tally.LogPageCounts.{LogPageCounts}
use Rattle.nv_entry.specs.Held.{Retention}
use Rattle.nv_epoch.specs.SnapList.{ids, numbers}
use Rattle.nv_epoch.specs.declared.snapshot.Snapshot.{Snapshot}
use Rattle.nv_epoch.proofs.Last.{contains_first, contains_later}
use Rattle.nv_log.proofs.Parts.{length-parts}
use Rattle.nv_log.specs.Chain.{log, parts_from}
use Rattle.nv_machine.specs.Held.{free_by_logs, retention_at}
use Rattle.nv_machine.specs.Scanned.{scanned_data, scanned_free, scanned_pending}
use Rattle.nv_machine.specs.Starts.{IsStart}
use Rattle.nv_machine.specs.Step.{after}
use Rattle.nv_machine.specs.World.{Event, World, cell_at, list_at, no_cell, no_list}
use Rattle.nv_machine.proofs.EachElement.{all_weaker}
use Rattle.nv_machine.proofs.EveryWorld.{all_numbers}
use Rattle.nv_machine.proofs.WorldFacts.{are_cells}
use Rattle.nv_machine.proofs.HeldLaw.{scanned_by_logs}
use Rattle.nv_core.proofs.AuditLaw.{kept_there}
use Rattle.nv_core.proofs.ScannedParts.{kept_is}
use Rattle.nv_core.proofs.ScannedSnaps.{gain_is, held_is}
use Rattle.nv_core.proofs.SumsTo.{sum_list, sum_range, sum_same, sum_to}
use Rattle.nv_core.specs.Reports.{chain_of, counts_in, free_in, free_of, data_kept, lists_of, log_at, snap_counts, snaps_of, space_of}
use Rattle.nv_core.specs.Scans.{lists_by_scan, log_by_scan, snap_by_scan, snaps_by_scan, space_by_scan}
use Rattle.nv_core.specs.Worlds.{HasRun}
use Rattle.nv_core.specs.declared.reports.LogCounts.{LogCounts}
use Rattle.nv_core.specs.declared.reports.Space.{Space}
use Rattle.nv_core.specs.declared.snaps.SnapCounts.{SnapCounts}
use Rattle.nv_core.specs.declared.snaps.Snaps.{Snaps}

map_each : {X Y : Type 0} (f h : X → Y) (xs : List X) → AllByRecursion (λ x. f x ≡ h x) xs → map f xs ≡ map h xs
map_each f h [] same = refl
map_each {X} {Y} f h (x ∷ xs) same = ap₂ (λ (y : Y) (ys : List Y). y ∷ ys) same.0 (map_each f h xs same.1)

map_same : {X Y : Type 0} (f h : X → Y) → ((x : X) → f x ≡ h x) → (xs : List X) → map f xs ≡ map h xs
map_same f h same [] = refl
map_same {X} {Y} f h same (x ∷ xs) = ap₂ (λ (y : Y) (ys : List Y). y ∷ ys) (same x) (map_same f h same xs)

-- a list that is gone over by its places
by_place : {X Y : Type 0} (f : X → Y) (h : ℕ → Y) (d : X) (xs : List X) (from : ℕ)
    → ((i : ℕ) → i < length xs → f (slice_index_or xs i d) ≡ h (from + i)) → map f xs ≡ map h (range_with_len from (length xs))
by_place f h d [] from same = refl
by_place {X} {Y} f h d (x ∷ xs) from same =
    let here : from + 0 ≡ from = omega arith in
    let later : (i : ℕ) → from + suc i ≡ from + 1 + i = λ i. omega arith in
    ap₂ (λ (y : Y) (ys : List Y). y ∷ ys) (same 0 (omega arith) ∙ ap h here)
    (by_place f h d xs (from + 1) (λ i lt. same (suc i) (omega (arith, lt)) ∙ ap h (later i)))

-- ---- the counts of a page that has no entry

no_counts : (r : Retention) (cell : CellState) (page : ℕ) → length cell.chain.ends ≤ page → counts_of cell page ≡ scanned_counts r cell page
no_counts r cell page past =
    let marks = get_or_past (parts_from 0 cell.chain.ends (marks_by_entry (log_of cell) cell.marks)) page []
    (omega (arith, past, length-parts 0 cell.chain.ends (marks_by_entry (log_of cell) cell.marks))) in
    let entries = get_or_past (parts_from 0 cell.chain.ends (log cell.chain)) page []
    (omega (arith, past, length-parts 0 cell.chain.ends (log cell.chain))) in
    rw (marks, entries) refl

-- ---- each snapshot of a list is one of it

each_lives : (all : List Snapshot) → AllByRecursion (λ (s : Snapshot). Contains (numbers all) s.number) all
each_lives [] = tt
each_lives (s ∷ all) = (
  contains_first s.number (numbers all),
  all_weaker (λ (t : Snapshot). Contains (numbers all) t.number) (λ (t : Snapshot). Contains (numbers (s ∷ all)) t.number)
      (λ t there. contains_later s.number (numbers all) t.number there) all (each_lives all),
)

-- ---- every world

module _ (g : GeometryNumbers) (start : World) (records : List Record) (events : List Event) (is_start : IsStart g start records) where
  abbrev w : World
  w = after start events

  free_is : free_of w.shared ≡ scanned_free w
  free_is =
      let all = all_numbers g start records events is_start in
      let at : ℕ → ℕ = λ cpu. length (free_by_logs g w cpu) in
      sym (sum_list free_in w.shared.lists no_list)
      ∙ ap (λ (k : ℕ). sum_to k (λ cpu. free_in (list_at w.shared cpu))) all.lists.cpus
      ∙ sum_same g.cpus (λ cpu. free_in (list_at w.shared cpu)) at
      (λ cpu inside. sym (length-map (list_at w.shared cpu).blocks number_of)
      ∙ ap (λ (l : List ℕ). length l) (scanned_by_logs g start records events cpu is_start inside))
      ∙ sym (sum_range at g.cpus)
      ∙ ap (λ (n : GeometryNumbers). sum_by (λ cpu. length (free_by_logs n w cpu)) (range_with_len 0 n.cpus)) (sym all.numbers)

  lists_are : lists_of w.shared ≡ lists_by_scan w
  lists_are =
      let all = all_numbers g start records events is_start in
      let at : ℕ → List FreeRun = λ cpu. free_runs_of (free_by_logs g w cpu) in
      by_place (λ (list : FreeBlocks). free_runs_of (numbers_of list.blocks)) at no_list w.shared.lists 0
      (λ cpu lt.
      let zeroth : cpu ≡ 0 + cpu = omega arith in
      ap free_runs_of (scanned_by_logs g start records events cpu is_start (omega (arith, lt, all.lists.cpus))) ∙ ap at zeroth)
      ∙ ap (λ (k : ℕ). map at (range_with_len 0 k)) all.lists.cpus
      ∙ ap (λ (n : GeometryNumbers). map (λ cpu. free_runs_of (free_by_logs n w cpu)) (range_with_len 0 n.cpus)) (sym all.numbers)

  space_is : space_of w ≡ space_by_scan w
  space_is =
      let kept = kept_is g start records events is_start in
      let pages : data_kept w.shared - scanned_pending w ≡ scanned_data w.shared = omega (arith, kept) in
      let hand : w.numbers.blocks - free_of w.shared - chain_of w.shared - data_kept w.shared
      ≡ w.numbers.blocks - scanned_free w - chain_of w.shared - scanned_data w.shared - scanned_pending w =
      omega (arith, kept, free_is) in
      same free_is pages hand where
        same : {free free_now pages pages_now hand hand_now : ℕ} → free ≡ free_now → pages ≡ pages_now → hand ≡ hand_now
            → (let s : Space = record { free = free; chain = chain_of w.shared; «data» = pages; pending = scanned_pending w; hand = hand } in s)
            ≡ record { free = free_now; chain = chain_of w.shared; «data» = pages_now; pending = scanned_pending w; hand = hand_now }
        same a b c = rw (a, b, c) refl

  log_is : (ino : ℕ) → log_at w.shared ino ≡ log_by_scan w ino
  log_is ino = elim (cases_lt ino (length w.shared.cells)) [
    | inl lt ↦
        let cell = cell_at w.shared ino in
        let are : AreMarksOf (retention_at w ino) cell = record { block = refl; there = kept_there g start records events is_start ino } in
        let is = are_cells g start records events ino is_start lt in
        with_pages cell (map_same (counts_of cell) (scanned_counts (retention_at w ino) cell)
        (λ page. elim (cases_lt page (length cell.chain.ends)) [
          | inl low ↦ counted (retention_at w ino) cell is are page low
          | inr past ↦ no_counts (retention_at w ino) cell page past
        ]) (range_with_len 0 (length cell.chain.blocks)))
    | inr ge ↦
        let none : cell_at w.shared ino ≡ no_cell = get_or_past w.shared.cells ino no_cell ge in
        subst (λ (c : CellState). counts_in c ≡ scanned c) (sym none) refl
  ] where
    scanned : CellState → LogCounts
    scanned cell = record {
      entries = cell.chain.tail;
      pages = map (scanned_counts (retention_at w ino) cell) (range_with_len 0 (length cell.chain.blocks));
    }

    with_pages : (cell : CellState) {pages pages_now : List LogPageCounts} → pages ≡ pages_now
        → (let c : LogCounts = record { entries = cell.chain.tail; pages = pages } in c) ≡ record { entries = cell.chain.tail; pages = pages_now }
    with_pages cell e = rw e refl

  snaps_are : snaps_of w.shared.book ≡ snaps_by_scan w
  snaps_are =
      let book = w.shared.book in
      ap (λ (all : List SnapCounts). let s : Snaps = record { epoch = book.snaps.epoch; commit = book.commit; living = all } in s)
      (map_each (snap_counts book) (snap_by_scan w) book.snaps.living
      (all_weaker (λ (s : Snapshot). Contains (ids book.snaps) s.number) (λ (s : Snapshot). snap_counts book s ≡ snap_by_scan w s)
      (λ s lives. same s (held_is g start records events is_start s.number lives) (gain_is g start records events is_start s.number lives))
      book.snaps.living (each_lives book.snaps.living))) where
        same : (s : Snapshot) {held held_now gain gain_now : ℕ} → held ≡ held_now → gain ≡ gain_now
            → (let c : SnapCounts = record { snapshot = s.number; held = held; gain = gain; pins = s.pins } in c)
            ≡ record { snapshot = s.number; held = held_now; gain = gain_now; pins = s.pins }
        same s a b = rw (a, b) refl

pub space_scanned : (w : World) → HasRun w → space_of w ≡ space_by_scan w
space_scanned w (run, is_start, reached) =
    subst (λ (v : World). space_of v ≡ space_by_scan v) (sym reached) (space_is w.numbers run.start run.records run.events is_start)

pub lists_scanned : (w : World) → HasRun w → lists_of w.shared ≡ lists_by_scan w
lists_scanned w (run, is_start, reached) =
    subst (λ (v : World). lists_of v.shared ≡ lists_by_scan v) (sym reached)
    (lists_are w.numbers run.start run.records run.events is_start)

pub logs_scanned : (w : World) (ino : ℕ) → HasRun w → log_at w.shared ino ≡ log_by_scan w ino
logs_scanned w ino (run, is_start, reached) =
    subst (λ (v : World). log_at v.shared ino ≡ log_by_scan v ino) (sym reached)
    (log_is w.numbers run.start run.records run.events is_start ino)

pub snaps_scanned : (w : World) → HasRun w → snaps_of w.shared.book ≡ snaps_by_scan w
snaps_scanned w (run, is_start, reached) =
    subst (λ (v : World). snaps_of v.shared.book ≡ snaps_by_scan v) (sym reached)
    (snaps_are w.numbers run.start run.records run.events is_start)
