-- What every world tells of its blocks, pool, records, marks and cells.
use Rattle.nv_book.specs.Listed.{IsRecordList, unheld}
use Rattle.nv_book.specs.declared.record.Record.{Record}
use Rattle.std.proofs.Common.{◌≡◌, ℕ, ◌++◌, ◌<◌, List, Option, Some, arith, length, subst}
use Rattle.std.specs.List.{AllByRecursion}
use Rattle.nv_base.specs.declared.geometry.GeometryNumbers.{GeometryNumbers}
use Rattle.nv_calls.specs.Nodes.{HasBytes}
use Rattle.nv_cell.specs.Cell.{HasMarks, IsCell, log_of}
use Rattle.nv_entry.specs.Log.{IsLog}
use Rattle.nv_epoch.specs.SnapList.{ids}
use Rattle.nv_machine.specs.Hands.{AreLists, ArePagesTold}
use Rattle.nv_machine.specs.Numbers.{IdleHaveNothing, all_blocks, free_from_scratch, free_of}
use Rattle.nv_machine.specs.Pages.{AreOnPages, HasLogPages, PagesOf}
use Rattle.nv_machine.specs.PoolScan.{pool_from_scratch}
use Rattle.nv_machine.specs.Reads.{bytes_among}
use Rattle.nv_machine.specs.Recorded.{AreRecordedOnce, IsOfPair, recorded_in, records_after}
use Rattle.nv_machine.specs.Starts.{IsStart}
use Rattle.nv_machine.specs.Step.{after}
use Rattle.nv_machine.specs.World.{Event, Running, World, actor_at, cell_at, list_at}
use Rattle.nv_machine.proofs.EveryWorld.{IsWhole, all_whole, each_cell, on_pages, reached}
use Rattle.nv_machine.proofs.FiledLaw.{each_of}
use Rattle.nv_machine.proofs.FiledParts.{is_log}
use Rattle.nv_machine.proofs.FiledWorlds.{picked_in}
use Rattle.nv_machine.proofs.FromScratch.{has_nothing, is_scanned}
use Rattle.nv_machine.proofs.MarksInUse.{each_recorded, once_of}
use Rattle.nv_machine.proofs.PoolLaw.{is_pool_scanned}
use Rattle.nv_alloc.specs.Numbers.{IsEachOnce}
use Rattle.nv_machine.proofs.SlotsBeforeCheck.{own_bytes}

module _ (g : GeometryNumbers) (start : World) (records : List Record) (events : List Event) where
  abbrev w : World
  w = after start events

  abbrev rs : List Record
  rs = records_after start events records

  abbrev whole : IsStart g start records → IsWhole g w rs
  whole = all_whole g start records events

  -- ---- blocks and the pool

  pub each_once : IsStart g start records → IsEachOnce g.blocks (all_blocks w)
  each_once is_start = (whole is_start).numbers.once

  pub sorted : IsStart g start records → AreLists g w.shared
  sorted is_start = (whole is_start).numbers.lists

  pub scanned : (cpu : ℕ) → IsStart g start records → cpu < g.cpus
      → free_of (list_at w.shared cpu) ≡ free_from_scratch g w cpu
  scanned cpu is_start inside =
      is_scanned g w cpu (omega (arith, is_start.limits.some_cpus)) (whole is_start).numbers inside

  pub idle_nothing : IsStart g start records → IdleHaveNothing w
  idle_nothing is_start =
      let all = whole is_start in has_nothing g w all.locks all.numbers

  pub told : (ino : ℕ) → IsStart g start records → ArePagesTold g.block (cell_at w.shared ino)
  told ino is_start = ((whole is_start).numbers.cells ino).told

  pub pool_scanned : IsStart g start records → w.shared.pool.numbers ≡ pool_from_scratch g w
  pool_scanned is_start =
      let all = whole is_start in
      is_pool_scanned g w all.locks all.numbers all.grown all.pooled

  -- ---- records and marks

  pub are_listed : IsStart g start records
      → IsRecordList (ids w.shared.book.snaps) w.shared.book.manifests w.shared.book.deferred rs
  are_listed is_start = (whole is_start).listed.list

  pub are_deferred : IsStart g start records
      → w.shared.book.deferred ≡ unheld (ids w.shared.book.snaps) rs
  are_deferred is_start = (are_listed is_start).deferred_is

  pub recorded_once : IsStart g start records → AreRecordedOnce w
  recorded_once is_start = let all = whole is_start in once_of w rs all.listed all.marked

  -- what holds of all that is listed or picked holds of each record
  pub recorded_all : (P : Record → Type 0) → IsStart g start records
      → AllByRecursion P (rs ++ picked_in w) → AllByRecursion P (recorded_in w)
  recorded_all P is_start all = each_recorded w rs P (whole is_start).listed all

  pub recorded_pairs : IsStart g start records → AllByRecursion (IsOfPair w) (recorded_in w)
  recorded_pairs is_start = recorded_all (IsOfPair w) is_start
      (each_of w (rs ++ picked_in w) (λ ino. ((whole is_start).marked.cells ino).told))

  -- the log of a slot is one
  pub log_in : (ino : ℕ) → IsStart g start records → IsLog (log_of (cell_at w.shared ino))
  log_in ino is_start = is_log w ino (whole is_start).order

  -- each published part has its mark, and is marked current exactly where it is not covered
  pub have_marks : (ino : ℕ) → IsStart g start records → HasMarks (cell_at w.shared ino)
  have_marks ino is_start =
      let m = (whole is_start).marked.cells ino in record { len = m.len; current = m.current }

  -- ---- pages and cells

  pub logs_paged : (ino : ℕ) → IsStart g start records → ino < length w.shared.cells
      → AreOnPages g.page (cell_at w.shared ino).chain
  logs_paged ino is_start lt = on_pages g is_start.limits w rs (whole is_start) ino lt

  pub hands_paged : (actor : ℕ) (r : Running) → IsStart g start records
      → (actor_at w actor).running ≡ Some r
      → HasLogPages r.next g.block w.shared (actor_at w actor).hand r
  hands_paged actor r is_start is =
      subst (λ (n : GeometryNumbers). HasLogPages r.next n.block w.shared (actor_at w actor).hand r)
      (whole is_start).numbers.numbers
      (subst (λ (o : Option Running). PagesOf o w.numbers.block w.shared (actor_at w actor).hand) is
      ((whole is_start).paged.each actor))

  pub are_cells : (ino : ℕ) → IsStart g start records → ino < length w.shared.cells
      → IsCell (cell_at w.shared ino)
  are_cells ino is_start lt = each_cell g is_start.limits w rs (whole is_start) ino lt

  -- with the bytes that a search among its blocks finds
  pub have_bytes : (ino : ℕ) → IsStart g start records → ino < length w.shared.cells
      → HasBytes (bytes_among (cell_at w.shared ino).blocks) g.block (cell_at w.shared ino)
  have_bytes ino is_start lt = record {
    is = are_cells ino is_start lt;
    size = ((whole is_start).parts ino lt).size;
    are = own_bytes w (reached g start records events is_start) ino;
  }
