-- What holds of every world that events lead to from a start, by one induction over the events: a
-- step needs nearly all of it of the world that it begins in, and keeps it.
use Rattle.nv_book.specs.declared.record.Record.{Record}
use Rattle.std.proofs.Common.{ℕ, ◌<◌, List, [], ◌∷◌, arith, length, subst}
use Rattle.nv_base.specs.Limits.{IsWithinLimits}
use Rattle.nv_base.specs.declared.geometry.GeometryNumbers.{GeometryNumbers}
use Rattle.nv_cell.specs.Cell.{IsCell}
use Rattle.nv_machine.specs.Grown.{AreGrown}
use Rattle.nv_machine.specs.Hands.{AreNumbers}
use Rattle.nv_machine.specs.Kept.{AreBlocksApart, AreCleanable, IsKept}
use Rattle.nv_machine.specs.Locks.{AreLocks}
use Rattle.nv_machine.specs.Order.{IsInOrder}
use Rattle.nv_machine.specs.Pages.{AreOnPages}
use Rattle.nv_machine.specs.Reached.{IsReached}
use Rattle.nv_machine.specs.Recorded.{records_after, records_in}
use Rattle.nv_machine.specs.Starts.{IsStart}
use Rattle.nv_machine.specs.Step.{after, step}
use Rattle.nv_machine.specs.Whole.{HaveTheirParts}
use Rattle.nv_machine.specs.World.{Event, World, cell_at}
use Rattle.nv_machine.proofs.BlockNumbersRuns.{event_blocks}
use Rattle.nv_machine.proofs.CellMarksRuns.{event_parts, is_cell}
use Rattle.nv_machine.proofs.FiledLaw.{event_marked}
use Rattle.nv_machine.proofs.FiledParts.{releases_covered}
use Rattle.nv_machine.proofs.FiledRuns.{event_listed}
use Rattle.nv_machine.proofs.FiledTurns.{Listed}
use Rattle.nv_machine.proofs.FiledWorlds.{AreMarked}
use Rattle.nv_machine.proofs.FitsEvents.{AreFit, IsKnown, event_fits, filed_known, first_fit}
use Rattle.nv_machine.proofs.FitsPooled.{free_numbers}
use Rattle.nv_machine.proofs.LocksOverEvents.{event_locks}
use Rattle.nv_machine.proofs.LogsInOrder.{event_order}
use Rattle.nv_machine.proofs.LogsKeptRuns.{event_kept}
use Rattle.nv_machine.proofs.PageEvents.{ArePaged, event_pages, first_paged}
use Rattle.nv_machine.proofs.PoolRuns.{ArePooled, event_pooled}
use Rattle.nv_machine.proofs.Reached.{blocks_apart}
use Rattle.nv_machine.proofs.StartParts.{first_grown, first_kept, first_locks, first_numbers, first_order, first_parts}
use Rattle.nv_machine.proofs.StartPool.{first_pooled}
use Rattle.nv_machine.proofs.StartRecords.{first_listed, first_marked}
use Rattle.nv_machine.proofs.UnsettledRuns.{event_grown}

-- ---- what holds of a world

-- what each step keeps, with the records
pub record IsWhole (g : GeometryNumbers) (w : World) (rs : List Record) : Type 0 where
  pub locks : AreLocks w
  pub order : IsInOrder w
  pub kept : IsKept w
  pub grown : AreGrown w
  pub numbers : AreNumbers g w
  pub listed : Listed rs w.shared
  pub marked : AreMarked w rs
  pub pooled : ArePooled g w
  pub fit : AreFit w
  pub paged : ArePaged w
  pub parts : HaveTheirParts g.block w.shared

module _ (g : GeometryNumbers) (limits : IsWithinLimits g) (w : World) (rs : List Record)
    (whole : IsWhole g w rs) where
  pub on_pages : (ino : ℕ) → ino < length w.shared.cells
      → AreOnPages g.page (cell_at w.shared ino).chain
  on_pages ino lt =
      subst (λ (n : GeometryNumbers). AreOnPages n.page (cell_at w.shared ino).chain)
      whole.numbers.numbers (whole.paged.on ino lt)

  pub each_cell : (ino : ℕ) → ino < length w.shared.cells → IsCell (cell_at w.shared ino)
  each_cell ino lt =
      is_cell g (cell_at w.shared ino) limits (whole.parts ino lt) (on_pages ino lt)
      (whole.order.logs ino).ordered (whole.numbers.cells ino).pages

  pub are_cleanable : AreCleanable w
  are_cleanable = record { cells = each_cell; pages = whole.paged.each }

  apart : AreBlocksApart w
  apart = blocks_apart g w (omega (arith, limits.blocks_fit)) whole.locks whole.numbers
      (λ actor. releases_covered w rs actor whole.order whole.marked) are_cleanable

  pub is_reached : IsReached w
  is_reached = record {
    locks = whole.locks;
    order = whole.order;
    kept = whole.kept;
    grown = whole.grown;
    apart = apart;
  }

  pub is_known : IsKnown g w
  is_known = record {
    reached = is_reached;
    numbers = whole.numbers;
    rs = rs;
    listed = whole.listed;
    marked = whole.marked;
    pooled = whole.pooled;
    free = free_numbers g w whole.pooled;
    fit = whole.fit;
  }

  -- ---- one event

  pub event_whole : (e : Event) → IsWhole g (step w e).world (records_in w e rs)
  event_whole e =
      let listable = filed_known g w is_known in
      record {
        locks = event_locks w e whole.locks;
        order = event_order w e whole.locks whole.order;
        kept = event_kept w whole.locks whole.order whole.kept apart e;
        grown = event_grown w e whole.locks whole.kept whole.grown;
        numbers = event_blocks g w e limits whole.locks whole.numbers are_cleanable;
        listed = event_listed g w listable rs whole.listed e;
        marked = event_marked g w listable rs whole.listed whole.marked e;
        pooled =
            event_pooled g w e whole.locks whole.numbers whole.grown are_cleanable whole.pooled;
        fit = event_fits g w is_known e;
        paged = event_pages g limits w e is_known whole.paged;
        parts = event_parts g w e is_known whole.parts;
      }

-- ---- every world

whole_after : (g : GeometryNumbers) (events : List Event) (w : World) (rs : List Record)
    → IsWithinLimits g → IsWhole g w rs → IsWhole g (after w events) (records_after w events rs)
whole_after g [] w rs limits whole = whole
whole_after g (e ∷ events) w rs limits whole =
    whole_after g events (step w e).world (records_in w e rs) limits
    (event_whole g limits w rs whole e)

module _ (g : GeometryNumbers) (start : World) (records : List Record) where
  first_whole : IsStart g start records → IsWhole g start records
  first_whole is = record {
    locks = first_locks g start records is;
    order = first_order g start records is;
    kept = first_kept g start records is;
    grown = first_grown g start records is;
    numbers = first_numbers g start records is;
    listed = first_listed g start records is;
    marked = first_marked g start records is;
    pooled = first_pooled g start records is;
    fit = first_fit g start records is;
    paged = first_paged g start records is;
    parts = first_parts g start records is;
  }

  pub all_whole : (events : List Event) → IsStart g start records
      → IsWhole g (after start events) (records_after start events records)
  all_whole events is = whole_after g events start records is.limits (first_whole is)

  pub all_numbers : (events : List Event) → IsStart g start records
      → AreNumbers g (after start events)
  all_numbers events is = (all_whole events is).numbers

  pub all_listed : (events : List Event) → IsStart g start records
      → Listed (records_after start events records) (after start events).shared
  all_listed events is = (all_whole events is).listed

  pub all_marked : (events : List Event) → IsStart g start records
      → AreMarked (after start events) (records_after start events records)
  all_marked events is = (all_whole events is).marked

  pub all_pooled : (events : List Event) → IsStart g start records
      → ArePooled g (after start events)
  all_pooled events is = (all_whole events is).pooled

  pub all_parts : (events : List Event) → IsStart g start records
      → HaveTheirParts g.block (after start events).shared
  all_parts events is = (all_whole events is).parts

  pub reached : (events : List Event) → IsStart g start records → IsReached (after start events)
  reached events is =
      is_reached g is.limits (after start events) (records_after start events records)
      (all_whole events is)

  pub all_fit : IsStart g start records → (events : List Event) → AreFit (after start events)
  all_fit is events = (all_whole events is).fit

  pub all_known : IsStart g start records → (events : List Event) → IsKnown g (after start events)
  all_known is events =
      is_known g is.limits (after start events) (records_after start events records)
      (all_whole events is)
