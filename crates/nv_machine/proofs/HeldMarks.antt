-- A part is in use exactly where its mark says that it is there, in every world that events lead to.
use Rattle.std.proofs.Common.{◌≡◌, ℕ, ◌∙◌, List, Option, Some, None, ap, arith, inl, inr, refl, slice_get, sym}
use Rattle.std.specs.Option.{IsSome}
use Rattle.std.proofs.lemmas.Bool.{cases_lt, false≢true}
use Rattle.std.proofs.lemmas.List.{get_or_past}
use Rattle.nv_base.specs.declared.geometry.GeometryNumbers.{GeometryNumbers}
use Rattle.nv_book.specs.declared.record.Record.{Record}
use Rattle.nv_cell.specs.Cell.{CellState, log_of, mark_or_fresh}
use Rattle.nv_cell.specs.Marks.{is_there}
use Rattle.nv_cell.specs.declared.mark.Mark.TheVariants.{Current}
use Rattle.nv_entry.specs.Covered.{part_total}
use Rattle.nv_entry.specs.Log.{IsLog, pairs}
use Rattle.nv_entry.specs.declared.held.Pair.{Pair}
use Rattle.nv_machine.specs.Held.{in_use_by, is_in_use, retention_at}
use Rattle.nv_machine.specs.Recorded.{records_after}
use Rattle.nv_machine.specs.Starts.{IsStart}
use Rattle.nv_machine.specs.Step.{after}
use Rattle.nv_machine.specs.World.{Event, World, cell_at}
use Rattle.nv_machine.proofs.EveryWorld.{all_listed, all_marked}
use Rattle.nv_machine.proofs.WorldFacts.{log_in}
use Rattle.nv_machine.proofs.FiledMarks.{pair_low}
use Rattle.nv_machine.proofs.MarksInUse.{pair_there_now, same_default}
use Rattle.nv_machine.proofs.Pairs.{pair_there}

pub used_there : (g : GeometryNumbers) (start : World) (records : List Record) (events : List Event) (ino n : ℕ) → IsStart g start records
    → is_in_use (retention_at (after start events) ino) (cell_at (after start events).shared ino) n
    ≡ is_there (mark_or_fresh (cell_at (after start events).shared ino).marks n)
used_there g start records events ino n is_start = go (slice_get (pairs cell.block (log_of cell)) n) refl where
  w : World
  w = after start events

  cell : CellState
  cell = cell_at w.shared ino

  log : IsLog (log_of cell)
  log = log_in g start records events ino is_start

  go : (o : Option Pair) → slice_get (pairs cell.block (log_of cell)) n ≡ o
      → in_use_by (retention_at w ino) o ≡ is_there (mark_or_fresh cell.marks n)
  go None e = elim (cases_lt n (part_total (log_of cell))) [
    | inl lt ↦
        let there : IsSome (slice_get (pairs cell.block (log_of cell)) n) = pair_there cell.block (log_of cell) n log lt in
        absurd (false≢true (rw e at there))
    | inr ge ↦
        let m = (all_marked g start records events is_start).cells ino in
        ap is_there (sym (get_or_past cell.marks n Current (omega (arith, ge, m.len))))
  ]
  go (Some pair) e =
      let m = (all_marked g start records events is_start).cells ino in
      let l = all_listed g start records events is_start in
      pair_there_now w (records_after start events records) l (all_marked g start records events is_start) ino log n pair e
      ∙ ap is_there (sym (same_default cell.marks n (let low = pair_low cell.block (log_of cell) n pair e in omega (arith, low, m.len))))
