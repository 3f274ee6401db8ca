-- In every world that events lead to a living snapshot has all its pages, and its nodes by the logs are those
-- by the settled logs.
use Rattle.std.proofs.Common.{◌≡◌, ℕ, ◌<◌, ◌==◌, ◌++◌, ◌∙◌, if◌then◌else◌, List, None, IsSome, ap, inl, inr, length, refl, subst, sym}
use Rattle.std.specs.List.{Contains}
use Rattle.std.proofs.lemmas.Bool.{cases_lt}
use Rattle.std.proofs.lemmas.List.{get_or_past}
use Rattle.nv_base.specs.declared.geometry.GeometryNumbers.{GeometryNumbers}
use Rattle.nv_base.specs.declared.numbers.Handle.{Handle}
use Rattle.nv_book.specs.declared.record.Record.{Record}
use Rattle.nv_cell.specs.Cell.{CellState, log_of}
use Rattle.nv_cell.proofs.ValuesNow.{IsLog-take}
use Rattle.nv_entry.specs.Log.{IsLog, up_to}
use Rattle.nv_entry.specs.Node.{node_now}
use Rattle.nv_entry.specs.declared.item.Entry.{Entry}
use Rattle.nv_epoch.specs.SnapList.{ids}
use Rattle.nv_machine.specs.Reached.{IsReached}
use Rattle.nv_machine.specs.Reads.{bytes_among}
use Rattle.nv_machine.specs.Settled.{settled_copies}
use Rattle.nv_machine.specs.SnapshotOrCleaner.{copies_at}
use Rattle.nv_machine.specs.Starts.{IsStart}
use Rattle.nv_machine.specs.Step.{after}
use Rattle.nv_machine.specs.World.{Event, World, cell_at, no_cell}
use Rattle.nv_machine.proofs.CopyMarks.{all_have_marks, log_same}
use Rattle.nv_machine.proofs.CopyRuns.{earlier, settled_says}
use Rattle.nv_machine.proofs.EpochLogs.{block_there, log_at, splits}
use Rattle.nv_machine.proofs.EveryWorld.{all_marked, all_parts, reached}
use Rattle.nv_machine.proofs.SnapRuns.{in_step}
use Rattle.nv_reader.specs.Cells.{NoneOut}
use Rattle.nv_core.proofs.PageParts.{front_in}

module _ (g : GeometryNumbers) (start : World) (records : List Record) (events : List Event) (is_start : IsStart g start records)
    (epoch : ℕ)
    (lives : Contains (ids (after start events).shared.book.snaps) epoch) where
  abbrev w : World
  w = after start events

  known : IsReached w
  known = reached g start records events is_start

  lt : epoch < w.shared.book.snaps.epoch
  lt = earlier w epoch (in_step g start records events is_start).before lives

  -- no entry past a tail is of its epoch
  same_log : (ino : ℕ) → log_at epoch (cell_at w.shared ino) ≡ up_to epoch (log_of (cell_at w.shared ino))
  same_log ino = log_same epoch w.shared.book.snaps.epoch (cell_at w.shared ino) lt ((all_marked g start records events is_start).fresh ino)

  there_out : (ino : ℕ) → ino < length w.shared.cells → NoneOut (cell_at w.shared ino) (log_at epoch (cell_at w.shared ino))
  there_out ino low =
      let cell = cell_at w.shared ino in
      let ordered : IsLog cell.chain.entries = (known.order.logs ino).ordered in
      let lawful : IsLog (log_of cell) = IsLog-take cell.chain.tail cell.chain.entries ordered in
      let s = splits epoch (log_of cell) lawful in
      front_in cell (log_at epoch cell) s.rest (ap (λ (l : List Entry). l ++ s.rest) (same_log ino) ∙ s.is) lawful
      (λ n number inside unc says.
      let at = block_there epoch number cell ordered (all_parts g start records events is_start ino low).blocks n
      (record { uncovered = unc; low = inside; says = says })
      ((all_have_marks g start records is_start events).held epoch ino lives n inside unc) in
      subst IsSome (sym at.1) refl)

  -- NO PAGE OF A LIVING SNAPSHOT IS OUT
  pub none_out_at : (ino : ℕ) → NoneOut (cell_at w.shared ino) (up_to epoch (log_of (cell_at w.shared ino)))
  none_out_at ino = elim (cases_lt ino (length w.shared.cells)) [
    | inl low ↦ subst (NoneOut (cell_at w.shared ino)) (same_log ino) (there_out ino low)
    | inr past ↦
        subst (λ (cell : CellState). NoneOut cell (up_to epoch (log_of cell))) (sym (get_or_past w.shared.cells ino no_cell past))
        (λ page low. tt)
  ]

  -- entries past a noted tail are of the present epoch, of which there is no living snapshot
  pub settled_at : (handle : Handle) → copies_at w.shared epoch handle ≡ settled_copies w.shared epoch handle
  settled_at handle =
      let cell = cell_at w.shared handle.ino in
      ap (λ (l : List Entry). if handle.generation == cell.generation then node_now (bytes_among cell.blocks) cell.block l else None)
      (sym (same_log handle.ino) ∙ sym (settled_says w known epoch lt handle.ino))
