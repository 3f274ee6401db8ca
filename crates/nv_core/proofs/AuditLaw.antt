-- Whatever events came from a new world on, each part is that of one scan of all logs, so that an audit finds
-- nothing that differs.
use Rattle.std.proofs.Common.{◌≡◌, ℕ, ◌++◌, ◌∙◌, Bool, List, Some, ap, arith, flat_map, refl, slice_get, slice_index_or, subst, sym}
use Rattle.std.specs.Prelude.{◌||◌}
use Rattle.std.specs.List.{Contains}
use Rattle.std.proofs.lemmas.List.{get_or_default}
use Rattle.nv_base.specs.declared.geometry.GeometryNumbers.{GeometryNumbers}
use Rattle.nv_audit.specs.Pending.{retention_by}
use Rattle.nv_audit.specs.Whole.{Agrees, AreFromScratch, HasMarkedCells, HasRecords, IsMarkedCell}
use Rattle.nv_audit.proofs.Devices.{marked_agree}
use Rattle.nv_book.specs.declared.record.Record.{Record}
use Rattle.nv_cell.specs.Cell.{log_of, stored_in}
use Rattle.nv_cell.specs.Marks.{is_there, mark_at}
use Rattle.nv_entry.specs.Held.{is_needed, keeps}
use Rattle.nv_entry.specs.Log.{pairs}
use Rattle.nv_entry.specs.declared.held.Pair.{Pair}
use Rattle.nv_epoch.specs.SnapList.{ids}
use Rattle.nv_machine.specs.Held.{retention_at}
use Rattle.nv_machine.specs.Numbers.{held_by_actor}
use Rattle.nv_machine.specs.Starts.{IsStart}
use Rattle.nv_machine.specs.Step.{after}
use Rattle.nv_machine.specs.World.{Event, World, cell_at, no_cell}
use Rattle.nv_machine.proofs.FiledMarks.{pair_low}
use Rattle.nv_machine.proofs.HeldLaw.{pairs_told}
use Rattle.nv_machine.proofs.HeldMarks.{used_there}
use Rattle.nv_machine.proofs.EveryWorld.{all_marked, reached}
use Rattle.nv_machine.proofs.WorldFacts.{are_cells, scanned}
use Rattle.nv_machine.proofs.MarksInUse.{same_default}
use Rattle.nv_core.specs.Audited.{device_of, parts_by_actor}
use Rattle.nv_core.proofs.AuditNamed.{named_so}
use Rattle.nv_core.proofs.AuditRecords.{alike}

module _ (g : GeometryNumbers) (start : World) (records : List Record) (events : List Event) (is_start : IsStart g start records) where
  abbrev w : World
  w = after start events

  -- a part is there exactly where its pair is needed, pending or killed
  pub kept_there : (ino n : ℕ) (pair : Pair) → let cell = cell_at w.shared ino in slice_get (pairs cell.block (log_of cell)) n ≡ Some pair
      → is_there (mark_at cell.marks n) ≡ keeps (retention_at w ino) pair
  kept_there ino n pair got =
      let cell = cell_at w.shared ino in
      let m = (all_marked g start records events is_start).cells ino in
      let low = pair_low cell.block (log_of cell) n pair got in
      ap is_there (sym (same_default cell.marks n (omega (arith, low, m.len)))) ∙ sym (used_there g start records events ino n is_start)
      ∙ pairs_told g start records events ino n pair is_start got

  there : (ino n : ℕ) (pair : Pair) → let cell = cell_at w.shared ino in slice_get (pairs cell.block (log_of cell)) n ≡ Some pair
      → is_there (mark_at cell.marks n)
      ≡ keeps (retention_by (ids w.shared.book.snaps) w.shared.book.deferred (flat_map parts_by_actor w.actors) ino cell) pair
  there ino n pair got =
      kept_there ino n pair got
      ∙ ap (λ (b : Bool). is_needed (ids w.shared.book.snaps) pair || b)
      (sym (named_so ino pair w (reached g start records events is_start).locks))

  marked : HasMarkedCells (device_of g w)
  marked ino default lt =
      subst (IsMarkedCell (ids w.shared.book.snaps) w.shared.book.deferred (flat_map parts_by_actor w.actors) ino)
      (get_or_default w.shared.cells ino no_cell default lt)
      (are_cells g start records events ino is_start lt, record { block = refl; there = there ino })

  scratch : AreFromScratch g w.shared.lists (flat_map stored_in w.shared.cells ++ flat_map held_by_actor w.actors)
  scratch cpu inside = scanned g start records events cpu is_start inside

  recorded : HasRecords (device_of g w)
  recorded k default lt = λ part.
      let living = ids w.shared.book.snaps in
      let s = slice_index_or living k default in
      let lives : Contains living s = (k, lt, get_or_default living k s default lt) in
      alike g start records events is_start s lives part.ino part.part

  pub agree : Agrees (device_of g w)
  agree = marked_agree (device_of g w) marked scratch recorded
