use Rattle.std.proofs.Common.{◌≡◌, ◌++◌, drop, length}
use Rattle.nv_cell.specs.Cell.{log_of}
use Rattle.nv_cell.specs.Readers.{there_flags}
use Rattle.nv_clean.specs.Cover.{Covers}
use Rattle.nv_clean.specs.Plans.{entries_staying}
use Rattle.nv_entry.specs.ByFlags.{stays_by}
use Rattle.nv_entry.specs.Clean.{select}
use Rattle.nv_clean.proofs.walk.entries_walked.Given as goal

abbrev pub invariant-loop-place : goal.invariant-loop-place
invariant-loop-place l = record {
  flags : length l.stays.items ≡ l.place;
  covers : Covers l.cell.state.block (select l.stays.items (log_of l.cell.state)) l.cover;
  walk : l.stays.items ++ stays_by l.cell.state.block (drop l.place (there_flags l.cell.state))
      (select l.stays.items (log_of l.cell.state)) (drop l.place (log_of l.cell.state))
      ≡ entries_staying l.cell.state;
}
