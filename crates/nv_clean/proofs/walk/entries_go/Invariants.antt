use Rattle.std.proofs.Common.{◌≡◌, ◌-◌, List, drop, take}
use Rattle.nv_cell.specs.Cell.{log_of}
use Rattle.nv_cell.specs.Readers.{there_flags}
use Rattle.nv_clean.specs.Cover.{Covers}
use Rattle.nv_entry.specs.ByFlags.{all_go_by}
use Rattle.nv_entry.specs.declared.item.Entry.{Entry}
use Rattle.nv_clean.proofs.walk.entries_go.Given as goal

abbrev pub invariant-loop-place : goal.invariant-loop-place
invariant-loop-place l =
    (before : List Entry) → Covers l.cell.state.block before l.cover
    → all_go_by l.cell.state.block (drop l.place (there_flags l.cell.state)) before (take (l.to - l.place) (drop l.place (log_of l.cell.state)))
    (drop l.to (log_of l.cell.state))
    ≡ all_go_by l.cell.state.block (drop l.from (there_flags l.cell.state)) before (take (l.to - l.from) (drop l.from (log_of l.cell.state)))
    (drop l.to (log_of l.cell.state))
