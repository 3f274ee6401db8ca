use Rattle.std.proofs.Common.{◌++◌, ◌-◌, List, drop, take}
use Rattle.nv_cell.specs.Cell.{log_of}
use Rattle.nv_clean.specs.Cover.{Covers}
use Rattle.nv_entry.specs.declared.item.Entry.{Entry}
use Rattle.nv_clean.proofs.walk.note_all.Given as goal

abbrev pub invariant-loop-place : goal.invariant-loop-place
invariant-loop-place l =
    (before : List Entry) → Covers l.cell.state.block before l.initial.cover
    → Covers l.cell.state.block (before ++ take (l.place - l.from) (drop l.from (log_of l.cell.state))) l.cover
