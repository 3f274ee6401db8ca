use Rattle.std.proofs.Common.{◌≡◌, ◌++◌, drop}
use Rattle.nv_audit.specs.Image.{all_notes}
use Rattle.nv_audit.proofs.faults.journals.all_notes.Given as goal

abbrev pub invariant-loop-journal : goal.invariant-loop-journal
invariant-loop-journal l = l.notes.items ++ all_notes (drop l.journal-index l.journals) ≡ all_notes l.journals
