use Rattle.nv_audit.proofs.EachOnce.{AreMarkedOnce}
use Rattle.nv_audit.proofs.Notes.{inos}
use Rattle.nv_audit.proofs.faults.journals.are_apart.Given as goal

abbrev pub invariant-loop-note : goal.invariant-loop-note
invariant-loop-note l = AreMarkedOnce l.slots (inos l.notes) l.note-index l.noted.items
