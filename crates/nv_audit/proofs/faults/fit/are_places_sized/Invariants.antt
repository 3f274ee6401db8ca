use Rattle.std.specs.Prelude.{option_to_list}
use Rattle.nv_audit.proofs.Sized.{AreSoFar}
use Rattle.nv_audit.proofs.faults.fit.are_places_sized.Given as goal

abbrev pub invariant-loop-place : goal.invariant-loop-place
invariant-loop-place l = AreSoFar l.size option_to_list l.places l.place-index
