use Rattle.std.proofs.Common.{arith}
use Rattle.std.proofs.lemmas.Option.{slice_get_within}
use Rattle.nv_sessions.proofs.Keeping.{always_ok, held_out}
use Rattle.nv_sessions.proofs.guards.hold.Goals as goal

-- there is a lock for each slot of the device
pub returns-clause-slot : goal.returns-clause-slot
returns-clause-slot g c =
    let service = c.args.service.now in
    always_ok c.hold_at.result _
    (omega (arith, slice_get_within service.cells.locks.items c.args.ino _ c.in-Some.ensures, service.cells.locks.ok, service.slots))

pub returns-clause-misplaced : goal.returns-clause-misplaced
returns-clause-misplaced g c = held_out c.hold_at.result _ _ c.hold_at.ensures.misplaced
