use Rattle.nv_core.proofs.reservation.Reservation.leave.Goals as goal

pub into_hand-requires-clause-closed : goal.into_hand-requires-clause-closed
into_hand-requires-clause-closed c = (c.requires.over c.in-Commit.commit c.in-Commit.is).1
