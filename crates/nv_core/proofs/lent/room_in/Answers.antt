use Rattle.nv_core.proofs.lent.room_in.Goals as goal

pub returns-clause-err : goal.returns-clause-err
returns-clause-err c = rw c.as_slice-slots.ensures.slots at c.make_room.ensures.err
