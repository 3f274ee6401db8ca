use Rattle.std.proofs.Common.{All, arith, subst, sym}
use Rattle.std.proofs.lemmas.List.Elements.{All-push}
use Rattle.nv_sessions.specs.Taken.{IsRoom}
use Rattle.nv_sessions.proofs.seats.cell_rooms.Goals as goal

pub loop-preserved : goal.loop-preserved
loop-preserved c =
    let i = c.loop.invariant in
    let more = c.push_reserved.ensures in
    record {
      count = omega (arith, i.count, more.len);
      each = subst (All IsRoom) (sym more.items) (All-push IsRoom c.loop.rooms.items c.in_ok-room.room i.each c.in_ok-room.ensures.room);
      room = omega (arith, i.room, more.capacity);
    }
