use Rattle.std.proofs.Common.{arith, ap, map, sym, ◌∙◌, ◌++◌, ◌∷◌, []}
use Rattle.std.specs.List.{range_with_len}
use Rattle.std.proofs.lemmas.List.FromFn.{map-range_with_len_more}
use Rattle.nv_sessions.specs.Seats.{new_session}
use Rattle.nv_sessions.specs.Sessions.{SessionValue}
use Rattle.nv_sessions.proofs.seats.seated.Goals as goal

pub loop-number-preserved : goal.loop-number-preserved
loop-number-preserved g c =
    let i = c.loop-number.invariant in
    let number = c.loop-number.number in
    record {
      sessions = c.push_reserved.ensures.items ∙ ap (λ xs. xs ++ c.session.result ∷ []) i.sessions
          ∙ ap (λ (s : SessionValue). map new_session (range_with_len 0 number) ++ s ∷ []) c.session.ensures
          ∙ sym (map-range_with_len_more new_session 0 number number (omega arith));
      count = omega (arith, c.push_reserved.ensures.len, i.count);
      rooms = omega (arith, i.rooms, c.next_room-room.ensures.count);
      each = c.next_room-room.ensures.each;
      left = omega (arith, i.left, c.in-Some.ensures.len);
      room = c.push_reserved.ensures.capacity ∙ i.room;
    }
