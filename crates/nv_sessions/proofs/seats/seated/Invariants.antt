use Rattle.std.proofs.Common.{All, ◌≡◌, ◌+◌, map, vec_len, vec_capacity}
use Rattle.std.specs.List.{range_with_len}
use Rattle.nv_sessions.specs.Seats.{new_session}
use Rattle.nv_sessions.specs.Taken.{IsRoom}
use Rattle.nv_sessions.proofs.seats.seated.Given as goal

abbrev pub invariant-loop-number : goal.invariant-loop-number
invariant-loop-number g l = record {
  sessions : l.into.items ≡ map new_session (range_with_len 0 l.number);
  count : vec_len l.into ≡ l.number;
  rooms : vec_len l.rooms + l.number ≡ l.fn.count;
  each : All IsRoom l.rooms.items;
  left : vec_len l.free + l.number ≡ vec_len l.initial.free;
  room : vec_capacity l.into ≡ vec_capacity l.initial.into;
}
