use Rattle.std.proofs.Common.{All, ◌≡◌, ◌≤◌, vec_capacity, vec_len}
use Rattle.nv_sessions.specs.Taken.{IsRoom}
use Rattle.nv_sessions.proofs.seats.cell_rooms.Given as goal

abbrev pub invariant-loop : goal.invariant-loop
invariant-loop l = record {
  count : vec_len l.rooms ≡ l.counter;
  each : All IsRoom l.rooms.items;
  room : l.fn.count ≤ vec_capacity l.rooms;
}
