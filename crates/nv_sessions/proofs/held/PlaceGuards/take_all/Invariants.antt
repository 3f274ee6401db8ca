use Rattle.std.proofs.Common.{◌≡◌, ◌+◌, take, vec_capacity, vec_len}
use Rattle.std.specs.List.{AllByRecursion}
use Rattle.nv_sessions.specs.Changing.{blocks_in}
use Rattle.nv_sessions.specs.Taken.{ArePlaces, IsTaken, inos_of, pairs}
use Rattle.nv_sessions.proofs.held.PlaceGuards.take_all.Given as goal

abbrev pub invariant-loop-slot : goal.invariant-loop-slot
invariant-loop-slot g l = record {
  places : ArePlaces l.self.guards.items l.list.cells.items;
  inos : inos_of l.list.cells.items ≡ take l.slot-index l.slots;
  count : vec_len l.list.cells ≡ l.slot-index;
  taken : AllByRecursion (IsTaken g.C.Commits.opened l.fn.notes) l.list.cells.items;
  notes : l.notes ≡ l.fn.notes;
  parts : l.mine.parts ≡ l.fn.mine.parts;
  amount : l.mine.amount ≡ l.fn.mine.amount + blocks_in (pairs l.list.cells.items);
  room : vec_capacity l.list.cells ≡ vec_capacity l.fn.list.cells;
}
