use Rattle.std.proofs.Common.{◌≡◌, ◌+◌, ◌≤◌, take}
use Rattle.nv_book.specs.Book.{after_retiring}
use Rattle.nv_book.proofs.book.Book.retire_all.Given as goal

abbrev pub invariant-loop-killed : goal.invariant-loop-killed
invariant-loop-killed l = record {
  state : l.self.state ≡ after_retiring (take l.killed-index l.records) l.initial.self.state;
  room : l.initial.self.room ≤ l.self.room + l.killed-index;
}
