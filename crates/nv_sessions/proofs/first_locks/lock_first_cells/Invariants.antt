use Rattle.std.proofs.Common.{◌≡◌, ◌+◌, drop, length, reverse, vec_len, vec_capacity}
use Rattle.nv_sessions.specs.Opened.{cell_blocks, versions_in}
use Rattle.nv_sessions.proofs.first_locks.lock_first_cells.Given as goal

abbrev pub decreases-loop-cell : goal.decreases-loop-cell
decreases-loop-cell g l = length l.cells.items

abbrev pub invariant-loop-cell : goal.invariant-loop-cell
invariant-loop-cell g l = record {
  opened : reverse (versions_in l.cells.items) ≡ drop (vec_len l.into.locks) g.C.Commits.opened;
  count : vec_len l.into.locks + vec_len l.cells ≡ vec_len l.initial.cells;
  maker : l.maker ≡ vec_len l.into.locks;
  parts : l.rest.parts + vec_len l.into.locks ≡ l.initial.rest.parts;
  nothing : l.rest.amount ≡ 0;
  total : l.book.total + cell_blocks l.cells.items ≡ l.initial.book.total + cell_blocks l.initial.cells.items;
  room : vec_capacity l.into.locks ≡ vec_capacity l.initial.into.locks;
}
