use Rattle.std.proofs.Common.{◌≡◌, drop}
use Rattle.nv_calls.specs.Nodes.{cell_of}
use Rattle.nv_sessions.proofs.checking.is_empty_slot.Given as goal

abbrev pub invariant-loop-k : goal.invariant-loop-k
invariant-loop-k g l = cell_of (drop l.k (g.L.Cells.cells l.lent)) l.ino ≡ cell_of (g.L.Cells.cells l.lent) l.ino
