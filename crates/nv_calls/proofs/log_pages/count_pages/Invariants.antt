use Rattle.std.proofs.Common.{◌≡◌, ◌+◌, ◌*◌, ◌≤◌, ℕ, take}
use Rattle.std.specs.List.{sum_by}
use Rattle.nv_calls.proofs.PagesByInode.{pages_at}
use Rattle.nv_calls.proofs.log_pages.count_pages.Given as goal

abbrev pub invariant-loop-ino : goal.invariant-loop-ino
invariant-loop-ino g l = record {
  sum : l.wanted ≡ sum_by (pages_at (g.C.Cells.cells l.cells)) (take l.ino-index l.ino-items);
  few : l.wanted ≤ sum_by (λ (entries : ℕ × ℕ). entries.1) (take l.ino-index l.ino-items) + 7 * l.ino-index;
}
