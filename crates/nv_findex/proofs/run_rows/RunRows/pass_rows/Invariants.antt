use Rattle.std.proofs.Common.{◌≡◌, ◌*◌, length}
use Rattle.std.specs.List.{insert}
use Rattle.nv_findex.proofs.run_rows.RunRows.pass_rows.Given as goal

abbrev pub invariant-loop-row : goal.invariant-loop-row
invariant-loop-row l = record {
  items : insert l.fn.self.items (l.fn.from * 128) l.fn.run ≡ insert l.self.items (l.row * 128) l.out;
  len : length l.self.items ≡ length l.fn.self.items;
  capacity : l.self.capacity ≡ l.fn.self.capacity;
}
