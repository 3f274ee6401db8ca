use Rattle.std.proofs.Common.{◌≡◌, ◌++◌}
use Rattle.nv_alloc.specs.Block.{numbers_of}
use Rattle.nv_alloc.specs.Runs.{HaveGaps, numbers_in}
use Rattle.nv_audit.proofs.blocks.push_free.Given as goal

abbrev pub invariant-loop-run : goal.invariant-loop-run
invariant-loop-run l = record {
  can : (goal.iterator-loop-run).can_next l.run-iterator;
  finite : (goal.iterator-loop-run).is_finite l.run-iterator;
  gaps : HaveGaps l.run-iterator;
  put : l.numbers.items ++ numbers_in l.run-iterator ≡ l.initial.numbers.items ++ numbers_of l.list.blocks;
}
