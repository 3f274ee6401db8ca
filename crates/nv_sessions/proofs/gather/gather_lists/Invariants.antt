use Rattle.std.proofs.Common.{◌≡◌, ℕ, ◌+◌, sum_by, length}
use Rattle.nv_sessions.proofs.gather.gather_lists.Given as goal

abbrev pub invariant-loop-rest : goal.invariant-loop-rest
invariant-loop-rest g l = record {
  parts : l.blocks.parts ≡ l.initial.blocks.parts + length l.yielded;
  amount : l.blocks.amount ≡ l.initial.blocks.amount + sum_by (λ (r : ℕ). r) l.yielded;
}
