use Rattle.std.proofs.Common.{◌≡◌, ◌++◌, map}
use Rattle.nv_core.proofs.audit.push_numbers.Given as goal

abbrev pub invariant-loop-block : goal.invariant-loop-block
invariant-loop-block l = l.numbers.items ≡ l.initial.numbers.items ++ map (λ b. b.now.number) l.yielded
