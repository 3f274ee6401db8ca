use Rattle.std.proofs.Common.{◌≡◌, map}
use Rattle.nv_trace.proofs.json_world.numbers.Given as goal

abbrev pub invariant-loop-block : goal.invariant-loop-block
invariant-loop-block l = l.numbers.items ≡ map (λ b. b.now.number) l.yielded
