use Rattle.std.proofs.Common.{arith}
use Rattle.nv_calls.proofs.log_pages.have_room.Goals as goal

pub returns : goal.returns
returns g c = λ k all lt. c.loop-k.invariant k (omega (arith, lt, c.loop-k-test.false, c.count-k-end.ensures))
