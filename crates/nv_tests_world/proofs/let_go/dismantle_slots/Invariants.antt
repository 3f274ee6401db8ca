use Rattle.std.proofs.Common.{vec_len}
use Rattle.nv_tests_world.proofs.let_go.dismantle_slots.Given as goal

abbrev pub decreases-loop-slot : goal.decreases-loop-slot
decreases-loop-slot l = vec_len l.slots
