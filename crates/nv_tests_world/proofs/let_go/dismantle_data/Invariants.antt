use Rattle.std.proofs.Common.{vec_len}
use Rattle.nv_tests_world.proofs.let_go.dismantle_data.Given as goal

abbrev pub decreases-loop-place : goal.decreases-loop-place
decreases-loop-place l = vec_len l.places
