use Rattle.std.proofs.Common.{vec_len}
use Rattle.nv_tests_world.proofs.let_go.dismantle_chain.Given as goal

abbrev pub decreases-loop-page : goal.decreases-loop-page
decreases-loop-page l = vec_len l.pages
