use Rattle.nv_effects.proofs.Drained.{calls_keep_plain}
use Rattle.nv_effects.proofs.laws.cleaners_and_drains_change_no_tree.Goals as goal

pub returns : goal.returns
returns c = calls_keep_plain
