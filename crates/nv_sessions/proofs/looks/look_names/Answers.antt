use Rattle.std.proofs.Common.{arith}
use Rattle.nv_sessions.proofs.Refusals.{looking, looks_for, nothing_found}
use Rattle.nv_sessions.proofs.looks.look_names.Goals as goal

pub loop-place-init : goal.loop-place-init
loop-place-init g c = nothing_found c.args.update.now

pub loop-place-preserved : goal.loop-place-preserved
loop-place-preserved g c =
    looks_for c.args.update.now c.in_ok-looked.looked (looking c.args.update.now c.loop-place.place (omega arith))
