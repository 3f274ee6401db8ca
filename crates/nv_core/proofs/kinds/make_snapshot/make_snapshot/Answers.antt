use Rattle.std.proofs.Common.{refl}
use Rattle.nv_steps.proofs.OtherStates.{make_here}
use Rattle.nv_core.specs.Shown.{shared_of}
use Rattle.nv_core.proofs.kinds.make_snapshot.make_snapshot.Goals as goal

pub returns-clause-turn : goal.returns-clause-turn
returns-clause-turn c r none =
    make_here c.args.shared.now.book.state c.make_snapshot.new.book.state c.make_snapshot.result (shared_of c.args.shared.now) r refl none
    c.make_snapshot.ensures.turn
