use Rattle.std.proofs.Common.{refl, subst}
use Rattle.std.specs.Prelude.{Option}
use Rattle.nv_machine.specs.Sequence.{beginning, begun}
use Rattle.nv_core.proofs.StartShown.{shows_started}
use Rattle.nv_core.specs.Rooms.{HasActorRooms}
use Rattle.nv_core.specs.Shown.{shared_of}
use Rattle.nv_core.specs.declared.running.Running.{Running}
use Rattle.nv_core.proofs.step.begin.Goals as goal

pub returns-clause-starts : goal.returns-clause-starts
returns-clause-starts c none = (
  refl,
  refl,
  shows_started c.args.state.now.reserved c.args.shared.now c.started.result c.args.call
      (begun (beginning c.args.call) (shared_of c.args.shared.now) c.args.call)
      (subst (λ (o : Option Running). HasActorRooms c.args.shared.now c.args.state.now.reserved o) none c.requires.rooms)
      c.started.ensures.shown c.started.ensures.told,
)
