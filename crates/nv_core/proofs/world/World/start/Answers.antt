use Rattle.std.proofs.Common.{subst, sym, true}
use Rattle.nv_core.proofs.WorldKept.{HasStarted, start_keeps, start_steps}
use Rattle.nv_core.specs.Worlds.{Shows, WorldState}
use Rattle.nv_core.specs.declared.world.Actor.{Actor}
use Rattle.nv_core.proofs.world.World.start.Goals as goal

pub invariant_of-self-2 : goal.invariant_of-self-2
invariant_of-self-2 c =
    let at = c.in-Some.ensures.item in
    let own = c.in-Some.state.now in
    let w : WorldState = record { shared = c.self.inside.shared; actors = c.self.inside.actors.items } in
    let has : HasStarted w own c.args.call c.begin.result c.begin.new.state =
    record { busy = c.begin.ensures.busy; starts = c.begin.ensures.starts; rooms = c.begin.ensures.rooms } in (
      start_keeps w c.args.actor own c.args.call c.begin.new.state c.begin.result at.3.0 c.self.invariant.0
          (subst (λ (a : Actor). HasStarted w a c.args.call c.begin.result c.begin.new.state) (at.3.1 own) has),
      c.self.invariant.1,
    )

pub returns : goal.returns
returns c m shows =
    let at = c.in-Some.ensures.item in
    let own = c.in-Some.state.now in
    let w : WorldState = record { shared = c.self.inside.shared; actors = c.self.inside.actors.items } in
    let has : HasStarted w own c.args.call c.begin.result c.begin.new.state =
    record { busy = c.begin.ensures.busy; starts = c.begin.ensures.starts; rooms = c.begin.ensures.rooms } in
    let one = start_steps w m c.args.actor own c.args.call c.begin.new.state c.begin.result
    (subst (λ (v : WorldState). Shows v m) (sym c.self.view_is) shows) at.3.0
    (subst (λ (a : Actor). HasStarted w a c.args.call c.begin.result c.begin.new.state) (at.3.1 own) has) in
    record { granted = true; told_is = one.0; shows = one.1 }
