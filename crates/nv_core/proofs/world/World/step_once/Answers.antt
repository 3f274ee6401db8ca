use Rattle.std.proofs.Common.{subst, sym}
use Rattle.nv_base.specs.declared.geometry.Geometry.{Geometry}
use Rattle.nv_machine.specs.Step.{step}
use Rattle.nv_machine.specs.World as machine
use Rattle.nv_core.proofs.Replies.{replied_own}
use Rattle.nv_core.proofs.WorldKept.{HasGone, can_go, go_geometry, go_keeps, go_steps}
use Rattle.nv_core.specs.Rooms.{HasActorRooms}
use Rattle.nv_core.specs.Stops.{HasImageRoom}
use Rattle.nv_core.specs.Worlds.{Shows, WorldState}
use Rattle.nv_core.specs.declared.world.Actor.{Actor}
use Rattle.nv_core.proofs.world.World.step_once.Goals as goal

pub make_step-requires-clause-can : goal.make_step-requires-clause-can
make_step-requires-clause-can c =
    let at = c.in-Some.ensures.item in
    let w : WorldState = record { shared = c.self.inside.shared; actors = c.self.inside.actors.items } in
    can_go w c.self.invariant.0 c.args.actor at.3.0 c.in-Some.state.now c.in-Some.state.now (sym (at.3.1 c.in-Some.state.now))

pub make_step-requires-clause-rooms : goal.make_step-requires-clause-rooms
make_step-requires-clause-rooms c =
    let at = c.in-Some.ensures.item in
    let own = c.in-Some.state.now in
    subst (λ (a : Actor). HasActorRooms c.self.inside.shared a.reserved a.running) (sym (at.3.1 own))
    (c.self.invariant.0.2.rooms c.args.actor own at.3.0)

pub invariant_of-self : goal.invariant_of-self
invariant_of-self c =
    let at = c.in-Some.ensures.item in
    let own = c.in-Some.state.now in
    let w : WorldState = record { shared = c.self.inside.shared; actors = c.self.inside.actors.items } in
    let gone : HasGone w c.args.actor own c.make_step.new.reply c.make_step.new.shared c.make_step.new.state =
    record { idle = c.make_step.ensures.idle; turns = c.make_step.ensures.turns; rest = c.make_step.ensures.rest; rooms = c.make_step.ensures.rooms } in
    let own_gone = subst (λ (a : Actor). HasGone w c.args.actor a c.make_step.new.reply c.make_step.new.shared c.make_step.new.state) (at.3.1 own) gone in (
      go_keeps w c.args.actor own c.make_step.new.shared c.make_step.new.state c.make_step.new.reply at.3.0 c.self.invariant.0 own_gone,
      subst (λ (g : Geometry). HasImageRoom g.numbers c.self.inside.room)
          (sym (go_geometry w c.args.actor own c.make_step.new.shared c.make_step.new.state c.make_step.new.reply at.3.0 c.self.invariant.0 own_gone))
          c.self.invariant.1,
    )

pub returns-in-Some-clause-step : goal.returns-in-Some-clause-step
returns-in-Some-clause-step c m shows =
    let at = c.in-Some.ensures.item in
    let own = c.in-Some.state.now in
    let w : WorldState = record { shared = c.self.inside.shared; actors = c.self.inside.actors.items } in
    let gone : HasGone w c.args.actor own c.make_step.new.reply c.make_step.new.shared c.make_step.new.state =
    record { idle = c.make_step.ensures.idle; turns = c.make_step.ensures.turns; rest = c.make_step.ensures.rest; rooms = c.make_step.ensures.rooms } in
    go_steps w m c.args.actor own c.make_step.new.shared c.make_step.new.state c.make_step.new.reply
    (subst (λ (v : WorldState). Shows v m) (sym c.self.view_is) shows) at.3.0 c.self.invariant.0
    (subst (λ (a : Actor). HasGone w c.args.actor a c.make_step.new.reply c.make_step.new.shared c.make_step.new.state) (at.3.1 own) gone)

pub returns-in-Some-clause-replied : goal.returns-in-Some-clause-replied
returns-in-Some-clause-replied c =
    let at = c.in-Some.ensures.item in
    let own = c.in-Some.state.now in
    let w : WorldState = record { shared = c.self.inside.shared; actors = c.self.inside.actors.items } in
    let m = c.self.invariant.0.0 in
    let gone : HasGone w c.args.actor own c.make_step.new.reply c.make_step.new.shared c.make_step.new.state =
    record { idle = c.make_step.ensures.idle; turns = c.make_step.ensures.turns; rest = c.make_step.ensures.rest; rooms = c.make_step.ensures.rooms } in
    let made = go_steps w m c.args.actor own c.make_step.new.shared c.make_step.new.state c.make_step.new.reply
    c.self.invariant.0.2.shows at.3.0 c.self.invariant.0
    (subst (λ (a : Actor). HasGone w c.args.actor a c.make_step.new.reply c.make_step.new.shared c.make_step.new.state) (at.3.1 own) gone) in
    replied_own c.make_step.new.reply (step m (machine.Go c.args.actor made.granted)).reply made.told_is
