use Rattle.std.proofs.Common.{◌≡◌, ◌∙◌, refl, subst, sym}
use Rattle.nv_base.specs.declared.geometry.Geometry.{Geometry}
use Rattle.nv_restart.specs.Mounted.{mounted}
use Rattle.nv_core.proofs.RestartedWorlds.{stop_run, world_goes_on}
use Rattle.nv_core.proofs.StoppedWorlds.{hands_given, hands_go_home, world_owners, world_seen, world_stopped}
use Rattle.nv_core.specs.Restarts.{IsPlanned, image_by}
use Rattle.nv_core.specs.Stops.{HasImageRoom}
use Rattle.nv_core.specs.Worlds.{Shows, WorldState}
use Rattle.nv_core.proofs.world.World.rebuild.Goals as goal

pub empty_hands-requires : goal.empty_hands-requires
empty_hands-requires c =
    let w : WorldState = record { shared = c.self.inside.shared; actors = c.self.inside.actors.items } in
    hands_go_home w c.self.invariant.0

pub rebuild-requires-clause-can : goal.rebuild-requires-clause-can
rebuild-requires-clause-can c =
    let w : WorldState = record { shared = c.self.inside.shared; actors = c.self.inside.actors.items } in
    record {
      stopped = world_stopped w c.self.invariant.0;
      sight = world_seen w c.self.invariant.0;
      planned = subst (λ (v : WorldState). IsPlanned v.shared c.args.plan) (sym c.self.view_is) c.requires;
      seen = refl;
      free = hands_given w c.self.invariant.0 c.empty_hands.new.lists.items c.empty_hands.ensures.given;
    }

pub rebuild-requires-clause-wide : goal.rebuild-requires-clause-wide
rebuild-requires-clause-wide c =
    let w : WorldState = record { shared = c.self.inside.shared; actors = c.self.inside.actors.items } in
    world_owners w c.self.invariant.0

pub invariant_of-self : goal.invariant_of-self
invariant_of-self c =
    let w : WorldState = record { shared = c.self.inside.shared; actors = c.self.inside.actors.items } in (
      (
        mounted (image_by w.shared),
        stop_run (image_by w.shared),
        world_goes_on w c.self.invariant.0 c.rebuild.new.self c.empty_hands.new.actors.items c.rebuild.ensures.geometry
            c.rebuild.ensures.shared c.empty_hands.ensures.idle,
      ),
      subst (λ (d : Geometry). HasImageRoom d.numbers c.self.inside.room) (sym c.rebuild.ensures.geometry) c.self.invariant.1,
    )

pub returns : goal.returns
returns c =
    let w : WorldState = record { shared = c.self.inside.shared; actors = c.self.inside.actors.items } in
    subst (λ (v : WorldState). Shows (record { shared = c.rebuild.new.self; actors = c.empty_hands.new.actors.items })
    (mounted (image_by v.shared))) c.self.view_is
    (world_goes_on w c.self.invariant.0 c.rebuild.new.self c.empty_hands.new.actors.items c.rebuild.ensures.geometry
    c.rebuild.ensures.shared c.empty_hands.ensures.idle).shows
