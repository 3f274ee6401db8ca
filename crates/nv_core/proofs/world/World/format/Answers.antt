use Rattle.std.proofs.Common.{ap, subst, sym}
use Rattle.nv_base.specs.declared.geometry.Geometry.{Geometry}
use Rattle.nv_machine.specs.Format.{formatted}
use Rattle.nv_core.proofs.Formats.{world_made}
use Rattle.nv_core.specs.Stops.{HasImageRoom}
use Rattle.nv_core.specs.Worlds.{new_run}
use Rattle.nv_core.proofs.world.World.format.Goals as goal

pub invariant_of-result : goal.invariant_of-result
invariant_of-result c =
    let g = c.args.geometry.numbers in
    let made = world_made g c.add_all.new.shared c.add_all.new.actors.items c.args.geometry.limits
    (ap (λ (device : Geometry). device.numbers) c.add_all.ensures.geometry) c.in-Ok.ensures.shared c.in-Ok.ensures.actors in (
      (formatted g, new_run g, made),
      subst (λ (device : Geometry). HasImageRoom device.numbers c.in-Ok.room) (sym c.add_all.ensures.geometry) c.in-Ok.ensures.room,
    )
