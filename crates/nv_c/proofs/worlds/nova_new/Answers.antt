use Rattle.nv_c.specs.Numbers.{geometry_in}
use Rattle.nv_c.proofs.Made.{is_new}
use Rattle.nv_c.proofs.worlds.nova_new.Goals as goal

pub returns-in-Ok : goal.returns-in-Ok
returns-in-Ok c =
    is_new (geometry_in c.args.geometry.now) c.new.result c.in-Ok.held c.args.out.now.world.held c.fill.new.self.world.held c.in-Ok.is
    c.fill.ensures c.new.ensures
