use Rattle.std.proofs.Common.{refl, subst, true}
use Rattle.nv_audit.specs.Image.{ImageValue}
use Rattle.nv_restart.specs.Mounted.{mounted}
use Rattle.nv_core.proofs.StoppedWorlds.{image_shown}
use Rattle.nv_core.specs.Worlds.{Shows}
use Rattle.nv_core.proofs.world.World.restart.Goals as goal

pub returns-in-Ok : goal.returns-in-Ok
returns-in-Ok c m shows = record {
  granted = true;
  told_is = refl;
  shows = subst (λ (i : ImageValue). Shows c.rebuild.new.self (mounted i)) (image_shown c.args.self.now m shows) c.rebuild.ensures;
}
