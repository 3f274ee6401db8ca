use Rattle.std.specs.Prelude.{None, Some}
use Rattle.nv_sessions.proofs.Refusals.{look_err}
use Rattle.nv_sessions.proofs.looks.look_name.Goals as goal

pub returns-in_default : goal.returns-in_default
returns-in_default g c = look_err c.look_at.result c.args.update.now c.args.place c.directory-ino.result.ino None c.args.before.now c.look_at.ensures

pub returns : goal.returns
returns g c = look_err c.look_at-2.result c.args.update.now c.args.place c.directory-ino.result.ino (Some c.part.result.now) c.args.before.now c.look_at-2.ensures
