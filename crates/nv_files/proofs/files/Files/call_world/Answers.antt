use Rattle.std.proofs.Common.{subst}
use Rattle.nv_files.specs.Stands.{IsResting}
use Rattle.nv_files.proofs.Methods.{rests}
use Rattle.nv_files.proofs.files.Files.call_world.Goals as goal

pub invariant_of-self : goal.invariant_of-self
invariant_of-self c =
    rests c.args.call c.call.result c.self.inside.world c.call.new.self c.self.invariant c.call.ensures

pub returns-clause-rested : goal.returns-clause-rested
returns-clause-rested c =
    subst IsResting c.self.view_is c.self.invariant

pub returns-clause-whole : goal.returns-clause-whole
returns-clause-whole c =
    rw (← c.self.view_is) c.call.ensures
