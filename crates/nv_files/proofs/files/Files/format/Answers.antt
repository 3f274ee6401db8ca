use Rattle.nv_serial.specs.Serial.{new_serial}
use Rattle.nv_files.proofs.Methods.{new_stands}
use Rattle.nv_files.proofs.files.Files.format.Goals as goal

pub invariant_of-result : goal.invariant_of-result
invariant_of-result c = (
  new_serial c.args.geometry.numbers,
  new_stands c.args.geometry.numbers c.args.geometry.limits c.in_ok-world.world c.in_ok-world.ensures.ok,
)

pub returns-clause-ok : goal.returns-clause-ok
returns-clause-ok c =
    new_stands c.args.geometry.numbers c.args.geometry.limits c.in_ok-world.world c.in_ok-world.ensures.ok
