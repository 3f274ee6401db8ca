use Rattle.nv_machine.proofs.Pins.{pins_of_shows}
use Rattle.nv_machine.proofs.snapshot_laws.pins_are_of_shows.Goals as goal

pub returns : goal.returns
returns c g start records events snapshot is_start = pins_of_shows g start records events snapshot is_start
