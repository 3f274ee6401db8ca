use Rattle.std.proofs.Common.{ap}
use Rattle.nv_sessions.specs.Taken.{places_of}
use Rattle.nv_sessions.proofs.held.PlaceGuards.none.Goals as goal

pub returns : goal.returns
returns g c = ap places_of c.new.ensures.items
