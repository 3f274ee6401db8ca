use Rattle.nv_script.proofs.Looked.{none_shown, some_shown}
use Rattle.nv_script.proofs.player.shows_some.Goals as goal

pub returns-in-Some : goal.returns-in-Some
returns-in-Some c = some_shown _ _ c.in-Some.is c.consistent.ensures

pub returns-in-None : goal.returns-in-None
returns-in-None c = none_shown _ c.in-None.is
