use Rattle.nv_cell.proofs.ReadySteps.{adds_page}
use Rattle.nv_cell.proofs.laws.a_page_gives_its_room.Goals as goal

pub returns : goal.returns
returns c = adds_page
