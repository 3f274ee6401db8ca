use Rattle.std.proofs.Common.{ap}
use Rattle.nv_calls.specs.Nodes.{IsView, view_refusal}
use Rattle.nv_calls.specs.Views.{visit_grows}
use Rattle.nv_calls.proofs.Visits.{view_match}
use Rattle.nv_calls.proofs.view.view_on.Goals as goal

pub returns-in-Read : goal.returns-in-Read
returns-in-Read c bytes are =
    view_match c.read_on.result (IsView bytes c.args.ino c.args.cell.now c.args.call)
    (view_refusal bytes c.args.ino c.args.cell.now c.args.call)
    (visit_grows c.args.call) (c.read_on.ensures.view bytes are) (c.read_on.ensures.err bytes) (ap visit_grows c.in-Read.is)

pub returns-in-List : goal.returns-in-List
returns-in-List c bytes are =
    view_match c.list_on.result (IsView bytes c.args.ino c.args.cell.now c.args.call)
    (view_refusal bytes c.args.ino c.args.cell.now c.args.call)
    (visit_grows c.args.call) (c.list_on.ensures.view bytes) (c.list_on.ensures.err bytes) (ap visit_grows c.in-List.is)
