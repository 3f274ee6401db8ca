use Rattle.std.proofs.Common.{◌∙◌, sym}
use Rattle.std.proofs.lemmas.List.{length-map}
use Rattle.nv_cell.specs.Cell.{CellValue}
use Rattle.nv_core.proofs.Starts.{starts}
use Rattle.nv_core.specs.Shown.{next_of, shared_of, slots_in}
use Rattle.nv_core.proofs.running.Running.started.Goals as goal

pub returns-clause-shown : goal.returns-clause-shown
returns-clause-shown c =
    let s = shared_of c.args.shared.now in
    let many = length-map c.args.shared.now.cells.items (λ (x : CellValue). x.state) ∙ sym c.inodes.ensures in
    let first = c.first_step-next.ensures.first s c.request_of-request.result.1 c.args.call many c.request_of-request.ensures.of in
    rw c.new.ensures (rw c.new-2.ensures (starts s c.args.call (next_of c.first_step-next.result.0)
    (slots_in c.first_step-next.result.1) first.0 first.1))
