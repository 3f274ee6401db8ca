use Rattle.std.proofs.Common.{◌≡◌, true, [], is_some, length, Option, Some, ap, sym, ◌∙◌}
use Rattle.std.specs.Prelude.{option_and_then, option_map}
use Rattle.nv_cell.specs.Cell.{CellValue}
use Rattle.nv_calls.specs.Nodes.{cell_of, own_node}
use Rattle.nv_calls.specs.Plain.{PlainNode}
use Rattle.nv_calls.specs.Refusals.{bytes_of}
use Rattle.nv_calls.specs.Views.{copy_of}
use Rattle.nv_calls.proofs.NodesHeld.{size_is}
use Rattle.nv_calls.proofs.held_nodes.HeldNodesNodes.size.Goals as goal

pub returns-then-has_node : goal.returns-then-has_node
returns-then-has_node g c =
    let file = c.args.file.now in
    let cell = c.in-Some.cell.now in
    let found : cell_of (g.C.Cells.cells c.args.self.now.cells.now) file.ino ≡ Some cell =
    sym (rw c.in-Some.is at c.cell_of.ensures) in
    let there : is_some (copy_of (λ number. []) cell.state file) ≡ true =
    sym (c.has_node.ensures (λ number. [])) ∙ c.if-has_node.true in
    c.size.ensures ∙ size_is cell.state file c.holds_together.ensures there
    ∙ ap (λ (o : Option CellValue). length (bytes_of (option_map (λ (p : PlainNode). p.node)
    (option_and_then (λ (v : CellValue). own_node v.state file) o))))
    (sym found)
