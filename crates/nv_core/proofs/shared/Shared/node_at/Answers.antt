use Rattle.std.proofs.Common.{◌≡◌, Option, subst}
use Rattle.std.specs.Prelude.{IfOk}
use Rattle.nv_entry.specs.declared.node.NodeCopy.{NodeCopy}
use Rattle.nv_machine.specs.World.{cell_at}
use Rattle.nv_reader.specs.Nodes.{IsWhole}
use Rattle.nv_steps.proofs.Copies.{bytes_at, copy_lent, whole_lent}
use Rattle.nv_core.specs.Shown.{shared_of}
use Rattle.nv_core.proofs.shared.Shared.node_at.Goals as goal

pub returns-clause-ok : goal.returns-clause-ok
returns-clause-ok c =
    let s = shared_of c.args.self.now in
    let handle = c.args.handle.now in
    let whole : IsWhole (bytes_at s handle.ino) c.args.epoch (cell_at s handle.ino) =
    record { own = c.requires.own handle.ino; pages = c.requires.pages handle.ino } in
    subst (λ (n : Option NodeCopy). IfOk c.copy_on.result (λ node. node ≡ n))
    (copy_lent s c.args.epoch handle (λ cell. cell.now) c.cell.result c.cell.ensures.cell)
    (c.copy_on.ensures.ok (bytes_at s handle.ino)
    (whole_lent s c.args.epoch handle.ino (λ cell. cell.now) c.cell.result c.cell.ensures.cell whole))
