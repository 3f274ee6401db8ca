use Rattle.std.proofs.Common.{ℕ, Option, ap, ◌∙◌}
use Rattle.nv_calls.specs.Prepared.{handle_made_by}
use Rattle.nv_calls.proofs.Prepares.{ready_is}
use Rattle.nv_calls.proofs.prepare.ready_on.Goals as goal

pub returns-in-Ok-clause-ok : goal.returns-in-Ok-clause-ok
returns-in-Ok-clause-ok g c =
    ready_is (g.C.Cells.cells c.args.cells.now) (g.C.Cells.cells c.prepare-prepared.new.cells) c.args.hand c.args.update _ _ _ _
    c.new.result
    c.new.ensures.update c.new.ensures.made c.new.ensures.plans c.new.ensures.hand c.new.ensures.need (c.made_by-made.ensures
    ∙ ap (λ (number : Option ℕ). handle_made_by (g.C.Cells.cells c.args.cells.now) number c.args.update) c.ino.ensures)
    c.in-Ok.ensures.runs c.in-Ok.ensures.plans c.prepare-prepared.ensures.some_bytes
    c.prepare-prepared.ensures.hand c.in-Ok.ensures.ready c.in-Ok.ensures.need c.in-Ok.ensures.room c.in-Ok.ensures.blocks
    c.in-Ok.ensures.few
    c.requires.pages c.prepare-prepared.ensures.cells
