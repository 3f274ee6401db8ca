use Rattle.std.proofs.Common.{subst, sym}
use Rattle.std.specs.Prelude.{◌↔◌, IfOk, IsTrue}
use Rattle.nv_base.specs.declared.fault.ImageFault.{ImageFault}
use Rattle.nv_audit.specs.Faults.{IsWithout}
use Rattle.nv_audit.proofs.faults.is_without.Goals as goal

pub returns-in-Block-clause-ok : goal.returns-in-Block-clause-ok
returns-in-Block-clause-ok c =
    subst (λ (f : ImageFault). IfOk c.are_blocks_good.result (λ is. IsTrue is ↔ IsWithout f c.args.image.now)) (sym c.in-Block.is)
    c.are_blocks_good.ensures.ok

pub returns-in-Item-clause-ok : goal.returns-in-Item-clause-ok
returns-in-Item-clause-ok c =
    subst (λ (f : ImageFault). IfOk c.are_items_good.result (λ is. IsTrue is ↔ IsWithout f c.args.image.now)) (sym c.in-Item.is)
    c.are_items_good.ensures.ok

pub returns-in-Run-clause-ok : goal.returns-in-Run-clause-ok
returns-in-Run-clause-ok c =
    subst (λ (f : ImageFault). IfOk c.are_runs_good.result (λ is. IsTrue is ↔ IsWithout f c.args.image.now)) (sym c.in-Run.is)
    c.are_runs_good.ensures.ok
