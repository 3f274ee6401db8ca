use Rattle.std.proofs.Common.{subst, sym}
use Rattle.nv_base.specs.declared.geometry.GeometryNumbers.{GeometryNumbers}
use Rattle.nv_core.specs.Worlds.{Shows, WorldState}
use Rattle.nv_machine.specs.Format.{formatted}
use Rattle.nv_mount_tool.proofs.mounted.Goals as goal

pub returns : goal.returns
returns c =
    let one = c.new.result in
    let asked = c.in_ok-geometry.field-0.numbers in
    let made = subst (λ (world : WorldState). Shows world (formatted asked)) (sym c.new.ensures)
    c.in-Ok.ensures.ok in
    record {
      one = one;
      made = subst (λ (numbers : GeometryNumbers). Shows one.world (formatted numbers))
          c.in_ok-geometry.ensures.ok made;
      begins = c.in-Ok-new.ensures.ok;
    }
