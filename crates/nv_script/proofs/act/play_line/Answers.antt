use Rattle.std.proofs.Common.{◌∙◌, sym}
use Rattle.nv_script.proofs.Asking.{skipped_asks}
use Rattle.nv_script.proofs.act.play_line.Goals as goal

pub returns-then-is_skipped-clause-asked : goal.returns-then-is_skipped-clause-asked
returns-then-is_skipped-clause-asked g c = λ asks.
    skipped_asks c.args.world.now c.args.line.now (sym c.is_skipped.ensures ∙ c.if-is_skipped.true) asks
